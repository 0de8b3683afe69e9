pub mod Bounds
pub mod Cells
pub mod Strip
pub mod Counters
