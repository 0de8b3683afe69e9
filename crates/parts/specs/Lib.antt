pub mod Bounds
pub mod Supply
pub mod Part
pub mod Kinds
