pub mod Plated
pub mod Chipped
