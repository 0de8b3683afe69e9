pub mod Splits
mod Readings
mod Names
mod Trips
