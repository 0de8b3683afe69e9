pub mod Naming
pub mod Takes
pub mod Trips
pub mod Words
