mod Lists
pub mod Table
pub mod Rules
pub mod Words
pub mod Columns
pub mod Rounds
pub mod Macs
pub mod Examples
