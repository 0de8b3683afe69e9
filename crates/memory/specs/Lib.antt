pub mod Model
pub mod Laws
pub mod Shown
pub mod View
pub mod Opened
