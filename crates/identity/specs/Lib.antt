pub mod Chips
pub mod Plates
pub mod Made
pub mod Exact
