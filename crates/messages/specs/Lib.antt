pub mod Kinds
pub mod Wire
pub mod Fields
pub mod Codec
pub mod Trips
pub mod Entry
