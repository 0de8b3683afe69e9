pub mod Working
pub mod Desk
pub mod Store
pub mod Transcript
pub mod Edges
