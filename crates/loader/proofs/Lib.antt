pub mod Sums
pub mod SlotRows
pub mod Adding
pub mod Choosing
