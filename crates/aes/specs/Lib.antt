pub mod Field
pub mod Cipher
pub mod Mac
pub mod Vectors
pub mod Words
pub mod Calls
pub mod Lengths
