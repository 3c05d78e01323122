pub mod First
pub mod Hex
pub mod Suite
pub mod Vectors
