pub mod Padding
pub mod Bytes
pub mod Blocks
