pub mod Identity
pub mod Block
