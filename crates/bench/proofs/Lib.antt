pub mod Lending
pub mod Outs
