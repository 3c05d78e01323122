pub mod Cell
pub mod CellLaw
pub mod Halfway
pub mod Roots
pub mod Sha256
pub mod SipHash
