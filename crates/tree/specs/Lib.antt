pub mod Layout
pub mod Paths
