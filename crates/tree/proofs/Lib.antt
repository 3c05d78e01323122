pub mod Cells
pub mod Levels
pub mod Whole
pub mod Paths
pub mod Updates
