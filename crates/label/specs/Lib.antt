pub mod Label
pub mod Report
