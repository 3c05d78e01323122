pub mod Beside
pub mod Report
pub mod Spent
