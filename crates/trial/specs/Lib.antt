pub mod Cards
pub mod Drill
pub mod Good
pub mod Lists
pub mod Played
pub mod Takes
pub mod Trial
