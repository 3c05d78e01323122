pub mod Lines
pub mod Words
pub mod Numbers
pub mod Keys
pub mod Listing
