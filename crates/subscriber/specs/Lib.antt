pub mod Text
pub mod Number
pub mod Items
pub mod Plain
pub mod Fault
pub mod Sheet
pub mod Answer
