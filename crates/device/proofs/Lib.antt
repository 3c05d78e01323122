pub mod EveryPile
pub mod Evicted
pub mod Slots
