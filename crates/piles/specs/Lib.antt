pub mod Contents
pub mod Obeys
