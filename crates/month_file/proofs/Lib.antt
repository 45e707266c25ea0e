pub mod Fairly
pub mod Turns
