pub mod Adding
pub mod Ending
