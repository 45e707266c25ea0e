-- The definitions that this crate's contracts cite, one concept to a file. Assumes nothing.
pub mod Lines
pub mod Schedules
pub mod Charges
pub mod Answers
pub mod Laws
