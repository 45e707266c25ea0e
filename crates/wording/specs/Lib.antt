-- The definitions that this crate's contracts cite, one concept to a file. Assumes nothing.
pub mod Words
pub mod Faults
pub mod Lines
pub mod Dollars
pub mod Amounts
