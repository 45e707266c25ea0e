-- The definitions that this crate's contracts cite, one concept to a file. Assumes nothing.
pub mod Block
pub mod Lines
pub mod Listing
pub mod Sheets
pub mod Words
