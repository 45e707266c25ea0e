-- The definitions that this crate's contracts cite, one concept to a file. Assumes nothing.
pub mod Fields
pub mod Letters
pub mod Entries
pub mod Records
pub mod Files
pub mod Numbers
pub mod Readings
pub mod Views
