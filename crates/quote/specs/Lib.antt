-- The definitions that this crate's contracts cite, one concept to a file. Assumes nothing.
pub mod Quotes
pub mod Requests
pub mod Texts
