-- The definitions that this crate's contracts cite, one concept to a file. Assumes nothing.
pub mod Statements
pub mod Requests
pub mod Answers
pub mod Texts
