-- The definitions that this crate's contracts cite, one concept to a file. Assumes nothing.
pub mod Errors
pub mod Faults
pub mod Months
pub mod Bills
pub mod Reading
pub mod Accepted
pub mod Layers
