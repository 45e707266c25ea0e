-- The definitions that this crate's contracts cite, one concept to a file. Assumes nothing.
pub mod Members
pub mod Limits
pub mod Contents
pub mod Rows
pub mod Places
pub mod Fixing
pub mod Bounds
pub mod Settled
