-- The definitions that this crate's contracts cite, one concept to a file. Assumes nothing.
pub mod Limits
pub mod Refusals
pub mod Places
pub mod Order
pub mod Keepings
pub mod Rounding
pub mod Sheets
pub mod Gas
pub mod Bills
pub mod Late
pub mod Accounts
pub mod Runs
