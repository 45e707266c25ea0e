-- The definitions that this crate's contracts cite, one concept to a file. Assumes nothing.
pub mod Limits
pub mod Refusals
pub mod Months
pub mod Book
pub mod Postings
pub mod Missing
pub mod Calls
pub mod Runs
pub mod Gases
pub mod Sizes
pub mod Sums
pub mod Charges
pub mod Shares
pub mod Cents
pub mod Bills
pub mod FairSplit
