pub mod Search
pub mod Shift
pub mod Memory
pub mod Rows
pub mod Balances
mod Within
