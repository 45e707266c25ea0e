pub mod Amounts
pub mod Passed
pub mod Spelled
