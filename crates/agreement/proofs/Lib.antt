pub mod Accepted
pub mod Running
pub mod Sizes
pub mod Rounding
pub mod Fairness
