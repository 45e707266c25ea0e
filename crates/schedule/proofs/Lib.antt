pub mod Integers
pub mod Products
pub mod Scan
pub mod Greatest
