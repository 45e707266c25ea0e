pub mod Exactly
pub mod Forms
pub mod Peeled
pub mod Spelled
