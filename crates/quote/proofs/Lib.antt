pub mod Printed
pub mod Spelled
