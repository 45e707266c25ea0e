pub mod Encodes
pub mod Framed
