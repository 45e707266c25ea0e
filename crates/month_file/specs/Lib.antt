-- The definitions that this crate's contracts cite, one concept to a file. Assumes nothing.
pub mod Views
pub mod Given
pub mod Left
