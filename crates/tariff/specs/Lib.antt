-- The definitions that this crate's contracts cite, one concept to a file. Assumes nothing.
pub mod Tables
pub mod Refusals
pub mod Joined
pub mod BandLines
pub mod Banded
pub mod Daily
pub mod Formulas
pub mod LineLists
pub mod Bandings
pub mod DailyCharges
