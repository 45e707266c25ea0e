mod Lists
mod Missing
mod Places
mod Summed
mod Questioned
mod Words
mod Summing
mod Turns
mod Settling
mod Posted
mod Writing
mod Enrolling
pub mod Small
