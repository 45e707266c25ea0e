pub mod Answered
pub mod Posting
pub mod Runs
pub mod Exactly
pub mod Steps
