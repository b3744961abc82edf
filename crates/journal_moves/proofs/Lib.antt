pub mod Areas
pub mod Outcomes
pub mod Steps
pub mod Stopped
pub mod Underway
