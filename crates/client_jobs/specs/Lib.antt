pub mod Content
pub mod Limits
pub mod Lines
pub mod Running
