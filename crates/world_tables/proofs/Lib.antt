pub mod Limits
pub mod MessageCounts
pub mod Numbers
pub mod Places
