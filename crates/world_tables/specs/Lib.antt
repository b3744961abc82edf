pub mod Counts
pub mod Limits
pub mod Places
pub mod Within64
