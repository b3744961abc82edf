pub mod OneFile
pub mod Places
pub mod Counting
pub mod Wakes
