pub mod Carrying
pub mod Places
pub mod Wakes
