pub mod Starting
pub mod Steps
pub mod Usable
