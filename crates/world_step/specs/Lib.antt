pub mod Steps
pub mod Endings
