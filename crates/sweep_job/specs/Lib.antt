pub mod Lines
pub mod Sweeping
