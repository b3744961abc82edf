pub mod Bare
pub mod Lines
pub mod Parts
pub mod Found
