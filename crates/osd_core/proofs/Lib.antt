pub mod Standing
pub mod Starting
pub mod Waking
pub mod Stepping
mod Steps
pub mod Keeping
