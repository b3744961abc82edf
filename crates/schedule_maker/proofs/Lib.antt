pub mod Formed
pub mod Turns
