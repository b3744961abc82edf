pub mod Tags
pub mod Denials
pub mod Stops
