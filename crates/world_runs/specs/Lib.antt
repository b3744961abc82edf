pub mod View
pub mod Worlds
pub mod Acts
pub mod Asks
pub mod Clocks
