pub mod Events
pub mod Turns
pub mod Stores
pub mod Settling
pub mod Batched
pub mod Passing
