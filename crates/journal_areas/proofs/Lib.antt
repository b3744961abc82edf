pub mod Adding
pub mod Moving
pub mod Once
pub mod Reaching
pub mod Records
pub mod Slots
