pub mod Keys
pub mod Slots
pub mod Views
pub mod FileSlots
