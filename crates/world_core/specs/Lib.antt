pub mod RunStates
pub mod Boots
