pub mod Boots
pub mod Loading
pub mod Sinks
