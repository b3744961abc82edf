pub mod Hosts
pub mod Changes
pub mod Forgetting
pub mod Ticks
