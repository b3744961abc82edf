pub mod Hosts
pub mod Cores
pub mod Calls
pub mod Turns
pub mod Forgetting
