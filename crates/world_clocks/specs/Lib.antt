pub mod Hosts
pub mod Clocks
