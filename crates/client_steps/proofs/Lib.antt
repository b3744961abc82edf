pub mod Asks
pub mod Cases
pub mod Held
pub mod Replicas
pub mod Steps
pub mod Waits
