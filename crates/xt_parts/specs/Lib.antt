pub mod Part
pub mod Joining
pub mod Buffers
pub mod Places
pub mod Runs
pub mod Laws
