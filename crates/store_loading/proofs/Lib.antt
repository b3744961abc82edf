pub mod Disks
pub mod Places
pub mod Bare
