pub mod Opened
pub mod Parted
pub mod Registered
pub mod Led
