pub mod Disks
pub mod Ends
pub mod Room
pub mod Stored
