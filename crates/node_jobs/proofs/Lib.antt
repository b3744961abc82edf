pub mod Disks
pub mod Boots
pub mod Jobs
pub mod Causes
pub mod Serving
pub mod Osds
pub mod Bare
