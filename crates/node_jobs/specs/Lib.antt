pub mod Disks
pub mod Jobs
pub mod Roles
