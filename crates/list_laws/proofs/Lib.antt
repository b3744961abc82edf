pub mod Taken
pub mod Outcomes
pub mod Open
pub mod Versions
pub mod Saying
