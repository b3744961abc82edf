pub mod Takes
pub mod Outcomes
pub mod Versions
pub mod Saying
