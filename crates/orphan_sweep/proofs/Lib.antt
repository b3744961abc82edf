pub mod Fitting
pub mod Judged
pub mod Orphans
pub mod Removed
pub mod Remaining
pub mod Way
