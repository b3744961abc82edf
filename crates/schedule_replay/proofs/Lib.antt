pub mod Growth
pub mod Schedules
pub mod Endings
pub mod Whole
pub mod LineEnds
pub mod Causes
pub mod Complete
