pub mod Turns
pub mod FirstSteps
pub mod Starting
pub mod Events
pub mod Calls
pub mod Runs
pub mod Opening
pub mod Whole
