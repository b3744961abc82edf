pub mod Waiting
pub mod Promises
pub mod Wakes
pub mod Seats
