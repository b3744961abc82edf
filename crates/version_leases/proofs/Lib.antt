pub mod Reaching
pub mod Lists
pub mod Common
pub mod Messages
pub mod Wakes
pub mod Events
