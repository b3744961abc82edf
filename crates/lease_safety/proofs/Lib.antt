pub mod Lists
pub mod Majorities
pub mod Sound
pub mod Moments
pub mod Turns
pub mod Histories
pub mod Examples
pub mod Weaker
