pub mod Lists
pub mod Requests
pub mod Recorded
pub mod Steps
pub mod Laws
pub mod Examples
