pub mod Rows
pub mod Requests
pub mod Making
pub mod Lists
pub mod Steps
