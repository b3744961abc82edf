pub mod Paths
pub mod Rows
pub mod Rights
pub mod Requests
pub mod Grants
pub mod Examples
