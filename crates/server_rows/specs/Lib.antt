pub mod Requests
pub mod Metadata
pub mod Directory
pub mod Laws
pub mod Naming
pub mod Examples
