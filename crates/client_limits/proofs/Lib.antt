pub mod Bytes
pub mod Tags
pub mod Lists
pub mod Messages
pub mod Replicas
pub mod Limits
