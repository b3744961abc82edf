pub mod Changes
pub mod Coordinating
pub mod Laws
pub mod Examples
