pub mod Feeding
pub mod Nodes
pub mod Pattern
pub mod Sessions
pub mod Working
