pub mod Around
pub mod Nodes
pub mod Stores
pub mod Doing
