pub mod Orders
pub mod Different
