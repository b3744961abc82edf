mod Endings
mod Hulls
pub mod Views
