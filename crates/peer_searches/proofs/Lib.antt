pub mod Set
mod Looked
