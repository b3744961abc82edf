pub mod Heads
mod Added
mod Limits
mod Named
mod Compacted
