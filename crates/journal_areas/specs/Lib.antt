pub mod Format
pub mod Superblocks
pub mod Areas
pub mod Sites
pub mod Kept
