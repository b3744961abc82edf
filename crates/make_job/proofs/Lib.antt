pub mod Times
pub mod Lines
pub mod Replayed
