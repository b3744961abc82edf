mod Heights
mod Times
pub mod Extending
mod Laid
