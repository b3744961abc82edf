pub mod Fits
pub mod States
