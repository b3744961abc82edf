pub mod Clocks
pub mod Put
pub mod Followed
pub mod Lesser
pub mod Walk
pub mod Along
pub mod Gathered
