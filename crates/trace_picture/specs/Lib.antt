pub mod Asked
pub mod Pictured
