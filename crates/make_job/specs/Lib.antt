pub mod Counting
pub mod Make
