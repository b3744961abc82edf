pub mod Moves
pub mod Answers
pub mod Extents
pub mod Gathering
pub mod Writing
