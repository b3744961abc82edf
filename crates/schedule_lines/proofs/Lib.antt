pub mod Pieces
pub mod Streamed
pub mod LineBytes
pub mod Counted
