pub mod Answers
pub mod Moves
pub mod Pairs
pub mod Rounds
pub mod SeatList
pub mod Shown
pub mod States
