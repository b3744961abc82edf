pub mod Rounds
pub mod State
pub mod Moves
pub mod Legal
pub mod Leases
pub mod Examples
pub mod Weaker
