pub mod Joined
pub mod OneCover
