pub mod OpenLists
pub mod Sound
pub mod Keeping
pub mod OpenAsks
pub mod AtOnce
