pub mod OpenLists
pub mod Gives
pub mod AtOnce
