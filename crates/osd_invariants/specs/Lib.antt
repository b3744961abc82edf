pub mod Sound
pub mod Keeping
pub mod Promises
pub mod OpenAsks
pub mod AtOnce
