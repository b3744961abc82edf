pub mod Forgetting
pub mod Endings
pub mod Giving
pub mod Given
pub mod Ways
