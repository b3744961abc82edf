pub mod Draws
pub mod Generated
pub mod Scheduled
pub mod Worked
