pub mod Checked
pub mod Seals
pub mod Sealed
pub mod Whole
