pub mod FileRows
pub mod Folds
pub mod Stamps
pub mod Sorts
