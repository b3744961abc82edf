pub mod Different
pub mod Calling
pub mod Sizes
pub mod Noting
pub mod Fitting
pub mod Hearing
