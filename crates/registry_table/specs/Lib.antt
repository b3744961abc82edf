pub mod Registry
pub mod Plans
pub mod Index
