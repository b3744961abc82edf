pub mod Noting
pub mod Settling
pub mod Picking
pub mod Asking
pub mod Plans
