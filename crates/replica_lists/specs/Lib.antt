pub mod Picking
pub mod Faults
