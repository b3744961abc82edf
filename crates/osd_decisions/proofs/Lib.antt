pub mod Chosen
pub mod Near
