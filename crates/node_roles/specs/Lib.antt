pub mod Roles
pub mod Seeing
