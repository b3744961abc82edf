pub mod Fates
pub mod Swept
pub mod Laws
pub mod Sweeps
