pub mod Asked
pub mod Swept
