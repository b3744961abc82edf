pub mod Found
pub mod Swept
