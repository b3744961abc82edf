pub mod Reports
pub mod There
mod Mended
