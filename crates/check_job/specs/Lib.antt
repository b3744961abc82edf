pub mod Reports
pub mod Checking
