pub mod Committed
pub mod Reports
pub mod Shown
pub mod Near
