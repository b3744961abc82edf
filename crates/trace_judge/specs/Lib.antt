pub mod Short
pub mod Rows
pub mod Views
pub mod Following
pub mod Found
pub mod Deals
pub mod DealtOut
