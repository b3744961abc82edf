pub mod Index
pub mod Pages
