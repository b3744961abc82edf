pub mod Making
pub mod Says
