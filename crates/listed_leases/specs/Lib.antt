pub mod LeaseView
pub mod VersionView
pub mod OsdView
pub mod OutsView
pub mod ActsView
