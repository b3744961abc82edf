pub mod Items
pub mod Report
pub mod Reading
pub mod Scrubbing
pub mod Laws
