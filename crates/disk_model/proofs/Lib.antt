pub mod Filled
pub mod Images
pub mod Moments
pub mod Overlaid
pub mod Planned
pub mod Record
