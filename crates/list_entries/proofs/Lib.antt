pub mod Moments
pub mod Pushed
pub mod Stretched
