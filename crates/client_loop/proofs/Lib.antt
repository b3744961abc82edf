pub mod Carried
pub mod Ending
pub mod Fitting
pub mod Looking
pub mod Mailed
pub mod Waited
pub mod Hearing
