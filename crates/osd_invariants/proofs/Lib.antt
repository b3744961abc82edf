pub mod Kept
pub mod Leads
pub mod Served
pub mod SoundSteps
pub mod Promised
pub mod OpenAsks
pub mod AtOnce
pub mod StripedAsks
