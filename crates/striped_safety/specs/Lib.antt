pub mod StripedFiles
pub mod Members
pub mod StripedWorld
pub mod After
pub mod Example
