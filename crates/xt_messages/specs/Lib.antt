pub mod StatusCode
pub mod Limits
pub mod FrameLength
