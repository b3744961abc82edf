pub mod Carrying
pub mod Listening
pub mod Mailing
pub mod Waiting
pub mod Terms
