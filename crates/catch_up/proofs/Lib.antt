pub mod OneHead
pub mod Ends
