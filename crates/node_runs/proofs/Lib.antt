pub mod Keeping
pub mod Going
pub mod Sending
pub mod Returning
pub mod Batching
