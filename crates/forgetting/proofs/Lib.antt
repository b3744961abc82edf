pub mod Held
mod Passing
pub mod Rows
pub mod Folded
pub mod Said
pub mod Bodies
pub mod Digests
pub mod Places
pub mod Named
