pub mod Given
pub mod Stands
pub mod Fed
pub mod Rises
pub mod Acks
pub mod Hears
pub mod InOrder
pub mod Sought
pub mod Staged
mod Places
