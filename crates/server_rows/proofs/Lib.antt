pub mod Taking
pub mod Metadata
pub mod Directory
pub mod Refusing
pub mod Naming
mod Rising
