pub mod IdFields
pub mod FileFields
pub mod MetaFields
pub mod RegistryFields
