pub mod IdLaws
pub mod FileLaws
pub mod MetaLaws
pub mod RegistryLaws
pub mod FieldLengths
