pub mod Reading
pub mod OneSpelling
pub mod BasicFields
