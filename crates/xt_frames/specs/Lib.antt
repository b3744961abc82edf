pub mod ReplyFields
pub mod MetaAnswers
pub mod RegistryAnswers
pub mod Frames
pub mod PayloadFields
pub mod Decoding
