pub mod ReplyLaws
pub mod MetaAnswerLaws
pub mod RegistryAnswerLaws
pub mod AnswerLengths
pub mod PayloadLaws
pub mod LengthLaws
pub mod DecodingLaws
