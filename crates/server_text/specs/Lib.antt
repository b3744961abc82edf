pub mod Words
pub mod WordText
pub mod RequestText
pub mod AnswerText
pub mod Reading
pub mod RequestReading
pub mod AnswerReading
pub mod Spellable
