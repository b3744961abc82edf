pub mod EntryByEntry
pub mod Endings
pub mod Verdicts
pub mod Complete
