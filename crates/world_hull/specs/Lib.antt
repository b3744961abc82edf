pub mod Answers
pub mod Appends
pub mod Deeds
pub mod Logs
pub mod Revivals
pub mod Rewritings
