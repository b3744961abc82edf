pub mod NextEntry
pub mod Audit
