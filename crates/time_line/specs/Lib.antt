pub mod Content
pub mod TimeLine
pub mod Clauses
pub mod Verdicts
pub mod Bounds
