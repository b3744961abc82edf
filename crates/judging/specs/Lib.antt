pub mod Pass
pub mod Samples
pub mod Laws
pub mod Audit
pub mod Dealt
