pub mod Listed
pub mod Holding
pub mod Covering
