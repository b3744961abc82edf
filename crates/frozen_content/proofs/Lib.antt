mod Begun
pub mod WholeReads
