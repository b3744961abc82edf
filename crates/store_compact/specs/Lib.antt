pub mod Rewriting
pub mod Worked
pub mod Adding
pub mod Compacting
