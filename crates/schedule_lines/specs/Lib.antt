pub mod RawLine
pub mod Fronts
pub mod NextLine
pub mod Putting
pub mod Causes
