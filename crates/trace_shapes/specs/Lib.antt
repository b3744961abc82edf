pub mod Characters
pub mod Elements
pub mod Classes
pub mod Pictures
pub mod WellFormed
