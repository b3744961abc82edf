pub mod Counts
pub mod Checked
pub mod Sealing
pub mod Scrubbing
