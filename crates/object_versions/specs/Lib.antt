pub mod KeptBodies
pub mod Rising
pub mod Keeping
