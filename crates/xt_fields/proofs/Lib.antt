pub mod Laws
pub mod BasicLaws
pub mod Loops
pub mod Texts
pub mod Lengths
