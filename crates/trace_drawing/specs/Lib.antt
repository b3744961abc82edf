pub mod Edges
pub mod Drawn
pub mod PictureOf
pub mod Scenes
