pub mod Exchanges
pub mod Scene
