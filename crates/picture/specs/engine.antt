pub mod Wiring
pub mod Shown
pub mod Canvas
pub mod Scene
