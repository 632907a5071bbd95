pub mod Frame
pub mod Flaw
pub mod Frames
pub mod Carry
pub mod engine
pub mod laws
pub mod cases
