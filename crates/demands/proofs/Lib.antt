pub mod laws
pub mod cases
