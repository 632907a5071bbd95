pub mod Buffer
pub mod laws
