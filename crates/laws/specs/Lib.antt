pub mod Pick
pub mod Ring
pub mod Bit
pub mod engine
pub mod laws
