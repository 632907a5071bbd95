pub mod Again
pub mod Columns
pub mod DataWrites
pub mod Lines
pub mod Report
pub mod engine
pub mod laws
pub mod cases
