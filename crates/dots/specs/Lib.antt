pub mod Table
pub mod Landing
pub mod ByRows
pub mod Turned
pub mod First
pub mod engine
pub mod laws
pub mod cases
