pub mod Cells
pub mod Ones
