pub mod Machine
pub mod Striking
pub mod Duties
pub mod cases
