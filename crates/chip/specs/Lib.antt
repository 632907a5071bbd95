pub mod Sizes
pub mod Address
pub mod Instruction
pub mod Sheet
pub mod Written
pub mod Step
pub mod Sound
pub mod Regardless
