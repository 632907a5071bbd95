pub mod Toy
pub mod Naive
