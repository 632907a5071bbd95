pub mod MachineLaws
pub mod StrikingLaws
pub mod Instances
pub mod ToyLaws
