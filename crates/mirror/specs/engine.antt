pub mod Way
pub mod Record
pub mod Live
pub mod Acts
pub mod Reading
pub mod Read
