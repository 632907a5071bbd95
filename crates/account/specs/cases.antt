pub mod AgainCases
pub mod DataWritesCases
pub mod LinesCases
