pub mod ChipsCases
pub mod NumberCases
