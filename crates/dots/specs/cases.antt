pub mod OnesCases
pub mod TurnedCases
