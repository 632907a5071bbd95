pub mod AgainState
pub mod Placed
pub mod Account
