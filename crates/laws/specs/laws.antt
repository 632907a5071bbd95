pub mod Lists
pub mod PickLaws
pub mod RingLaws
pub mod BitLaws
pub mod TurnsLaws
