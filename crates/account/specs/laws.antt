pub mod RepeatsLaws
pub mod AgainLaws
pub mod AccountLaws
pub mod StandsLaws
pub mod DataWritesLaws
pub mod LinesLaws
pub mod FollowsLaws
pub mod ReadLaws
