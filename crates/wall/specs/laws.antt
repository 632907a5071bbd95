pub mod ApartLaws
pub mod DrawLaws
pub mod LookLaws
pub mod StatusLaws
pub mod WrittenLaws
pub mod FollowLaws
