pub mod ChipsLaws
pub mod ClockLaws
pub mod NumberLaws
pub mod PageLaws
