pub mod FrontLaws
pub mod FrameLaws
pub mod CutLaws
pub mod FlawLaws
pub mod FramesLaws
pub mod CarryLaws
