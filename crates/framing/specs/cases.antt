pub mod FrameCases
