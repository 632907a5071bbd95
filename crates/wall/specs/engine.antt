pub mod Apart
pub mod Bitmap
pub mod Watch
pub mod Lines
