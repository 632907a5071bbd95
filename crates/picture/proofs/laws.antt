pub mod CursorLaws
pub mod PictureLaws
pub mod ShownLaws
pub mod CanvasLaws
pub mod PaintLaws
pub mod ModeLaws
pub mod CompareLaws
