pub mod Line
pub mod PanelFile
pub mod Show
pub mod engine
pub mod laws
