pub mod AnswersLaws
pub mod PanelFileLaws
pub mod RecordsLaws
