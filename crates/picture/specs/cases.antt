pub mod PictureCases
