pub mod PipeWordsView
pub mod Word
