pub mod CursorLaws
pub mod SeekLaws
mod BlockLaws
mod CursorLemmas
mod DirectoryLemmas
mod Examples
