pub mod ValueLaws
pub mod RangeLaws
mod ByteLaws
mod NumberLaws
mod CursorLemmas
mod SkipLaws
mod ZoneLaws
mod Examples
