pub mod PlacedLaws
pub mod KeptMore
pub mod CollapseLaws
pub mod GroupLemmas
pub mod SeeLemmas
mod Examples
