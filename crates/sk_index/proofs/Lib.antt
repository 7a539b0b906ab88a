mod StandsLemmas
mod UnpackedLemmas
pub mod NumberLemmas
mod WildLemmas
mod PlaceLemmas
mod AllWithLemmas
