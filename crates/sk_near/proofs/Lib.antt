pub mod SoonestLemmas
mod PhraseLemmas
mod RunLemmas
mod WindowLemmas
