mod PlaceLemmas
mod PieceLemmas
mod CopyLemmas
mod Examples
