mod WeightLemmas
mod TogetherLemmas
mod BoundLemmas
mod WildLemmas
