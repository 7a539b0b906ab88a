-- Lemmas.
mod BoundLemmas
mod UnclosedLemmas
mod FaultLemmas
