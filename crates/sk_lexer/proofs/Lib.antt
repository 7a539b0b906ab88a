-- Lemmas.
mod RunLemmas
mod GroupLemmas
mod OperatorLemmas
mod FieldLemmas
mod WalkLemmas
