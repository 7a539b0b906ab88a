mod ChainLemmas
mod MarkLemmas
mod DealtLemmas
mod CallLemmas
mod Examples
