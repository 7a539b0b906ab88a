pub mod PackedLemmas
mod FrozenLemmas
