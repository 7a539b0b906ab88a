mod PairLemmas
mod TermLemmas
mod JoinLemmas
mod GatherLemmas
mod SlotLemmas
mod TakenLemmas
mod Examples
