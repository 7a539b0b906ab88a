mod MachineLemmas
mod WaitingLemmas
mod RunLemmas
mod AnsweringLemmas
mod EndLemmas
mod GoOnLemmas
mod LineEndLemmas
mod SearchLemmas
mod DemoLemmas
mod FormLemmas
mod Examples
mod RanLemmas
mod PayingLemmas
pub mod AskLemmas
pub mod HeldLaws
pub mod FacetLemmas
pub mod ProgramLemmas
mod FoundLemmas
