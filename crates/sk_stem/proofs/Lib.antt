-- Lemmas.
mod Examples
mod LetterLemmas
mod RuleLemmas
mod StepLemmas
mod StepLaws
pub mod StemLaws
pub mod MeasureLaws
