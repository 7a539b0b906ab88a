-- Lemmas.
pub mod PieceLaws
pub mod CuttingLaws
mod ExampleFields
mod CuttingExamples
mod FaultExamples
mod QueryExamples
