mod ReadingExamples
mod LimitExamples
mod WritingExamples
mod ReadingLemmas
mod ValueLemmas
pub mod RoundTrip
