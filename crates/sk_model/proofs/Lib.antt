pub mod PlacedLaws
pub mod OrderLaws
pub mod DocumentLaws
pub mod TermLaws
pub mod KeptLaws
pub mod CombiningLaws
pub mod CoverLaws
pub mod HeldLaws
pub mod CeilLaws
pub mod StaticLaws
pub mod WeightLaws
pub mod JoinedLaws
pub mod ReadingLaws
pub mod PassLaws
pub mod CountLaws
pub mod NearLaws
pub mod SettledLaws
pub mod FacetLaws
pub mod TallyLaws
mod Examples
mod ScoreExamples
mod BoundExamples
mod PageExamples
mod FacetExamples
