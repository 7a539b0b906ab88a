pub mod EntryLaws
pub mod PlaceLaws
pub mod EndLaws
pub mod PickedLaws
pub mod RunLaws
pub mod RunEditLaws
pub mod RunPlaceLaws
pub mod ReachLaws
pub mod JoinedIdLaws
pub mod JoinedLaws
pub mod MergeLaws
pub mod JoinedSumLaws
pub mod PartLaws
pub mod PartsLaws
pub mod GiveLaws
mod Examples
mod RunExamples
mod JoinedExamples
