pub mod RankLaws
mod Examples
mod FittingLemmas
pub mod Tests
