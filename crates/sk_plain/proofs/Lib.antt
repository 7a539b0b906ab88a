mod SumLemmas
mod FoundLemmas
mod IdLemmas
pub mod KeptLemmas
pub mod ReportLemmas
mod WildLemmas
mod FacetLemmas
mod PartLemmas
