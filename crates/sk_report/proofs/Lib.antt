pub mod ReportLaws
pub mod FacetLaws
