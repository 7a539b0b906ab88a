mod ListLemmas
mod SharpLemmas
mod FacetLemmas
mod PartLemmas
