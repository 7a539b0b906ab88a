pub mod Reports
pub mod Facets
pub mod Paces
pub mod Flights
