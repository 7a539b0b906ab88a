mod FlightLemmas
mod FreshLemmas
mod TurnLemmas
mod EntryLemmas
mod OpenLemmas
