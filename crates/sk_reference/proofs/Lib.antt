mod SearchLaws
mod FlightLaws
mod HeldLaws
