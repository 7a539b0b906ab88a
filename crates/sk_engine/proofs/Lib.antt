mod FlightLaws
mod SeveralLaws
