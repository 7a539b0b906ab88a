-- The newest documents, and the searches that are open while they change.
-- Source: Own.
use Rattle.sk_index.specs.Indexed.{Indexed}
use Rattle.sk_report.specs.Flights.{Flights}

-- The newest documents, and the open searches, each on the documents of its opening.
pub record Flying : Type 0 where
  pub newest : Indexed
  pub flights : Flights
