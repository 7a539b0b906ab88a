-- What the calls on open searches come to.
-- Source: Own.
use Rattle.std.specs.Prelude.{◌≡◌, ◌≤◌, ℕ, Bool, true, false, length, Option, None, Some}
use Rattle.std.specs.Option.{IsSomeAnd}
use Rattle.sk_base.specs.declared.find.Paging.{Paging}
use Rattle.sk_base.specs.declared.report.Report.{Report}
use Rattle.sk_query.specs.Trees.{Tree}
use Rattle.sk_report.specs.Flights.{Open, Flights, MayBeOpen, OpensAs, TurnsAs, ClosesAs, DropsAs, open_at, most_open}
use Rattle.sk_report.specs.Reports.{ReportsFor}
use Rattle.sk_match.specs.declared.open_search.Turn.{Turn}
use Rattle.sk_match.specs.declared.open_search.Turn.TheVariants.{More, Done}
use Rattle.sk_flight.specs.declared.flights.Opened.{Opened}
use Rattle.sk_flight.specs.declared.flights.Opened.TheVariants.{Number, Full}
use Rattle.sk_flight.specs.declared.flights.Finish.{Finish}
use Rattle.sk_flight.specs.declared.flights.Finish.TheVariants.{NotOpen, NotDone, Found}
use Rattle.sk_flight.specs.Flying.{Flying}

-- A report is told of an open search that its find may have, on the documents of its opening.
abbrev pub Tells : Open → Report → Type 0
Tells search report = ReportsFor search.query search.paging search.documents report

-- What an opening came to: a search under the next number, on the newest documents, beside the others; or nothing, where as many are open as may be.
abbrev pub Opens : Paging → Tree → Flying → Flying → Opened → Type 0
Opens paging query old new (Number n) =
    (new.newest ≡ old.newest) × OpensAs MayBeOpen Tells paging query old.newest.live.documents old.flights n new.flights
Opens paging query old new Full = (most_open ≤ length old.flights.searches) × (new ≡ old)

-- Whether a turn was done.
abbrev pub was_done : Turn → Bool
was_done More = false
was_done Done = true

-- What so many turns of the search with this number came to; nothing, where it is not open.
abbrev pub Turns : ℕ → ℕ → Flights → Flights → Option Turn → Type 0
Turns number times old new None = (open_at number old ≡ None) × (new ≡ old)
Turns number times old new (Some turn) = TurnsAs MayBeOpen Tells number times old (was_done turn) new

-- What the end of the search with this number came to: its report, with the page that it was opened for, and it is gone; or nothing, where it is not open or its last turn was not done.
abbrev pub Ends : ℕ → Flights → Flights → Finish → Type 0
Ends number old new NotOpen = (open_at number old ≡ None) × (new ≡ old)
Ends number old new NotDone = IsSomeAnd (open_at number old) (λ search. search.done ≡ false) × (new ≡ old)
Ends number old new (Found paging report) =
    (closes : ClosesAs MayBeOpen Tells number old report new) × (paging ≡ closes.search.paging)

-- The readings that the end of a search tells of.
abbrev pub steps_in : Finish → ℕ
steps_in NotOpen = 0
steps_in NotDone = 0
steps_in (Found paging report) = report.steps

-- What it came to that the search with this number is given up: it is gone, after so many readings; or nothing, where it is not open.
abbrev pub Drops : ℕ → Flights → Flights → Option ℕ → Type 0
Drops number old new None = (open_at number old ≡ None) × (new ≡ old)
Drops number old new (Some spent) = DropsAs MayBeOpen Tells number old spent new
