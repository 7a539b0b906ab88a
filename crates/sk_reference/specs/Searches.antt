-- What a search in flight is that reads nothing, and is done as soon as it may be.
-- Source: Own.
use Rattle.std.specs.Prelude.{◌≡◌, ◌≤◌, ◌<◌, ◌+◌, ◌-◌, ◌^◌, ℕ, Bool, true, false, min, nat_lt, ◌∷◌, ◌++◌, [], length, All, Option, None, Some}
use Rattle.sk_base.specs.declared.find.Paging.{Paging}
use Rattle.sk_base.specs.declared.report.Report.{Report}
use Rattle.sk_base.specs.Loads.{IsLight}
use Rattle.sk_base.specs.Numbers.{Docs}
use Rattle.sk_query.specs.Trees.{Tree}
use Rattle.sk_query.specs.Fits.{is_sound, leaves_of}
use Rattle.sk_model.specs.Counts.{wanted}
use Rattle.sk_sorted.specs.Entries.{LieBelow}
use Rattle.sk_report.specs.Flights.{Open, Flights, found_in, open_at, AllMay, TurnsAs}
use Rattle.sk_plain.specs.Pages.{report_for}

-- How many turns of a search move on: one for each of its matches, and no more than are wanted.
abbrev pub due : Open → ℕ
due search = min (wanted search.paging) (length (found_in search))

-- A search that may be open: no more turns moved on than are due, all of them where it is done, and nothing was read.
pub record Stands (search : Open) : Type 0 where
  pub few : search.turns ≤ due search
  pub ended : search.done ≡ true → search.turns ≡ due search
  pub unread : search.spent ≡ 0

-- The report that is told of a search: one, and no other.
abbrev pub Tells : Open → Report → Type 0
Tells search report = report ≡ report_for search.query search.paging search.documents

-- A search at its opening.
abbrev pub begun : Paging → Tree → Docs → Open
begun paging query docs = record { paging = paging; query = query; documents = docs; turns = 0; done = false; spent = 0 }

-- How many of so many turns move on.
abbrev pub moves : ℕ → Open → ℕ
moves times search = min times (due search - search.turns)

-- A search behind so many turns. It is done where not all of them moved on.
abbrev pub turned : ℕ → Open → Open
turned times search = record {
  paging = search.paging;
  query = search.query;
  documents = search.documents;
  turns = search.turns + moves times search;
  done = nat_lt (moves times search) times;
  spent = search.spent;
}

-- What is kept of a search: it may be open, so many turns are due, and its query can be answered over its documents.
pub record Keeps (wants : ℕ) (search : Open) : Type 0 where
  pub stands : Stands search
  pub due : wants ≡ due search
  pub sound : is_sound 1 search.query ≡ true
  pub leaves : leaves_of search.query ≤ 1024
  pub light : All IsLight search.documents
  pub small : length search.documents < 2 ^ 32

-- ---- by number

-- No number is above that of the search that was opened last, and each search may be open.
pub record AreKept (flights : Flights) : Type 0 where
  pub numbers : LieBelow (flights.opened + 1) flights.searches
  pub stand : AllMay Stands flights

-- One search more, under the next number.
abbrev pub with_search : Open → Flights → Flights
with_search search flights = record { searches = flights.searches ++ (flights.opened + 1, search) ∷ []; opened = flights.opened + 1 }

-- What so many turns of the search with this number come to: whether it is done, and nothing where none is open.
abbrev pub TurnsTo : ℕ → ℕ → Flights → Option Bool → Flights → Type 0
TurnsTo number times old None new = (open_at number old ≡ None) × (new ≡ old)
TurnsTo number times old (Some done) new = TurnsAs Stands Tells number times old done new
