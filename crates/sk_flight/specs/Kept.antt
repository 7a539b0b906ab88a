-- What is kept of open searches.
-- Source: Own.
use Rattle.std.specs.Prelude.{◌≡◌, ◌≤◌, ◌<◌, ◌+◌, ◌-◌, ◌^◌, ℕ, Bool, true, false, List, length, map, All, sum_by}
use Rattle.std.specs.List.{AllByRecursion}
use Rattle.std.specs.Map.{values_of}
use Rattle.sk_base.specs.declared.find.Paging.{Paging}
use Rattle.sk_query.specs.Trees.{Tree, query_view}
use Rattle.sk_model.specs.Sharp.{is_plain}
use Rattle.sk_report.specs.Flights.{Open, Flights, MayBeOpen, SeeksSame, scored_by, scored_to_stop, most_open}
use Rattle.sk_index.specs.Indexed.{Indexed}
use Rattle.sk_match.specs.Searches.{Stands, ahead, left_to_stop, is_done, spent_by}
use Rattle.sk_match.specs.declared.open_search.Search.{Search}
use Rattle.sk_match.specs.declared.open_search.Turn.{Turn}
use Rattle.sk_match.specs.declared.open_search.Turn.TheVariants.{More, Done}
use Rattle.sk_flight.specs.declared.flight.Flight.{Flight}

-- What a search is that was opened on these documents, after so many turns that moved on.
abbrev pub open_as : Search → Indexed → Paging → Tree → ℕ → Bool → Open
open_as search revision paging query turns done =
    record { paging = paging; query = query; documents = revision.live.documents; turns = turns; done = done; spent = spent_by search }

abbrev pub open_of : Flight → Open
open_of f = open_as f.search f.revision.value f.paging (query_view f.query) f.turns f.is_done

-- The open searches that stand under these numbers, where so many were opened.
abbrev pub flights_in : List (ℕ × Flight) → ℕ → Flights
flights_in entries opened = record { searches = map (λ (e : ℕ × Flight). (e.0, open_of e.1)) entries; opened = opened }

-- The readings of each.
abbrev pub spent_in : List (ℕ × Flight) → List (ℕ × ℕ)
spent_in entries = map (λ (e : ℕ × Flight). (e.0, spent_by e.1.search)) entries

-- A search stands on its own documents; each turn that moved on left fewer documents ahead; it is done where its last turn was.
pub record Flies (search : Search) (revision : Indexed) (paging : Paging) (query : Tree) (turns : ℕ) (done : Bool) : Type 0 where
  pub stands : Stands search revision paging query
  pub counted : search.page.seen ≤ turns
  pub even : paging.options.cutoff ≡ 0 → search.page.seen ≡ turns
  pub few : turns + length (ahead revision search) ≤ length (scored_by (open_as search revision paging query turns done))
  pub early : is_plain paging ≡ true → turns + left_to_stop paging query revision search ≤ length (scored_to_stop (open_as search revision paging query turns done))
  pub ended : done ≡ true → is_done revision search ≡ true
  pub exact : spent_by search < 2 ^ 128 - 1
  pub may : MayBeOpen (open_as search revision paging query turns done)

abbrev pub IsFlight : Flight → Type 0
IsFlight f = Flies f.search f.revision.value f.paging (query_view f.query) f.turns f.is_done

-- Under their numbers, which are no greater than how many were opened, stand few searches.
pub record AreFlights (opened : ℕ) (entries : List (ℕ × Flight)) : Type 0 where
  pub flights : All IsFlight (values_of entries)
  pub numbers : AllByRecursion (λ (e : ℕ × Flight). e.0 ≤ opened) entries
  pub few : length entries ≤ most_open

-- ---- a turn of one

-- What a turn came to: one that moved on is counted, and none is made behind one that is done; one that is done reads nothing.
abbrev pub Comes : Open → Open → Turn → Type 0
Comes old new More = (new.turns ≡ old.turns + 1) × (new.done ≡ false) × (old.done ≡ false)
Comes old new Done = (new.turns ≡ old.turns) × (new.done ≡ true) × (new.spent ≡ old.spent)

pub record Moves (old new : Open) (turn : Turn) : Type 0 where
  pub seeks : SeeksSame old new
  pub comes : Comes old new turn
  pub later : old.spent ≤ new.spent

-- It made so many turns, and all of them moved on.
pub record Made (made : ℕ) (old new : Open) : Type 0 where
  pub seeks : SeeksSame old new
  pub counted : new.turns ≡ old.turns + made
  pub idle : made ≡ 0 → new ≡ old
  pub going : 1 ≤ made → (old.done ≡ false) × (new.done ≡ false)
  pub later : old.spent ≤ new.spent
