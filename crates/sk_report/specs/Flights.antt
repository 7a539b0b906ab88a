-- Searches that are open while documents change, each on the documents as they were at its opening.
-- Source: Own.
use Rattle.std.specs.Prelude.{◌≡◌, ◌≤◌, ◌<◌, ◌+◌, ℕ, Bool, true, false, min, nat_le, List, [], ◌∷◌, ◌++◌, length, map, filter, All, Option, Some, None, sum_by}
use Rattle.std.specs.Ordering.{nat_cmp}
use Rattle.std.specs.BTreeMap.{is_at}
use Rattle.std.specs.Map.{lookup, set_value, remove_entry}
use Rattle.sk_base.specs.declared.find.Paging.{Paging}
use Rattle.sk_base.specs.declared.rank.Rank.{Rank}
use Rattle.sk_base.specs.declared.report.Report.{Report}
use Rattle.sk_base.specs.Numbers.{Docs}
use Rattle.sk_query.specs.Trees.{Tree}
use Rattle.sk_model.specs.Counts.{wanted}
use Rattle.sk_model.specs.Matches.{matches, found_by}
use Rattle.sk_model.specs.Settled.{stop_point}
use Rattle.sk_model.specs.Sharp.{is_plain, flat_lists, ups, sharp}
use Rattle.sk_report.specs.Paces.{reached_by, IsEarly}

-- A search that is open: its page and its query, the documents as they were at its opening, how many of its turns moved on, whether the last one was done, and how many readings it took so far.
pub record Open : Type 0 where
  pub paging : Paging
  pub query : Tree
  pub documents : Docs
  pub turns : ℕ
  pub done : Bool
  pub spent : ℕ

-- The open searches under their numbers, by rising number, and how many were opened so far.
pub record Flights : Type 0 where
  pub searches : List (ℕ × Open)
  pub opened : ℕ

-- At first none is open.
abbrev pub none_open : Flights
none_open = record { searches = []; opened = 0 }

-- How many searches may be open.
abbrev pub most_open : ℕ
most_open = 64

-- ---- what a search may have done

-- All documents that its query matches, whatever they weigh. A turn moves past one of them.
abbrev pub scored_by : Open → List Rank
scored_by search = matches search.query search.paging.options.scheme search.paging.order search.documents

-- Those of them up to the point at which a page by relevance is settled.
abbrev pub scored_to_stop : Open → List Rank
scored_to_stop search = filter (λ rank. nat_le rank.id (stop_point search.query search.paging search.documents)) (scored_by search)

-- Its matches: those that weigh its cutoff.
abbrev pub found_in : Open → List Rank
found_in search = found_by search.query search.paging search.documents

-- So many turns it may have made that moved on: no more than documents score; where its page goes by relevance, and nothing is collapsed, none behind the point at which that is settled; and it is not done before it made as many as matches are wanted, or one for each.
pub record MayHaveTurned (search : Open) : Type 0 where
  pub few : search.turns ≤ length (scored_by search)
  pub early : is_plain search.paging ≡ true → search.turns ≤ length (scored_to_stop search)
  pub enough : search.done ≡ true → min (wanted search.paging) (length (found_in search)) ≤ search.turns

-- So many readings it may have taken: within the sharp bound on the steps of its find; and one for terms alone, by relevance and without a cutoff, that wants to see more than it turned, read each list up to the last match that it saw, and one entry more.
pub record MayHaveRead (search : Open) : Type 0 where
  pub within : (hits : ℕ) → search.spent ≤ sharp search.query search.paging search.documents hits
  pub paced : IsEarly search.paging search.turns → (lists : List (List ℕ)) → flat_lists search.query search.documents ≡ Some lists
      → search.spent ≤ ups lists (reached_by search.turns (found_in search)) search.documents

-- A search that may be open.
pub record MayBeOpen (search : Open) : Type 0 where
  pub turned : MayHaveTurned search
  pub read : MayHaveRead search

-- ---- what becomes of one

-- It looks for the same, on the same documents.
pub record SeeksSame (old new : Open) : Type 0 where
  pub paging : new.paging ≡ old.paging
  pub query : new.query ≡ old.query
  pub documents : new.documents ≡ old.documents

-- Where open searches may be such.
module _ (May : Open → Type 0) where
  -- It begins to look for this: it made no turn, and of terms alone it read one entry of each list at the most.
  pub record Begins (sought : Paging) (meant : Tree) (docs : Docs) (search : Open) : Type 0 where
    pub paging : search.paging ≡ sought
    pub query : search.query ≡ meant
    pub documents : search.documents ≡ docs
    pub turns : search.turns ≡ 0
    pub going : search.done ≡ false
    pub one_each : (lists : List (List ℕ)) → flat_lists meant docs ≡ Some lists → search.spent ≤ length lists
    pub may : May search

  -- It was to make so many turns, and is done behind them or not: all of them moved on, or fewer and then one was done. Behind one that is done none moves on. Turns that do not move on read nothing.
  pub record Turned (times : ℕ) (old new : Open) : Type 0 where
    pub seeks : SeeksSame old new
    pub made : ℕ
    pub counted : new.turns ≡ old.turns + made
    pub all : new.done ≡ false → made ≡ times
    pub fewer : new.done ≡ true → made < times
    pub after : old.done ≡ true → (made ≡ 0) × (new.done ≡ true)
    pub idle : made ≡ 0 → new.spent ≡ old.spent
    pub later : old.spent ≤ new.spent
    pub may : May new

-- ---- by number

-- Whether this is the number.
abbrev pub at : ℕ → ℕ → Bool
at number = is_at (nat_cmp number)

-- The open search with this number.
abbrev pub open_at : ℕ → Flights → Option Open
open_at number flights = lookup (at number) flights.searches

-- All but that one.
abbrev pub without_search : ℕ → Flights → Flights
without_search number flights = record { searches = remove_entry (at number) flights.searches; opened = flights.opened }

-- The readings of all open searches, which no answer told of as yet.
abbrev pub owed : Flights → ℕ
owed flights = sum_by (λ (e : ℕ × Open). e.1.spent) flights.searches

-- Each open search with its readings.
abbrev pub readings_open : Flights → List (ℕ × ℕ)
readings_open flights = map (λ (e : ℕ × Open). (e.0, e.1.spent)) flights.searches

-- All of them may be open.
abbrev pub AllMay : (Open → Type 0) → Flights → Type 0
AllMay May flights = All (λ (e : ℕ × Open). May e.1) flights.searches

-- Where open searches may be such, and reports are told of them so.
module _ (May : Open → Type 0) (Tells : Open → Report → Type 0) where
  -- A search was opened under the next number, beside the others, which are few.
  pub record OpensAs (paging : Paging) (query : Tree) (docs : Docs) (old : Flights) (number : ℕ) (new : Flights) : Type 0 where
    pub room : length old.searches < most_open
    pub next : number ≡ old.opened + 1
    pub search : Open
    pub begins : Begins May paging query docs search
    pub after : new ≡ record { searches = old.searches ++ (number, search) ∷ []; opened = number }

  -- The search with this number was to make so many turns.
  pub record TurnsAs (number times : ℕ) (old : Flights) (done : Bool) (new : Flights) : Type 0 where
    pub before : Open
    pub search : Open
    pub is : open_at number old ≡ Some before
    pub turned : Turned May times before search
    pub ended : search.done ≡ done
    pub after : new ≡ record { searches = set_value (at number) old.searches search; opened = old.opened }

  -- The search with this number, whose last turn was done, told its report, and is gone.
  pub record ClosesAs (number : ℕ) (old : Flights) (report : Report) (new : Flights) : Type 0 where
    pub search : Open
    pub is : open_at number old ≡ Some search
    pub ended : search.done ≡ true
    pub tells : Tells search report
    pub paid : search.spent ≤ report.steps
    pub after : new ≡ without_search number old

  -- The search with this number is gone, after so many readings.
  pub record DropsAs (number : ℕ) (old : Flights) (spent : ℕ) (new : Flights) : Type 0 where
    pub search : Open
    pub is : open_at number old ≡ Some search
    pub may : May search
    pub readings : spent ≡ search.spent
    pub after : new ≡ without_search number old
