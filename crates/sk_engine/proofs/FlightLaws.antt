-- What open searches owe, before and behind a command on them, and what is held then.
use Rattle.std.proofs.Common.{◌≡◌, ◌≤◌, ◌<◌, ◌+◌, ◌-◌, ◌⊎◌, inl, inr, ℕ, Bool, true, false, cond, List, [], ◌∷◌, ◌++◌, Option, Some, None, Result, Ok, Err, is_some, sum_by, unwrap_or, option_map, refl, sym, ap, ◌∙◌, subst, true≢false, arith}
use Rattle.std.specs.Cmp.{nat_cmp_total, tied_itself}
use Rattle.std.specs.Ordering.{nat_cmp, is_eq}
use Rattle.std.specs.Map.{lookup, set_value, remove_entry, values_of}
use Rattle.std.proofs.lemmas.List.Sums.{sum_by-cons, sum_by_push}
use Rattle.std.proofs.lemmas.Map.Entries.{sum_by-set_value, sum_by-remove_entry}
use Rattle.sk_base.specs.declared.command.FlightCommand.TheVariants as FlightCommand
use Rattle.sk_base.specs.declared.find.Paging.{Paging}
use Rattle.sk_base.specs.declared.schema.Schema.{Schema}
use Rattle.sk_query.specs.Trees.{Tree}
use Rattle.sk_base.specs.declared.report.Report.{Report}
use Rattle.sk_report.specs.Flights.{Open, Flights, MayBeOpen, TurnsAs, at, open_at, owed, without_search}
use Rattle.sk_index.specs.Indexed.{Indexed}
use Rattle.sk_flight.specs.Flying.{Flying}
use Rattle.sk_match.specs.declared.open_search.Turn.{Turn}
use Rattle.sk_flight.specs.declared.flights.Opened.{Opened}
use Rattle.sk_flight.specs.declared.flights.Opened.TheVariants.{Number}
use Rattle.sk_flight.specs.declared.flights.Finish.{Finish}
use Rattle.sk_flight.specs.declared.flights.Finish.TheVariants.{Found}
use Rattle.sk_flight.specs.Told.{Tells, Opens, Turns, Ends, steps_in, was_done}
use Rattle.sk_run.specs.declared.response.Response.TheVariants as Response
use Rattle.sk_run.specs.Held.{Held, with_flights}
use Rattle.sk_engine.specs.Sessions.{held_by, MayFly}

at_itself : (number : ℕ) → at number number ≡ true
at_itself number = ap is_eq (tied_itself nat_cmp_total number)

owed_is : (es : List (ℕ × Open)) → sum_by (λ (e : ℕ × Open). e.1.spent) es ≡ sum_by (λ (s : Open). s.spent) (values_of es)
owed_is [] = refl
owed_is (e ∷ es) =
    let a = sum_by-cons (λ (e : ℕ × Open). e.1.spent) e es in
    let b = sum_by-cons (λ (s : Open). s.spent) e.1 (values_of es) in
    let more = owed_is es in
    omega (arith, a, b, more)

module _ (number : ℕ) (s : Open) where
  found_step : (e : ℕ × Open) (o next : Option Open) (b : Bool) → cond b (Some e.1) o ≡ None → (o ≡ None → next ≡ Some s) → cond b (Some e.1) next ≡ Some s
  found_step e o next true none more = absurd (true≢false (ap is_some none))
  found_step e o next false none more = more none

  -- a search that was put last is found, where none was before
  found_last : (es : List (ℕ × Open)) → lookup (at number) es ≡ None → lookup (at number) (es ++ (number, s) ∷ []) ≡ Some s
  found_last [] none = ap (λ b. cond b (Some s) None) (at_itself number)
  found_last (e ∷ es) none = found_step e (lookup (at number) es) (lookup (at number) (es ++ (number, s) ∷ [])) (at number e.0) none (found_last es)

  written_step : (e : ℕ × Open) (es : List (ℕ × Open)) (b : Bool) → at number e.0 ≡ b → is_some (cond b (Some e.1) (lookup (at number) es)) ≡ true → (is_some (lookup (at number) es) ≡ true → lookup (at number) (set_value (at number) es s) ≡ Some s)
      → lookup (at number) (cond b ((e.0, s) ∷ es) (e ∷ set_value (at number) es s)) ≡ Some s
  written_step e es true is there more = ap (λ b. cond b (Some s) (lookup (at number) es)) is
  written_step e es false is there more = ap (λ b. cond b (Some e.1) (lookup (at number) (set_value (at number) es s))) is ∙ more there

  -- a search that was written is found
  found_written : (es : List (ℕ × Open)) → is_some (lookup (at number) es) ≡ true → lookup (at number) (set_value (at number) es s) ≡ Some s
  found_written [] there = absurd (true≢false (sym there))
  found_written (e ∷ es) there = written_step e es (at number e.0) refl there (found_written es)

module _ (number : ℕ) (old new : Flights) where
  -- One that was opened is found under its number, and owes what it read.
  pub opened_owes : (search : Open) → open_at number old ≡ None → new ≡ record { searches = old.searches ++ (number, search) ∷ []; opened = number }
      → (open_at number new ≡ Some search) × (owed new ≡ owed old + search.spent)
  opened_owes search none is =
      (ap (open_at number) is ∙ found_last number search old.searches none, ap owed is ∙ sum_by_push (λ (e : ℕ × Open). e.1.spent) old.searches (number, search))

  -- One that was turned is found, and owes what it read more.
  pub turned_owes : (before after : Open) → open_at number old ≡ Some before → new ≡ record { searches = set_value (at number) old.searches after; opened = old.opened }
      → (open_at number new ≡ Some after) × (owed new + before.spent ≡ owed old + after.spent)
  turned_owes before after there is =
      let a = ap owed is ∙ owed_is (set_value (at number) old.searches after) in
      let b = owed_is old.searches in
      let moved = sum_by-set_value (λ (s : Open). s.spent) (at number) old.searches before after there in
      (ap (open_at number) is ∙ found_written number after old.searches (ap is_some there), omega (arith, a, b, moved))

  -- One that is gone owes nothing.
  pub ended_owes : (search : Open) → open_at number old ≡ Some search → new ≡ without_search number old → owed new + search.spent ≡ owed old
  ended_owes search there is =
      let a = ap owed is ∙ owed_is (remove_entry (at number) old.searches) in
      let b = owed_is old.searches in
      let moved = sum_by-remove_entry (λ (s : Open). s.spent) (at number) old.searches in
      let one : unwrap_or (option_map (λ (s : Open). s.spent) (open_at number old)) 0 ≡ search.spent = ap (λ o. unwrap_or (option_map (λ (s : Open). s.spent) o) 0) there in
      omega (arith, a, b, moved, one)

-- ---- what is held

abbrev held_of : Flights → Indexed → Held
held_of flights index = record { live = index.live; parts = 1; flights = flights }

-- Where the newest documents are as before, other searches may be open, and nothing else has changed.
pub flown : (old new : Flying) → new.newest ≡ old.newest → held_by new ≡ with_flights (held_by old) new.flights
flown old new same = ap (held_of new.flights) same

-- ---- an opening

-- It is found under its number, and owes what it read.
module _ (paging : Paging) (query : Tree) (old new : Flying) (number : ℕ) where
  pub opened_spent : (opened : Opened) → opened ≡ Number number → Opens paging query old new opened → ((n : ℕ) → old.flights.opened < n → open_at n old.flights ≡ None)
      → (spent : Option ℕ) → spent ≡ option_map (λ (s : Open). s.spent) (open_at number new.flights) → (reads : ℕ) × (spent ≡ Some reads) × (owed new.flights ≡ owed old.flights + reads)
  opened_spent opened is opens fresh spent told =
      let one = (subst (λ (o : Opened). Opens paging query old new o) is opens).1 in
      let next = one.next in
      let owes = opened_owes number old.flights new.flights one.search (fresh number (omega (arith, next))) one.after in
      (one.search.spent, told ∙ ap (λ o. option_map (λ (s : Open). s.spent) o) owes.0, owes.1)

-- ---- turns

module _ (number times : ℕ) (old new : Flying) (turn : Turn) (turns : TurnsAs MayBeOpen Tells number times old.flights (was_done turn) new.flights) where
  pub turned_spent : (before : ℕ) → option_map (λ (s : Open). s.spent) (open_at number old.flights) ≡ Some before
      → (spent : Option ℕ) → spent ≡ option_map (λ (s : Open). s.spent) (open_at number new.flights) → (after : ℕ) × (spent ≡ Some after) × (before ≤ after) × (owed new.flights + before ≡ owed old.flights + after)
  turned_spent before had spent told =
      let owes = turned_owes number old.flights new.flights turns.before turns.search turns.is turns.after in
      let was : turns.before.spent ≡ before = ap (λ o. unwrap_or o 0) (sym (ap (λ o. option_map (λ (s : Open). s.spent) o) turns.is) ∙ had) in
      let later = turns.turned.later in
      let owed_more = owes.1 in
      (turns.search.spent, told ∙ ap (λ o. option_map (λ (s : Open). s.spent) o) owes.0, omega (arith, later, was), omega (arith, owed_more, was))

  pub turned_so : (schema : Schema) → new.newest ≡ old.newest → (done : Bool) → was_done turn ≡ done → (before after : ℕ) → before ≤ after → owed new.flights + before ≡ owed old.flights + after
      → MayFly schema (held_by old) (FlightCommand.Turn number times) (Response.Turned number done (after - before)) (held_by new)
  turned_so schema same done is before after later owes = record {
    does = inr (done, after - before, new.flights, subst (λ (b : Bool). TurnsAs MayBeOpen Tells number times old.flights b new.flights) is turns, refl, flown old new same);
    paid = omega (arith, later, owes);
  }

-- Some turn was made.
pub turns_of : (number times : ℕ) (old new : Flights) (turned : Option Turn) (turn : Turn) → turned ≡ Some turn → Turns number times old new turned → TurnsAs MayBeOpen Tells number times old (was_done turn) new
turns_of number times old new turned turn is turns = subst (λ (o : Option Turn). Turns number times old new o) is turns

-- ---- an end

module _ (number : ℕ) (old new : Flying) (finish : Finish) (paging : Paging) (report : Report) (spent : ℕ) where
  -- What it owed is told with its report, which tells no less.
  pub closed_owes : finish ≡ Found paging report → Ends number old.flights new.flights finish → option_map (λ (s : Open). s.spent) (open_at number old.flights) ≡ Some spent
      → (spent ≤ report.steps) × (owed new.flights + spent ≡ owed old.flights) × (steps_in finish ≡ report.steps)
  closed_owes is ends had =
      let closes = (subst (λ (f : Finish). Ends number old.flights new.flights f) is ends).0 in
      let was : closes.search.spent ≡ spent = ap (λ o. unwrap_or o 0) (sym (ap (λ o. option_map (λ (s : Open). s.spent) o) closes.is) ∙ had) in
      let paid = closes.paid in
      let owes = ended_owes number old.flights new.flights closes.search closes.is closes.after in
      (omega (arith, paid, was), omega (arith, owes, was), ap steps_in is)

  pub closed_so : (schema : Schema) → new.newest ≡ old.newest → finish ≡ Found paging report → Ends number old.flights new.flights finish → option_map (λ (s : Open). s.spent) (open_at number old.flights) ≡ Some spent
      → MayFly schema (held_by old) (FlightCommand.Close number) (Response.Closed paging.options.first report (report.steps - spent)) (held_by new)
  closed_so schema same is ends had =
      let found = subst (λ (f : Finish). Ends number old.flights new.flights f) is ends in
      let owes = closed_owes is ends had in
      let le = owes.0 in
      let gone = owes.1 in
      record {
        does = inr (inr (report, report.steps - spent, new.flights, found.0, ap (λ (p : Paging). Response.Closed p.options.first report (report.steps - spent)) found.1, flown old new same));
        paid = omega (arith, le, gone);
      }
