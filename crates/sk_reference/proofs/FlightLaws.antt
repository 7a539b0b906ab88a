-- Laws of searches in flight by number.
use Rattle.std.proofs.Common.{◌≡◌, ◌≤◌, ◌<◌, ◌+◌, ℕ, Bool, true, false, cond, List, [], ◌∷◌, ◌++◌, map, All, Option, Some, None, IfSome, Bor, refl, ap, sym, ◌∙◌, subst, arith}
use Rattle.std.specs.List.{AllByRecursion}
use Rattle.std.specs.Map.{set_value, remove_entry, keys_of}
use Rattle.std.specs.Option.{option_copied}
use Rattle.std.specs.BTreeMap.{insert_entry}
use Rattle.std.specs.Ordering.{nat_cmp}
use Rattle.std.proofs.lemmas.List.Elements.{All-from_recursion, recursion_from_All, All-push, All-weaker}
use Rattle.std.proofs.lemmas.List.Sums.{sum_by-le}
use Rattle.std.proofs.lemmas.Map.Entries.{All-lookup}
use Rattle.sk_sorted.specs.Entries.{LieBelow}
use Rattle.sk_sorted.proofs.EntryLaws.{LieBelow-higher, LieBelow-without, AllByRecursion-without, put-last}
use Rattle.sk_base.specs.Commands.{FitsTurns}
use Rattle.sk_report.specs.Flights.{Open, Flights, at, open_at, without_search, owed, readings_open, TurnsAs}
use Rattle.sk_reference.specs.Searches.{Stands, Tells, AreKept, turned, with_search}
use Rattle.sk_reference.proofs.SearchLaws.{turned_turns}

abbrev pub StandsIn : ℕ × Open → Type 0
StandsIn e = Stands e.1

abbrev pub flights_of : List (ℕ × Open) → ℕ → Flights
flights_of searches opened = record { searches = searches; opened = opened }

-- nothing was read by any
owes_nothing : (flights : Flights) → AreKept flights → owed flights ≡ 0
owes_nothing flights kept =
    omega (arith, sum_by-le (λ (e : ℕ × Open). e.1.spent) 0 flights.searches (All-weaker StandsIn (λ e. e.1.spent ≤ 0) (λ e stands. unread e.1 stands) flights.searches kept.stand))
  where
    unread : (one : Open) → Stands one → one.spent ≤ 0
    unread one stands = let none : one.spent ≡ 0 = stands.unread in omega (arith, none)

-- so none is owed more than before
pub owes_same : (old new : Flights) → AreKept old → AreKept new → owed new ≡ owed old
owes_same old new kept_before kept = owes_nothing new kept ∙ sym (owes_nothing old kept_before)

-- ---- one search more

below_push : (high : ℕ) (e : ℕ × Open) (es : List (ℕ × Open)) → e.0 < high → LieBelow high es → LieBelow high (es ++ e ∷ [])
below_push high e [] lt below = (lt, tt)
below_push high e (d ∷ ds) lt below = (below.0, below_push high e ds lt below.1)

-- what is put under a higher number stands last
put_last : (number : ℕ) (one : Open) (flights : Flights) → number ≡ flights.opened + 1 → AreKept flights
    → insert_entry nat_cmp flights.searches number one ≡ flights.searches ++ (number, one) ∷ []
put_last number one flights next kept = put-last number one flights.searches (subst (λ n. LieBelow n flights.searches) (sym next) kept.numbers)

pub kept_put : (number : ℕ) (one : Open) (flights : Flights) (new : List (ℕ × Open)) → number ≡ flights.opened + 1 → new ≡ insert_entry nat_cmp flights.searches number one
    → Stands one → AreKept flights → AreKept (flights_of new number)
kept_put number one flights new next put stands kept =
    subst (λ (es : List (ℕ × Open)). AreKept (flights_of es number)) (sym (put ∙ put_last number one flights next kept))
    (record {
      numbers = below_push (number + 1) (number, one) flights.searches (omega arith) (LieBelow-higher (flights.opened + 1) (number + 1) flights.searches (omega (arith, next)) kept.numbers);
      stand = All-push StandsIn flights.searches (number, one) kept.stand stands;
    })

pub opened_with : (number : ℕ) (one : Open) (flights : Flights) (new : List (ℕ × Open)) → number ≡ flights.opened + 1 → new ≡ insert_entry nat_cmp flights.searches number one
    → AreKept flights → flights_of new number ≡ with_search one flights
opened_with number one flights new next put kept =
    ap (λ (es : List (ℕ × Open)). flights_of es number) (put ∙ put_last number one flights next kept)
    ∙ ap (λ (n : ℕ). flights_of (flights.searches ++ (n, one) ∷ []) n) next

-- ---- one by its number

stands_found : (number : ℕ) (flights : Flights) (one : Open) → AreKept flights → open_at number flights ≡ Some one → Stands one
stands_found number flights one kept there = subst (λ found. IfSome found Stands) there (All-lookup Stands (at number) flights.searches kept.stand)

pub stands_behind : (number : ℕ) (flights : Flights) (found : Option (Bor Open)) → AreKept flights → option_copied found ≡ open_at number flights
    → IfSome found (λ one. Stands one.now)
stands_behind number flights None kept is = tt
stands_behind number flights (Some one) kept is = stands_found number flights one.now kept (sym is)

pub kept_without : (number : ℕ) (flights : Flights) (new : List (ℕ × Open)) → new ≡ remove_entry (at number) flights.searches → AreKept flights
    → AreKept (flights_of new flights.opened)
kept_without number flights new left kept =
    subst (λ (es : List (ℕ × Open)). AreKept (flights_of es flights.opened)) (sym left)
    (record {
      numbers = LieBelow-without (flights.opened + 1) number flights.searches kept.numbers;
      stand = All-from_recursion StandsIn (remove_entry (at number) flights.searches) (AllByRecursion-without StandsIn number flights.searches (recursion_from_All StandsIn flights.searches kept.stand));
    })

-- ---- one in the place of another

below_set : (high number : ℕ) (one : Open) (es : List (ℕ × Open)) → LieBelow high es → LieBelow high (set_value (at number) es one)
below_set high number one [] below = tt
below_set high number one (e ∷ es) below = by_test (at number e.0) (below_set high number one es below.1)
  where
    by_test : (b : Bool) → LieBelow high (set_value (at number) es one) → LieBelow high (cond b ((e.0, one) ∷ es) (e ∷ set_value (at number) es one))
    by_test true more = below
    by_test false more = (below.0, more)

all_set : (number : ℕ) (one : Open) (es : List (ℕ × Open)) → Stands one → AllByRecursion StandsIn es → AllByRecursion StandsIn (set_value (at number) es one)
all_set number one [] stands all = tt
all_set number one (e ∷ es) stands all = by_test (at number e.0) (all_set number one es stands all.1)
  where
    by_test : (b : Bool) → AllByRecursion StandsIn (set_value (at number) es one) → AllByRecursion StandsIn (cond b ((e.0, one) ∷ es) (e ∷ set_value (at number) es one))
    by_test true more = (stands, all.1)
    by_test false more = (all.0, more)

pub kept_set : (number : ℕ) (one : Open) (flights : Flights) (new : List (ℕ × Open)) → new ≡ set_value (at number) flights.searches one → Stands one → AreKept flights
    → AreKept (flights_of new flights.opened)
kept_set number one flights new set stands kept =
    subst (λ (es : List (ℕ × Open)). AreKept (flights_of es flights.opened)) (sym set)
    (record {
      numbers = below_set (flights.opened + 1) number one flights.searches kept.numbers;
      stand = All-from_recursion StandsIn (set_value (at number) flights.searches one) (all_set number one flights.searches stands (recursion_from_All StandsIn flights.searches kept.stand));
    })

-- so many turns of the search with this number
pub turns_as : (number times : ℕ) (flights : Flights) (before one : Open) (done : Bool) (new : Flights)
    → FitsTurns times → open_at number flights ≡ Some before → one ≡ turned times before → Stands before → Stands one → done ≡ one.done
    → new ≡ flights_of (set_value (at number) flights.searches one) flights.opened → TurnsAs Stands Tells number times flights done new
turns_as number times flights before one done new fits there is stands_before stands ended after = record {
  before = before;
  search = turned times before;
  is = there;
  turned = turned_turns times before fits stands_before (subst Stands is stands);
  ended = sym (ended ∙ ap (λ (o : Open). o.done) is);
  after = after ∙ ap (λ (o : Open). flights_of (set_value (at number) flights.searches o) flights.opened) is;
}

-- ---- the readings of all

none_read : (es : List (ℕ × Open)) → AllByRecursion StandsIn es → map {B = ℕ × ℕ} (λ (e : ℕ × Open). (e.0, e.1.spent)) es ≡ map {B = ℕ × ℕ} (λ (number : ℕ). (number, 0)) (keys_of es)
none_read [] all = refl
none_read (e ∷ es) all = λ i. (e.0, all.0.unread i) ∷ none_read es all.1 i

pub readings_none : (flights : Flights) → AreKept flights → map {B = ℕ × ℕ} (λ (number : ℕ). (number, 0)) (keys_of flights.searches) ≡ readings_open flights
readings_none flights kept = sym (none_read flights.searches (recursion_from_All StandsIn flights.searches kept.stand))
