-- Entries that are written, taken out and put last.
use Rattle.std.proofs.Common.{◌≡◌, ◌≤◌, ◌<◌, ◌+◌, ℕ, suc, Bool, true, false, cond, List, [], ◌∷◌, ◌++◌, length, map, All, Option, Some, None, Ordering, unwrap_or, refl, sym, ap, ◌∙◌, subst, arith}
use Rattle.std.specs.List.{AllByRecursion}
use Rattle.std.specs.Ordering.{nat_cmp, match_ordering, MatchOrdering}
use Rattle.std.specs.declared.cmp.Ordering.TheVariants.{Less, Equal, Greater}
use Rattle.std.specs.BTreeMap.{insert_entry}
use Rattle.std.specs.Map.{lookup, set_value, remove_entry, values_of}
use Rattle.std.proofs.lemmas.Cmp.{ranked}
use Rattle.std.proofs.lemmas.List.{length-append}
use Rattle.std.proofs.lemmas.List.Elements.{recursion_from_All}
use Rattle.std.proofs.lemmas.Map.{length-set_value}
use Rattle.std.proofs.lemmas.Map.Views.{All-values-set_value, All-values-insert_entry, All-map-remove_entry}
use Rattle.sk_report.specs.Flights.{most_open}
use Rattle.sk_flight.specs.declared.flight.Flight.{Flight}
use Rattle.sk_flight.specs.Kept.{IsFlight, AreFlights}

module _ {X : Type 0} (test : ℕ → Bool) where
  remove_set_step : (e : ℕ × X) (es : List (ℕ × X)) (w : X) → remove_entry test (set_value test es w) ≡ remove_entry test es
      → (b : Bool) → test e.0 ≡ b → remove_entry test (cond b ((e.0, w) ∷ es) (e ∷ set_value test es w)) ≡ cond b es (e ∷ remove_entry test es)
  remove_set_step e es w more true is = ap (λ b. cond b es ((e.0, w) ∷ remove_entry test es)) is
  remove_set_step e es w more false is = ap (λ b. cond b (set_value test es w) (e ∷ remove_entry test (set_value test es w))) is ∙ ap (λ xs. e ∷ xs) more

  -- what is taken out may have been written before
  pub remove_set : (es : List (ℕ × X)) (w : X) → remove_entry test (set_value test es w) ≡ remove_entry test es
  remove_set [] w = refl
  remove_set (e ∷ es) w = remove_set_step e es w (remove_set es w) (test e.0) refl

  none_step : (e : ℕ × X) (es : List (ℕ × X)) (b : Bool) → (lookup test es ≡ None → remove_entry test es ≡ es) → cond b (Some e.1) (lookup test es) ≡ None → cond b es (e ∷ remove_entry test es) ≡ e ∷ es
  none_step e es true more none = absurd (cc)
  none_step e es false more none = ap (λ xs. e ∷ xs) (more none)

  -- where none is found nothing is taken out
  pub remove_none : (es : List (ℕ × X)) → lookup test es ≡ None → remove_entry test es ≡ es
  remove_none [] none = refl
  remove_none (e ∷ es) none = none_step e es (test e.0) (remove_none es) none

  few_step : (e : ℕ × X) (es : List (ℕ × X)) (b : Bool) → length (remove_entry test es) ≤ length es → length (cond b es (e ∷ remove_entry test es)) ≤ suc (length es)
  few_step e es true le = omega arith
  few_step e es false le = omega (arith, le)

  -- no more are left
  pub remove_few : (es : List (ℕ × X)) → length (remove_entry test es) ≤ length es
  remove_few [] = omega arith
  remove_few (e ∷ es) = few_step e es (test e.0) (remove_few es)

  module _ (n : ℕ) where
    abbrev Low : List (ℕ × X) → Type 0
    Low es = AllByRecursion (λ (e : ℕ × X). e.0 ≤ n) es

    set_step : (e : ℕ × X) (es : List (ℕ × X)) (w : X) (b : Bool) → e.0 ≤ n → Low es → Low (set_value test es w) → Low (cond b ((e.0, w) ∷ es) (e ∷ set_value test es w))
    set_step e es w true low all more = (low, all)
    set_step e es w false low all more = (low, more)

    pub low_set : (es : List (ℕ × X)) (w : X) → Low es → Low (set_value test es w)
    low_set [] w all = tt
    low_set (e ∷ es) w all = set_step e es w (test e.0) all.0 all.1 (low_set es w all.1)

    gone_step : (e : ℕ × X) (es : List (ℕ × X)) (b : Bool) → e.0 ≤ n → Low es → Low (remove_entry test es) → Low (cond b es (e ∷ remove_entry test es))
    gone_step e es true low all more = all
    gone_step e es false low all more = (low, more)

    pub low_gone : (es : List (ℕ × X)) → Low es → Low (remove_entry test es)
    low_gone [] all = tt
    low_gone (e ∷ es) all = gone_step e es (test e.0) all.0 all.1 (low_gone es all.1)

module _ {X Y : Type 0} (f : X → Y) (test : ℕ → Bool) where
  abbrev seen : List (ℕ × X) → List (ℕ × Y)
  seen es = map (λ (e : ℕ × X). (e.0, f e.1)) es

  set_seen_step : (e : ℕ × X) (es : List (ℕ × X)) (w : X) (b : Bool) → seen (set_value test es w) ≡ set_value test (seen es) (f w)
      → seen (cond b ((e.0, w) ∷ es) (e ∷ set_value test es w)) ≡ cond b ((e.0, f w) ∷ seen es) ((e.0, f e.1) ∷ set_value test (seen es) (f w))
  set_seen_step e es w true more = refl
  set_seen_step e es w false more = ap (λ xs. (e.0, f e.1) ∷ xs) more

  -- what is written is seen so
  pub set_seen : (es : List (ℕ × X)) (w : X) → seen (set_value test es w) ≡ set_value test (seen es) (f w)
  set_seen [] w = refl
  set_seen (e ∷ es) w = set_seen_step e es w (test e.0) (set_seen es w)

  gone_seen_step : (e : ℕ × X) (es : List (ℕ × X)) (b : Bool) → seen (remove_entry test es) ≡ remove_entry test (seen es)
      → seen (cond b es (e ∷ remove_entry test es)) ≡ cond b (seen es) ((e.0, f e.1) ∷ remove_entry test (seen es))
  gone_seen_step e es true more = refl
  gone_seen_step e es false more = ap (λ xs. (e.0, f e.1) ∷ xs) more

  -- what is taken out is seen no more
  pub gone_seen : (es : List (ℕ × X)) → seen (remove_entry test es) ≡ remove_entry test (seen es)
  gone_seen [] = refl
  gone_seen (e ∷ es) = gone_seen_step e es (test e.0) (gone_seen es)

module _ {X : Type 0} (n : ℕ) (v : X) where
  last_step : (e : ℕ × X) (es : List (ℕ × X)) (r : Ordering) → MatchOrdering r (n + 1 < e.0) (n + 1 ≡ e.0) (e.0 < n + 1) → e.0 ≤ n → insert_entry nat_cmp es (n + 1) v ≡ es ++ (n + 1, v) ∷ []
      → match_ordering r ((n + 1, v) ∷ e ∷ es) ((e.0, v) ∷ es) (e ∷ insert_entry nat_cmp es (n + 1) v) ≡ e ∷ (es ++ (n + 1, v) ∷ [])
  last_step e es Less h low more = absurd (omega (arith, h, low))
  last_step e es Equal h low more = absurd (omega (arith, h, low))
  last_step e es Greater h low more = ap (λ xs. e ∷ xs) more

  -- behind all others stands the greatest number
  pub insert_last : (es : List (ℕ × X)) → AllByRecursion (λ (e : ℕ × X). e.0 ≤ n) es → insert_entry nat_cmp es (n + 1) v ≡ es ++ (n + 1, v) ∷ []
  insert_last [] all = refl
  insert_last (e ∷ es) all = last_step e es (nat_cmp (n + 1) e.0) (ranked (n + 1) e.0 (nat_cmp (n + 1) e.0) refl) all.0 (insert_last es all.1)

  pub low_last : (es : List (ℕ × X)) → AllByRecursion (λ (e : ℕ × X). e.0 ≤ n) es → AllByRecursion (λ (e : ℕ × X). e.0 ≤ n + 1) (es ++ (n + 1, v) ∷ [])
  low_last [] all = (omega arith, tt)
  low_last (e ∷ es) all = let low = all.0 in (omega (arith, low), low_last es all.1)

-- ---- open searches

pub kept_set : (opened : ℕ) (test : ℕ → Bool) (es : List (ℕ × Flight)) (w : Flight) → AreFlights opened es → IsFlight w → AreFlights opened (set_value test es w)
kept_set opened test es w are is = record {
  flights = All-values-set_value test IsFlight es w are.flights is;
  numbers = low_set test opened es w are.numbers;
  few = let same = length-set_value test es w in let few = are.few in omega (arith, same, few);
}

pub kept_gone : (opened : ℕ) (test : ℕ → Bool) (es : List (ℕ × Flight)) → AreFlights opened es → AreFlights opened (remove_entry test es)
kept_gone opened test es are = record {
  flights = All-map-remove_entry test (λ e. e.1) IsFlight es are.flights;
  numbers = low_gone test opened es are.numbers;
  few = let less = remove_few test es in let few = are.few in omega (arith, less, few);
}

pub kept_last : (opened : ℕ) (es : List (ℕ × Flight)) (w : Flight) → AreFlights opened es → IsFlight w → length es < most_open → AreFlights (opened + 1) (es ++ (opened + 1, w) ∷ [])
kept_last opened es w are is room = record {
  flights = subst (λ xs. All IsFlight (values_of xs)) (insert_last opened w es are.numbers) (All-values-insert_entry nat_cmp (opened + 1) w IsFlight es are.flights is);
  numbers = low_last opened w es are.numbers;
  few = let long = length-append es ((opened + 1, w) ∷ []) in omega (arith, long, room);
}

found_step : (test : ℕ → Bool) (e : ℕ × Flight) (es : List (ℕ × Flight)) (f : Flight) (b : Bool) → IsFlight e.1 → cond b (Some e.1) (lookup test es) ≡ Some f → (lookup test es ≡ Some f → IsFlight f) → IsFlight f
found_step test e es f true is there more = subst IsFlight (ap (λ o. unwrap_or o e.1) there) is
found_step test e es f false is there more = more there

found_by_recursion : (test : ℕ → Bool) (es : List (ℕ × Flight)) (f : Flight) → AllByRecursion IsFlight (values_of es) → lookup test es ≡ Some f → IsFlight f
found_by_recursion test [] f all there = absurd (cc)
found_by_recursion test (e ∷ es) f all there = found_step test e es f (test e.0) all.0 there (found_by_recursion test es f all.1)

-- the search that is found is one
pub found_is : (test : ℕ → Bool) (es : List (ℕ × Flight)) (f : Flight) → All IsFlight (values_of es) → lookup test es ≡ Some f → IsFlight f
found_is test es f all there = found_by_recursion test es f (recursion_from_All IsFlight (values_of es) all) there
