-- The open searches as callers see them.
use Rattle.std.proofs.Common.{◌≡◌, ◌≤◌, ◌<◌, ◌+◌, ℕ, Bool, true, false, sum_by, List, [], ◌∷◌, ◌++◌, length, map, All, Option, Some, None, Result, Ok, Err, OnOk, OnErr, IfOk, IfSome, unwrap_or, is_some, option_map, refl, sym, ap, ◌∙◌, subst, arith, true≢false}
use Rattle.std.specs.List.{AllByRecursion}
use Rattle.std.specs.Map.{lookup, set_value, remove_entry, values_of}
use Rattle.std.specs.Option.{IsSomeAnd}
use Rattle.std.proofs.lemmas.List.{map-append, length-map}
use Rattle.std.proofs.lemmas.List.Elements.{All-from_recursion, recursion_from_All}
use Rattle.std.proofs.lemmas.List.Sums.{sum_by-cons, sum_by_push}
use Rattle.std.proofs.lemmas.Map.Entries.{sum_by-set_value, sum_by-remove_entry}
use Rattle.std.proofs.lemmas.Map.Made.{lookup-map_values}
use Rattle.sk_base.specs.declared.find.Paging.{Paging}
use Rattle.sk_base.specs.declared.report.Report.{Report}
use Rattle.sk_base.specs.Numbers.{Docs}
use Rattle.sk_query.specs.Trees.{Tree}
use Rattle.sk_report.specs.Flights.{Open, Flights, MayBeOpen, AllMay, Turned, Begins, OpensAs, TurnsAs, ClosesAs, DropsAs, at, open_at, without_search, owed, readings_open, most_open}
use Rattle.sk_flight.specs.declared.flight.Flight.{Flight}
use Rattle.sk_match.specs.Searches.{spent_by}
use Rattle.sk_flight.specs.Kept.{IsFlight, flights_in, spent_in, open_of}
use Rattle.sk_flight.specs.Told.{Tells}
use Rattle.sk_flight.proofs.EntryLemmas.{set_seen, gone_seen, insert_last, found_is}

-- ---- by number

module _ (number opened : ℕ) (es : List (ℕ × Flight)) where
  pub open_there : (o : Option Flight) → lookup (at number) es ≡ o → open_at number (flights_in es opened) ≡ option_map open_of o
  open_there o is = lookup-map_values open_of (at number) es ∙ ap (option_map open_of) is

  pub without_is : flights_in (remove_entry (at number) es) opened ≡ without_search number (flights_in es opened)
  without_is = ap (λ ss. record { searches = ss; opened = opened }) (gone_seen open_of (at number) es)

  pub with_is : (w : Flight) → flights_in (set_value (at number) es w) opened ≡ record { searches = set_value (at number) (flights_in es opened).searches (open_of w); opened = opened }
  with_is w = ap (λ ss. record { searches = ss; opened = opened }) (set_seen open_of (at number) es w)

  -- the one that is found may be open
  pub may_there : All IsFlight (values_of es) → IfSome (open_at number (flights_in es opened)) MayBeOpen
  may_there all = subst (λ o. IfSome o MayBeOpen) (sym (open_there (lookup (at number) es) refl)) (by (lookup (at number) es) refl)
    where
      by : (o : Option Flight) → lookup (at number) es ≡ o → IfSome (option_map open_of o) MayBeOpen
      by None is = tt
      by (Some f) is = (found_is (at number) es f all is).may

  -- where none is found none is open, and nothing is taken out
  pub not_open : lookup (at number) es ≡ None → open_at number (flights_in es opened) ≡ None
  not_open is = open_there None is

  -- and the one that is found is open
  pub is_open : (f : Flight) → lookup (at number) es ≡ Some f → open_at number (flights_in es opened) ≡ None → ⊥
  is_open f is none = true≢false (ap is_some (sym (open_there (Some f) is) ∙ none))

  -- the one that is found is not done
  pub not_done : (b : Bool) → Some b ≡ option_map (λ (f : Flight). f.is_done) (lookup (at number) es) → b ≡ false → IsSomeAnd (open_at number (flights_in es opened)) (λ search. search.done ≡ false)
  not_done b found not = subst (λ o. IsSomeAnd o (λ search. search.done ≡ false)) (sym (open_there (lookup (at number) es) refl)) (by (lookup (at number) es) found)
    where
      by : (o : Option Flight) → Some b ≡ option_map (λ (f : Flight). f.is_done) o → IsSomeAnd (option_map open_of o) (λ search. search.done ≡ false)
      by None is = absurd (cc)
      by (Some f) is = sym (ap (λ o. unwrap_or o b) is) ∙ not

pub none_found : (o : Option Flight) → None ≡ option_map (λ (f : Flight). f.is_done) o → o ≡ None
none_found None is = refl
none_found (Some f) is = absurd (cc)

-- where there is room for one more, not as many are open as may be
pub room_is : (opened : ℕ) (es : List (ℕ × Flight)) → length es < most_open → most_open ≤ length (flights_in es opened).searches → ⊥
room_is opened es room full = let same = length-map {B = ℕ × Open} es (λ (e : ℕ × Flight). (e.0, open_of e.1)) in omega (arith, room, same, full)

-- ---- readings

-- each with its own
pub spent_seen : (opened : ℕ) (es : List (ℕ × Flight)) → spent_in es ≡ readings_open (flights_in es opened)
spent_seen opened [] = refl
spent_seen opened (e ∷ es) = ap (λ xs. (e.0, spent_by e.1.search) ∷ xs) (spent_seen opened es)

abbrev spent_of : Open → ℕ
spent_of s = s.spent

owed_values : (ss : List (ℕ × Open)) → sum_by (λ (e : ℕ × Open). e.1.spent) ss ≡ sum_by spent_of (values_of ss)
owed_values [] = refl
owed_values (e ∷ ss) = sum_by-cons (λ (e : ℕ × Open). e.1.spent) e ss ∙ ap (λ n. e.1.spent + n) (owed_values ss) ∙ sym (sum_by-cons spent_of e.1 (values_of ss))

pub owed_set : (number : ℕ) (old : Flights) (v w : Open) → open_at number old ≡ Some v
    → owed (record { searches = set_value (at number) old.searches w; opened = old.opened }) + v.spent ≡ owed old + w.spent
owed_set number old v w there =
    let new = owed_values (set_value (at number) old.searches w) in
    let before = owed_values old.searches in
    let one = sum_by-set_value spent_of (at number) old.searches v w there in
    omega (arith, new, before, one)

pub owed_gone : (number : ℕ) (old : Flights) → owed (without_search number old) + unwrap_or (option_map spent_of (open_at number old)) 0 ≡ owed old
owed_gone number old =
    let new = owed_values (remove_entry (at number) old.searches) in
    let before = owed_values old.searches in
    let one = sum_by-remove_entry spent_of (at number) old.searches in
    omega (arith, new, before, one)

pub owed_last : (ss : List (ℕ × Open)) (number opened now : ℕ) (s : Open) → owed (record { searches = ss ++ (number, s) ∷ []; opened = now }) ≡ owed (record { searches = ss; opened = opened }) + s.spent
owed_last ss number opened now s = sum_by_push (λ (e : ℕ × Open). e.1.spent) ss (number, s)

-- ---- what calls come to

pub turned_as : (number times opened : ℕ) (es fs : List (ℕ × Flight)) (f w : Flight) (done : Bool) → lookup (at number) es ≡ Some f → Turned MayBeOpen times (open_of f) (open_of w) → w.is_done ≡ done
    → fs ≡ set_value (at number) es w → TurnsAs MayBeOpen Tells number times (flights_in es opened) done (flights_in fs opened)
turned_as number times opened es fs f w done there turned ended is = record {
  before = open_of f;
  search = open_of w;
  is = open_there number opened es (Some f) there;
  turned = turned;
  ended = ended;
  after = ap (λ xs. flights_in xs opened) is ∙ with_is number opened es w;
}

pub turned_owed : (number opened : ℕ) (es fs : List (ℕ × Flight)) (f w : Flight) → lookup (at number) es ≡ Some f → fs ≡ set_value (at number) es w
    → owed (flights_in fs opened) + spent_by f.search ≡ owed (flights_in es opened) + spent_by w.search
turned_owed number opened es fs f w there is =
    let new = ap owed (ap (λ xs. flights_in xs opened) is ∙ with_is number opened es w) in
    let one = owed_set number (flights_in es opened) (open_of f) (open_of w) (open_there number opened es (Some f) there) in
    omega (arith, new, one)

pub gone_owed : (number opened : ℕ) (es fs : List (ℕ × Flight)) (f : Flight) → lookup (at number) es ≡ Some f → fs ≡ remove_entry (at number) es
    → owed (flights_in fs opened) + spent_by f.search ≡ owed (flights_in es opened)
gone_owed number opened es fs f there is =
    let new = ap owed (ap (λ xs. flights_in xs opened) is ∙ without_is number opened es) in
    let one = owed_gone number (flights_in es opened) in
    let spent = ap (λ o. unwrap_or (option_map spent_of o) 0) (open_there number opened es (Some f) there) in
    omega (arith, new, one, spent)

pub closed_as : (number opened : ℕ) (es fs : List (ℕ × Flight)) (f : Flight) (paging : Paging) (report : Report) → lookup (at number) es ≡ Some f → f.is_done ≡ true → Tells (open_of f) report
    → spent_by f.search ≤ report.steps → paging ≡ f.paging → fs ≡ remove_entry (at number) es
    → (closes : ClosesAs MayBeOpen Tells number (flights_in es opened) report (flights_in fs opened)) × (paging ≡ closes.search.paging)
closed_as number opened es fs f paging report there ended tells paid same is = (
  record {
    search = open_of f;
    is = open_there number opened es (Some f) there;
    ended = ended;
    tells = tells;
    paid = paid;
    after = ap (λ xs. flights_in xs opened) is ∙ without_is number opened es;
  },
  same,
)

pub dropped_as : (number opened : ℕ) (es fs : List (ℕ × Flight)) (f : Flight) (spent : ℕ) → lookup (at number) es ≡ Some f → IsFlight f → spent ≡ spent_by f.search
    → fs ≡ remove_entry (at number) es → DropsAs MayBeOpen Tells number (flights_in es opened) spent (flights_in fs opened)
dropped_as number opened es fs f spent there flies read is = record {
  search = open_of f;
  is = open_there number opened es (Some f) there;
  may = flies.may;
  readings = read;
  after = ap (λ xs. flights_in xs opened) is ∙ without_is number opened es;
}

module _ (opened : ℕ) (es fs : List (ℕ × Flight)) (f : Flight) (low : AllByRecursion (λ (e : ℕ × Flight). e.0 ≤ opened) es) (is : fs ≡ es ++ (opened + 1, f) ∷ []) where
  last_is : flights_in fs (opened + 1) ≡ record { searches = (flights_in es opened).searches ++ (opened + 1, open_of f) ∷ []; opened = opened + 1 }
  last_is = ap (λ ss. record { searches = ss; opened = opened + 1 }) (ap (map (λ (e : ℕ × Flight). (e.0, open_of e.1))) is ∙ map-append (λ (e : ℕ × Flight). (e.0, open_of e.1)) es ((opened + 1, f) ∷ []))

  pub opened_as : (paging : Paging) (query : Tree) (docs : Docs) → length es < most_open → Begins MayBeOpen paging query docs (open_of f)
      → OpensAs MayBeOpen Tells paging query docs (flights_in es opened) (opened + 1) (flights_in fs (opened + 1))
  opened_as paging query docs room begins = record {
    room = let same = length-map {B = ℕ × Open} es (λ (e : ℕ × Flight). (e.0, open_of e.1)) in omega (arith, room, same);
    next = refl;
    search = open_of f;
    begins = begins;
    after = last_is;
  }

  pub opened_owed : owed (flights_in fs (opened + 1)) ≡ owed (flights_in es opened) + spent_by f.search
  opened_owed = ap owed last_is ∙ owed_last (flights_in es opened).searches (opened + 1) opened (opened + 1) (open_of f)

-- all of them may be open
pub all_may : (opened : ℕ) (es : List (ℕ × Flight)) → All IsFlight (values_of es) → AllMay MayBeOpen (flights_in es opened)
all_may opened es all = All-from_recursion (λ (e : ℕ × Open). MayBeOpen e.1) (flights_in es opened).searches (each es (recursion_from_All IsFlight (values_of es) all))
  where
    each : (es : List (ℕ × Flight)) → AllByRecursion IsFlight (values_of es) → AllByRecursion (λ (e : ℕ × Open). MayBeOpen e.1) (map (λ (e : ℕ × Flight). (e.0, open_of e.1)) es)
    each [] all = tt
    each (e ∷ es) all = (all.0.may, each es all.1)

-- one by one
pub each_flight : (es : List (ℕ × Flight)) → All IsFlight (values_of es) → AllByRecursion (λ (e : ℕ × Flight). IsFlight e.1) es
each_flight es all = each es (recursion_from_All IsFlight (values_of es) all)
  where
    each : (es : List (ℕ × Flight)) → AllByRecursion IsFlight (values_of es) → AllByRecursion (λ (e : ℕ × Flight). IsFlight e.1) es
    each [] all = tt
    each (e ∷ es) all = (all.0, each es all.1)

-- ---- what a call answers

module _ {T E : Type 0} where
  pub on_err : {P Q : Type 0} (r : Result T E) → (P → Q) → OnErr r P → OnErr r Q
  on_err (Ok x) f p = tt
  on_err (Err e) f p = f p

  pub on_ok : {P Q : Type 0} (r : Result T E) → (P → Q) → OnOk r P → OnOk r Q
  on_ok (Ok x) f p = f p
  on_ok (Err e) f p = tt

  pub err_anyway : {Q : Type 0} (r : Result T E) → Q → OnErr r Q
  err_anyway (Ok x) q = tt
  err_anyway (Err e) q = q

  pub ok_anyway : {Q : Type 0} (r : Result T E) → Q → OnOk r Q
  ok_anyway (Ok x) q = q
  ok_anyway (Err e) q = tt

  pub if_ok : {P Q : T → Type 0} (r : Result T E) → ((x : T) → P x → Q x) → IfOk r P → IfOk r Q
  if_ok (Ok x) f p = f x p
  if_ok (Err e) f p = tt
