-- What a leaf gives, and what a seek leaves of it.
use Rattle.std.proofs.Common.{◌≡◌, ◌≤◌, ◌<◌, ◌^◌, ℕ, nat_le, nat_lt, Bool, true, false, [], ◌∷◌, ◌++◌, Option, None, Some, unwrap_or, if◌then◌else◌, ◌⊎◌, inl, inr, refl, sym, subst, ap, ◌∙◌, arith, le_refl}
use Rattle.std.specs.Option.{option_map}
use Rattle.std.proofs.lemmas.Bool.{cases_eq, cases_lt, ltb-false}
use Rattle.std.proofs.lemmas.Bool.Decides.{nat_tests}
use Rattle.sk_base.specs.declared.find.Scheme.{Scheme}
use Rattle.sk_sorted.specs.Entries.{RiseAbove, LieBelow, AreSorted, found, from, first_id}
use Rattle.sk_sorted.proofs.EntryLaws.{RiseAbove-lower, found-here, found-other, found-below, from-below, from-at}
use Rattle.sk_lists.specs.declared.cursor.Cursor.{Cursor}
use Rattle.sk_chunks.specs.Postings.{Postings, first_wdf, is_below}
use Rattle.sk_sorted.specs.Runs.{AreRuns}
use Rattle.sk_lists.specs.Lists.{Runs}
use Rattle.sk_lists.specs.Seeks.{ArePassed, PassesPostings}
use Rattle.sk_lists.specs.Cursor.{left, IsOn}
use Rattle.sk_lists.proofs.CursorLaws.{AreSorted-left}
use Rattle.sk_index.specs.Indexed.{Indexed}
use Rattle.sk_model.specs.Weights.{weigh_by}
use Rattle.sk_model.specs.Covers.{CoversAt, Covers}
use Rattle.sk_model.proofs.CoverLaws.{covers_itself}
use Rattle.sk_decay.specs.Heads.{IsHead}
use Rattle.sk_nodes.specs.declared.top.Top.{Top}
use Rattle.sk_nodes.specs.declared.leaf.Leaf.{Leaf}
use Rattle.sk_nodes.specs.Leaves.{runs_of, entries_of, weighed, leaf_rest, head_of, WeighBelow, AtMost, IsLeafOn}
use Rattle.sk_nodes.specs.Left.{from_on}
use Rattle.sk_nodes.specs.Shapes.{leaf}
use Rattle.sk_nodes.specs.Sound.{IsTop}

-- ---- what is given from an id on

from_true : (target id : ℕ) (a : Option ℕ) → target ≤ id → (if nat_le target id then a else None) ≡ a
from_true target id a le = grind (arith, nat_tests)

from_false : (target id : ℕ) (a : Option ℕ) → id < target → (if nat_le target id then a else None) ≡ None
from_false target id a lt = grind (arith, nat_tests)

pub from_on-at : (target : ℕ) (f : ℕ → Option ℕ) (id : ℕ) → target ≤ id → from_on target f id ≡ f id
from_on-at target f id le = from_true target id (f id) le

pub from_on-below : (target : ℕ) (f : ℕ → Option ℕ) (id : ℕ) → id < target → from_on target f id ≡ None
from_on-below target f id lt = from_false target id (f id) lt

-- at an id, by whether it lies below the target
pub from_cases : (target : ℕ) (f : ℕ → Option ℕ) (id : ℕ) (b : Option ℕ) (need : ℕ) → (target ≤ id → CoversAt (f id) b need) → (id < target → b ≡ None) → CoversAt (from_on target f id) b need
from_cases target f id b need at below =
    elim (cases_lt id target) as (λ _. CoversAt (from_on target f id) b need) [
      | inl lt ↦ subst (λ a. CoversAt a b need) (sym (from_on-below target f id lt)) (subst (λ o. CoversAt None o need) (sym (below lt)) tt)
      | inr le ↦ subst (λ a. CoversAt a b need) (sym (from_on-at target f id le)) (at le)
    ]

-- nothing comes of nothing
pub covers_none : (a b : Option ℕ) (need : ℕ) → a ≡ None → CoversAt a b need → b ≡ None
covers_none None None need e h = refl
covers_none None (Some w) need e h = absurd h
covers_none (Some v) b need e h = cc

from_none : (test : Bool) (a : Option ℕ) → a ≡ None → (if test then a else None) ≡ None
from_none true a e = e
from_none false a e = refl

pub from_on-none : (target : ℕ) (f : ℕ → Option ℕ) (id : ℕ) → f id ≡ None → from_on target f id ≡ None
from_on-none target f id e = from_none (nat_le target id) (f id) e

pub covers_less : (a b : Option ℕ) (need : ℕ) → CoversAt a b need → unwrap_or b 0 ≤ unwrap_or a 0
covers_less None None need h = omega arith
covers_less None (Some w) need h = absurd h
covers_less (Some v) None need h = omega arith
covers_less (Some v) (Some w) need h = h.0

from_less : (test : Bool) (a : Option ℕ) → unwrap_or (if test then a else None) 0 ≤ unwrap_or a 0
from_less true a = le_refl (unwrap_or a 0)
from_less false a = omega arith

chain : (x y z g : ℕ) → x ≤ y → y ≤ z → z ≤ g → x ≤ g
chain x y z g p q r = omega (arith, p, q, r)

-- no weight grows
pub AtMost-covers : (target need greatest : ℕ) (f g : ℕ → Option ℕ) → AtMost greatest f → Covers (from_on target f) g need → AtMost greatest g
AtMost-covers target need greatest f g bound covers = λ id.
    chain (unwrap_or (g id) 0) (unwrap_or (from_on target f id) 0) (unwrap_or (f id) 0) greatest
    (covers_less (from_on target f id) (g id) need (covers id)) (from_less (nat_le target id) (f id)) (bound id)

-- ---- entries

pub RiseAbove-behind : (low : ℕ) (ps new : Postings) → RiseAbove low (ps ++ new) → RiseAbove low new
RiseAbove-behind low [] new up = up
RiseAbove-behind low (p ∷ ps) new up = RiseAbove-lower low p.0 new (omega (arith, up.0)) (RiseAbove-behind p.0 ps new up.1)

pub found-past : (high id : ℕ) (es : Postings) → LieBelow high es → high ≤ id → found id es ≡ None
found-past high id [] lie le = refl
found-past high id (e ∷ es) lie le = found-other id e es (λ same. omega (arith, same, lie.0, le)) ∙ found-past high id es lie.1 le

-- what begins at the target or behind it has nothing below
pub found-reached : (target low id : ℕ) (es : Postings) → RiseAbove low es → is_below target es ≡ false → id < target → found id es ≡ None
found-reached target low id [] up above lt = refl
found-reached target low id (e ∷ es) up above lt =
    let at : target ≤ e.0 = ltb-false e.0 target above in
    found-below id id (e ∷ es) (le_refl id) (omega (arith, at, lt), up.1)

module _ (factor : ℕ) (scheme : Scheme) where
  weighed-of : (id : ℕ) (es : Postings) (o : Option ℕ) → found id es ≡ o → weighed factor scheme es id ≡ option_map (weigh_by factor scheme) o
  weighed-of id es o e = ap (λ o. option_map (weigh_by factor scheme) o) e

  pub weighed-none : (id : ℕ) (es : Postings) → found id es ≡ None → weighed factor scheme es id ≡ None
  weighed-none id es e = weighed-of id es None e

  -- entries begin with their first id
  head_is : (e : ℕ × ℕ) (es : Postings) → AreSorted (e ∷ es) → IsHead e.0 (weigh_by factor scheme e.1) (weighed factor scheme (e ∷ es))
  head_is e es sorted = record {
    within = omega (arith, sorted.small.0);
    below = λ id lt. weighed-none id (e ∷ es) (found-below id id (e ∷ es) (le_refl id) (lt, sorted.rise.1));
    at = λ lt. weighed-of e.0 (e ∷ es) (Some e.1) (found-here e.0 e es refl);
    past = λ id le. weighed-none id (e ∷ es) (found-past (2 ^ 32) id (e ∷ es) sorted.small le);
    ended = λ same. absurd (omega (arith, same, sorted.small.0));
  }

  pub weighed-head : (id wdf : ℕ) (es : Postings) → AreSorted es → Some id ≡ first_id es → wdf ≡ first_wdf es → IsHead id (weigh_by factor scheme wdf) (weighed factor scheme es)
  weighed-head id wdf [] sorted e f = cc
  weighed-head id wdf (p ∷ ps) sorted e f =
      let here : p.0 ≡ id = cc in
      subst (λ h. IsHead h (weigh_by factor scheme wdf) (weighed factor scheme (p ∷ ps))) here
      (subst (λ w. IsHead p.0 (weigh_by factor scheme w) (weighed factor scheme (p ∷ ps))) (sym f) (head_is p ps sorted))

  -- ---- what is passed over

  covers_at : (need_wdf need target low id : ℕ) (passed new : Postings) → WeighBelow factor scheme need_wdf need → RiseAbove low (passed ++ new)
      → ArePassed target need_wdf passed → is_below target new ≡ false → CoversAt (from_on target (weighed factor scheme (passed ++ new)) id) (weighed factor scheme new id) need
  covers_at need_wdf need target low id [] new light up passes reached =
      from_cases target (weighed factor scheme new) id (weighed factor scheme new id) need (λ le. covers_itself (weighed factor scheme new id) need)
      (λ lt. weighed-none id new (found-reached target low id new up reached lt))
  covers_at need_wdf need target low id (p ∷ ps) new light up passes reached =
      elim (cases_eq p.0 id) as (λ _. CoversAt (from_on target (weighed factor scheme (p ∷ (ps ++ new))) id) (weighed factor scheme new id) need) [
        | inl same ↦
            let gone : weighed factor scheme new id ≡ None = weighed-none id new (found-below p.0 id new (omega (arith, same)) (RiseAbove-behind p.0 ps new up.1)) in
            subst (λ b. CoversAt (from_on target (weighed factor scheme (p ∷ (ps ++ new))) id) b need) (sym gone)
            (from_cases target (weighed factor scheme (p ∷ (ps ++ new))) id None need
            (λ le. subst (λ a. CoversAt a None need) (sym (weighed-of id (p ∷ (ps ++ new)) (Some p.1) (found-here id p (ps ++ new) same))) (light_one le same passes.0))
            (λ lt. refl))
        | inr other ↦
            subst (λ a. CoversAt a (weighed factor scheme new id) need)
            (ap (λ (o : Option ℕ). if nat_le target id then option_map (weigh_by factor scheme) o else None) (sym (found-other id p (ps ++ new) other)))
            (covers_at need_wdf need target p.0 id ps new light up.1 passes.1 reached)
      ]
    where
      light_one : target ≤ id → p.0 ≡ id → (p.0 < target) ⊎ (p.1 < need_wdf) → weigh_by factor scheme p.1 < need
      light_one le same (inl lt) = absurd (omega (arith, le, same, lt))
      light_one le same (inr less) = light p.1 less

  pub Passes-covers : (need_wdf need target : ℕ) (old new : Postings) → WeighBelow factor scheme need_wdf need → AreSorted old
      → PassesPostings target need_wdf old new → Covers (from_on target (weighed factor scheme old)) (weighed factor scheme new) need
  Passes-covers need_wdf need target old new light sorted passes = λ id.
      subst (λ (es : Postings). CoversAt (from_on target (weighed factor scheme es) id) (weighed factor scheme new id) need) (sym passes.is)
      (covers_at need_wdf need target 0 id passes.passed new light (subst (λ (es : Postings). RiseAbove 0 es) passes.is sorted.rise) passes.light passes.reached)

-- the exact cursor passes over what lies below the target alone
pub Passes-from : (target need_wdf : ℕ) (es : Postings) → PassesPostings target need_wdf es (from target es)
Passes-from target need_wdf [] = record { passed = []; is = refl; light = tt; reached = refl }
Passes-from target need_wdf (p ∷ ps) =
    elim (cases_lt p.0 target) as (λ _. PassesPostings target need_wdf (p ∷ ps) (from target (p ∷ ps))) [
      | inl lt ↦
          let more = Passes-from target need_wdf ps in
          subst (λ (es : Postings). PassesPostings target need_wdf (p ∷ ps) es) (sym (from-below target p ps lt))
          (record { passed = p ∷ more.passed; is = ap (λ (es : Postings). p ∷ es) more.is; light = (inl lt, more.light); reached = more.reached })
      | inr le ↦
          subst (λ (es : Postings). PassesPostings target need_wdf (p ∷ ps) es) (sym (from-at target p ps le))
          (record { passed = []; is = refl; light = tt; reached = not_below p.0 target le })
    ]
  where
    not_below : (id target : ℕ) → target ≤ id → nat_lt id target ≡ false
    not_below id target le = grind (arith, nat_tests)

-- ---- the head

pub head_of-Some : (id : ℕ) (es : Postings) → Some id ≡ first_id es → id ≡ head_of es
head_of-Some id [] e = cc
head_of-Some id (p ∷ ps) e = cc

pub head_of-reached : (target : ℕ) (es : Postings) → target < 2 ^ 32 → is_below target es ≡ false → target ≤ head_of es
head_of-reached target [] lt above = omega (arith, lt)
head_of-reached target (p ∷ ps) lt above = ltb-false p.0 target above

-- ---- a leaf

same_head : (id wdf head weight factor : ℕ) (scheme : Scheme) (f : ℕ → Option ℕ) → head ≡ id → weight ≡ weigh_by factor scheme wdf → IsHead id (weigh_by factor scheme wdf) f → IsHead head weight f
same_head id wdf head weight factor scheme f e g h = subst (λ n. IsHead n weight f) (sym e) (subst (λ w. IsHead id w f) (sym g) h)

first_small : (id : ℕ) (es : Postings) → AreSorted es → Some id ≡ first_id es → id < 2 ^ 32
first_small id [] sorted e = cc
first_small id (p ∷ ps) sorted e = let here : id ≡ p.0 = cc in omega (arith, here, sorted.small.0)

-- what is written of a leaf at an entry
pub leaf_shown : (i : Indexed) (t : Top) (l : Leaf) (id wdf : ℕ) → IsLeafOn i l → Some id ≡ first_id (entries_of i l) → wdf ≡ first_wdf (entries_of i l)
    → t.head ≡ id → t.weight ≡ weigh_by l.factor l.scheme wdf → t.greatest ≡ l.greatest → IsTop i t (leaf l)
leaf_shown i t l id wdf on here much same weighs greatest = record {
  head = same_head id wdf t.head t.weight l.factor l.scheme (leaf_rest i l) same weighs
      (weighed-head l.factor l.scheme id wdf (entries_of i l) (AreSorted-left l.cursor (runs_of i l.source) on.runs on.on) here much);
  bound = subst (λ g. AtMost g (leaf_rest i l)) (sym greatest) on.bound;
  summed = λ lt. omega (arith, greatest);
  closed = λ end. absurd (omega (arith, end, same, first_small id (entries_of i l) (AreSorted-left l.cursor (runs_of i l.source) on.runs on.on) here));
}

-- what is written of it where what it can weigh is kept
pub leaf_pointed : (i : Indexed) (t : Top) (l : Leaf) (id wdf : ℕ) → IsLeafOn i l → Some id ≡ first_id (entries_of i l) → wdf ≡ first_wdf (entries_of i l)
    → t.head ≡ id → t.weight ≡ weigh_by l.factor l.scheme wdf → AtMost t.greatest (leaf_rest i l) → t.greatest ≤ l.greatest → IsTop i t (leaf l)
leaf_pointed i t l id wdf on here much same weighs bound le = record {
  head = same_head id wdf t.head t.weight l.factor l.scheme (leaf_rest i l) same weighs
      (weighed-head l.factor l.scheme id wdf (entries_of i l) (AreSorted-left l.cursor (runs_of i l.source) on.runs on.on) here much);
  bound = bound;
  summed = λ lt. le;
  closed = λ end. absurd (omega (arith, end, same, first_small id (entries_of i l) (AreSorted-left l.cursor (runs_of i l.source) on.runs on.on) here));
}

-- the first entry is not behind one that is found
first_below : (id target wdf : ℕ) (es : Postings) → AreSorted es → found id es ≡ Some wdf → id < target → is_below target es ≡ true
first_below id target wdf [] sorted e lt = cc
first_below id target wdf (p ∷ ps) sorted e lt =
    elim (cases_lt id p.0) as (λ _. nat_lt p.0 target ≡ true) [
      | inl less ↦ absurd_some (sym (found-below id id (p ∷ ps) (le_refl id) (less, sorted.rise.1)) ∙ e)
      | inr le ↦ is_less p.0 target (omega (arith, le, lt))
    ]
  where
    absurd_some : None ≡ Some wdf → nat_lt p.0 target ≡ true
    absurd_some e = cc

    is_less : (a b : ℕ) → a < b → nat_lt a b ≡ true
    is_less a b lt = grind (arith, nat_tests)

some_found : (factor : ℕ) (scheme : Scheme) (o : Option ℕ) (weight : ℕ) → option_map (weigh_by factor scheme) o ≡ Some weight → (w : ℕ) × (o ≡ Some w)
some_found factor scheme None weight e = absurd cc
some_found factor scheme (Some w) weight e = (w, refl)

-- a leaf whose head lies below the target
pub head_is_below : (i : Indexed) (t : Top) (l : Leaf) (target : ℕ) → IsTop i t (leaf l) → IsLeafOn i l → t.head < target → target < 2 ^ 32 → is_below target (entries_of i l) ≡ true
head_is_below i t l target top on lt small =
    let there = some_found l.factor l.scheme (found t.head (entries_of i l)) t.weight (top.head.at (omega (arith, lt, small))) in
    first_below t.head target there.0 (entries_of i l) (AreSorted-left l.cursor (runs_of i l.source) on.runs on.on) there.1 lt

-- the cursor moved on
pub sought_covers : (factor : ℕ) (scheme : Scheme) (need_wdf need target : ℕ) (runs : Runs) (old new : Cursor) → AreRuns runs → IsOn old runs → WeighBelow factor scheme need_wdf need
    → PassesPostings target need_wdf (left old runs) (left new runs) → Covers (from_on target (weighed factor scheme (left old runs))) (weighed factor scheme (left new runs)) need
sought_covers factor scheme need_wdf need target runs old new are on light passes =
    Passes-covers factor scheme need_wdf need target (left old runs) (left new runs) light (AreSorted-left old runs are on) passes

-- a leaf whose cursor moved on is sound
pub leaf_moved : (i : Indexed) (old new : Leaf) (target : ℕ) → IsLeafOn i old → new.source ≡ old.source → new.scheme ≡ old.scheme → new.factor ≡ old.factor → new.greatest ≡ old.greatest
    → IsOn new.cursor (runs_of i old.source) → WeighBelow new.factor new.scheme new.need_wdf new.need
    → Covers (from_on target (leaf_rest i old)) (leaf_rest i new) new.need → IsLeafOn i new
leaf_moved i old new target sound source scheme factor greatest on light covers = record {
  there = subst (λ n. Rattle.sk_nodes.specs.Leaves.IsThere n i.terms) (sym source) sound.there;
  factor = omega (arith, factor, sound.factor);
  on = subst (λ n. IsOn new.cursor (runs_of i n)) (sym source) on;
  runs = subst (λ n. AreRuns (runs_of i n)) (sym source) sound.runs;
  light = light;
  bound = subst (λ g. AtMost g (leaf_rest i new)) (sym greatest) (AtMost-covers target new.need old.greatest (leaf_rest i old) (leaf_rest i new) sound.bound covers);
  live = λ id none. covers_none (from_on target (leaf_rest i old) id) (leaf_rest i new id) new.need (from_on-none target (leaf_rest i old) id (sound.live id none)) (covers id);
}
