-- A test of what a node gives.
use Rattle.std.proofs.Common.{◌≡◌, ◌≤◌, ◌<◌, ◌+◌, ◌^◌, ℕ, max, Bool, true, false, List, [], ◌∷◌, length, drop, All, Option, None, Some, unwrap_or, inl, inr, refl, sym, subst, subst₂, ap, ◌∙◌, arith, le_refl, if◌then◌else◌, nat_le, is_some}
use mathlib.Core.Bool.{true≢false}
use Rattle.std.specs.List.{AllByRecursion}
use Rattle.std.proofs.lemmas.Bool.{cases_lt}
use Rattle.std.proofs.lemmas.List.Elements.{All-from_recursion}
use Rattle.sk_nodes.proofs.BegunLaws.{from_zero}
use Rattle.sk_sorted.specs.Entries.{RiseAbove, from, found, has}
use Rattle.sk_sorted.proofs.EntryLaws.{from-below, from-at, found-other, found-below}
use Rattle.sk_chunks.specs.Postings.{Postings}
use Rattle.sk_model.specs.Combining.{where_so}
use Rattle.sk_model.specs.Covers.{CoversAt, Covers}
use Rattle.sk_model.proofs.CoverLaws.{covers_itself, covers_then, covers_exactly}
use Rattle.sk_index.specs.Indexed.{Indexed}
use Rattle.sk_decay.specs.Heads.{IsHead}
use Rattle.sk_nodes.specs.declared.top.Top.{Top}
use Rattle.sk_nodes.specs.declared.proximity.Proximity.{Proximity}
use Rattle.sk_nodes.specs.declared.leaf.ListOf.{ListOf}
use Rattle.sk_nodes.specs.Leaves.{list_in}
use Rattle.sk_nodes.specs.Shapes.{Shape, ended, positional, size_of}
use Rattle.sk_nodes.specs.Left.{rest, from_on}
use Rattle.sk_nodes.specs.Proximity.{stand, positions_in, holds_in, entries_unread, AreInOrder, IsInAll, AreThere, CanTest, IsSameTest}
use Rattle.sk_nodes.specs.Repeats.{HaveSame, AreRunEnds}
use Rattle.sk_nodes.specs.Sound.{IsTop, IsPositional, Sound, Lands}
use Rattle.sk_nodes.specs.Begun.{Yields}
use Rattle.sk_nodes.proofs.LeafLaws.{from_on-at, from_on-none, covers_none}
use Rattle.sk_nodes.specs.Skips.{WeighsBelow}
use Rattle.sk_nodes.proofs.NodeLaws.{IsHead-none, light_goes, goes_on_light, ended_top, none_bound}

-- ---- what passes a test

pub where_none : (b : Bool) → where_so b None ≡ None
where_none true = refl
where_none false = refl

where_covers : (b : Bool) (x y : Option ℕ) (need : ℕ) → CoversAt x y need → CoversAt (where_so b x) (where_so b y) need
where_covers true x y need h = h
where_covers false x y need h = tt

from_where : (target : ℕ) (h : ℕ → Bool) (f : ℕ → Option ℕ) (id : ℕ) → from_on target (λ n. where_so (h n) (f n)) id ≡ where_so (h id) (from_on target f id)
from_where target h f id = by (nat_le target id)
  where
    by : (t : Bool) → (if t then where_so (h id) (f id) else None) ≡ where_so (h id) (if t then f id else None)
    by true = refl
    by false = sym (where_none (h id))

-- what covers does so under a test
pub positional_covers : (target need : ℕ) (h : ℕ → Bool) (f g : ℕ → Option ℕ) → Covers (from_on target f) g need
    → Covers (from_on target (λ n. where_so (h n) (f n))) (λ n. where_so (h n) (g n)) need
positional_covers target need h f g covers = λ id. subst (λ o. CoversAt o (where_so (h id) (g id)) need) (sym (from_where target h f id)) (where_covers (h id) (from_on target f id) (g id) need (covers id))

-- the same test holds in the same documents
pub same_holds : (i : Indexed) (p q : Proximity) (id : ℕ) → IsSameTest p q → holds_in i q id ≡ holds_in i p id
same_holds i p q id same =
    ap (λ s. stand s q.window (positions_in i q.numbers.items id)) same.kind ∙ ap (λ w. stand p.kind w (positions_in i q.numbers.items id)) same.window
    ∙ ap (λ (ns : List ℕ). stand p.kind p.window (positions_in i ns id)) same.numbers

same_rest : (i : Indexed) (p q : Proximity) (t : Top) (s : Shape) (id : ℕ) → IsSameTest p q → rest i (positional q t s) id ≡ where_so (holds_in i p id) (rest i s id)
same_rest i p q t s id same = ap (λ b. where_so b (rest i s id)) (same_holds i p q id same)

pub same_again : (p q r : Proximity) → IsSameTest p q → IsSameTest q r → IsSameTest p r
same_again p q r a b = record { kind = b.kind ∙ a.kind; window = b.window ∙ a.window; numbers = b.numbers ∙ a.numbers; once = b.once ∙ a.once; ends = b.ends ∙ a.ends; pair = b.pair ∙ a.pair; marks = b.marks ∙ a.marks; places = b.places ∙ a.places }

pub same_itself : (p : Proximity) → IsSameTest p p
same_itself p = record { kind = refl; window = refl; numbers = refl; once = refl; ends = refl; pair = refl; marks = refl; places = refl }

pub same_can : (i : Indexed) (p q : Proximity) → IsSameTest p q → CanTest i p → CanTest i q
same_can i p q same can = record {
  some = omega (arith, can.some, ap length same.numbers);
  wide = omega (arith, can.wide, same.window);
  marks = omega (arith, can.marks, ap length same.numbers, same.marks);
  places = omega (arith, can.places, ap length same.numbers, same.places);
  there = subst (λ (ns : List ℕ). AreThere i ns) (sym same.numbers) can.there;
  sorted = subst (λ (ns : List ℕ). AreInOrder i ns) (sym same.numbers) can.sorted;
  once = subst₂ (λ (ns ms : List ℕ). HaveSame ns ms) (sym same.numbers) (sym same.once) can.once;
  ends = subst₂ (λ (es ns : List ℕ). AreRunEnds es ns) (sym same.ends) (sym same.numbers) can.ends;
  pair = λ two. omega (arith, can.pair (omega (arith, two, ap length same.numbers)), ap length same.numbers, same.pair);
}

-- ---- heads

-- what covers begins no earlier
pub heads_rise : (target need head weight head2 weight2 : ℕ) (f g : ℕ → Option ℕ) → IsHead head weight f → IsHead head2 weight2 g → Covers (from_on target f) g need → head ≤ head2
heads_rise target need head weight head2 weight2 f g old new covers =
    elim (cases_lt head2 head) as (λ _. head ≤ head2) [
      | inl lt ↦ absurd (none_some (g head2) weight2 (covers_none (from_on target f head2) (g head2) need (from_on-none target f head2 (old.below head2 lt)) (covers head2)) (new.at (omega (arith, lt, old.within))))
      | inr le ↦ le
    ]
  where
    none_some : (o : Option ℕ) (w : ℕ) → o ≡ None → o ≡ Some w → ⊥
    none_some o w e f = cc

no_some : (w : ℕ) → None ≡ Some w → ⊥
no_some w e = cc

covered_some : (a b : Option ℕ) (need w : ℕ) → CoversAt a b need → b ≡ Some w → (v : ℕ) × (a ≡ Some v)
covered_some None None need w h e = absurd (no_some w e)
covered_some None (Some u) need w h e = absurd h
covered_some (Some v) b need w h e = (v, refl)

from_some : (target : ℕ) (f : ℕ → Option ℕ) (id v : ℕ) → from_on target f id ≡ Some v → f id ≡ Some v
from_some target f id v e = by (nat_le target id) e
  where
    by : (t : Bool) → (if t then f id else None) ≡ Some v → f id ≡ Some v
    by true e = e
    by false e = cc

-- ---- how far a test has come

pub record TestSoFar (i : Indexed) (target need from : ℕ) (p0 : Proximity) (t0 : Top) (s0 : Shape) (p : Proximity) (t : Top) (s : Shape) : Type 0 where
  pub test : CanTest i p
  pub top : IsTop i t s
  pub sound : Sound i s
  pub within : (id w : ℕ) → rest i s id ≡ Some w → IsInAll i id p.numbers.items
  pub ahead : p.next ≤ t.head + 1
  pub small : p.next ≤ 2 ^ 32
  pub known : from ≤ t.head → t.head < p.next → holds_in i p t.head ≡ true
  pub covers : Covers (from_on target (rest i (positional p0 t0 s0))) (from_on from (rest i (positional p t s))) need
  pub bound : from < 2 ^ 32
  pub same : IsSameTest p0 p
  pub falls : t.greatest ≤ t0.greatest
  pub smaller : size_of s ≤ size_of s0

pub test_begun : (i : Indexed) (target need : ℕ) (p : Proximity) (t : Top) (s : Shape) → target < 2 ^ 32 → IsPositional i p t s (Sound i s) → TestSoFar i target need target p t s p t s
test_begun i target need p t s lt is = record {
  test = is.test;
  top = is.top;
  sound = is.sound;
  within = is.within;
  ahead = is.ahead;
  small = is.small;
  known = λ le. is.known;
  covers = λ id. covers_itself (from_on target (rest i (positional p t s)) id) need;
  bound = lt;
  same = same_itself p;
  falls = le_refl t.greatest;
  smaller = le_refl (size_of s);
}

-- the node below was moved on
module _ (i : Indexed) (target need from : ℕ) (p0 : Proximity) (t0 : Top) (s0 : Shape) (p : Proximity) (t : Top) (s : Shape) (t2 : Top) (s2 : Shape) (far : TestSoFar i target need from p0 t0 s0 p t s)
    (top : IsTop i t2 s2) (sound : Sound i s2) (reached : from ≤ t2.head) (falls : t2.greatest ≤ t.greatest) (smaller : size_of s2 ≤ size_of s) (covers : Covers (from_on from (rest i s)) (rest i s2) need) where
  rises : t.head ≤ t2.head
  rises = heads_rise from need t.head t.weight t2.head t2.weight (rest i s) (rest i s2) far.top.head top.head covers

  pub moved_known : t2.head < p.next → holds_in i p t2.head ≡ true
  moved_known lt =
      let same : t.head ≡ t2.head = omega (arith, lt, far.ahead, rises) in
      subst (λ h. holds_in i p h ≡ true) same (far.known (omega (arith, same, reached)) (omega (arith, same, lt)))

  pub moved_within : (id w : ℕ) → rest i s2 id ≡ Some w → IsInAll i id p.numbers.items
  moved_within id w e =
      let was = covered_some (from_on from (rest i s) id) (rest i s2 id) need w (covers id) e in
      far.within id was.0 (from_some from (rest i s) id was.0 was.1)

  pub moved_all : t2.head < 2 ^ 32 → IsInAll i t2.head p.numbers.items
  moved_all lt = moved_within t2.head t2.weight (top.head.at lt)

  pub moved_ahead : p.next ≤ t2.head + 1
  moved_ahead = omega (arith, far.ahead, rises)

  pub moved_covers : Covers (from_on target (rest i (positional p0 t0 s0))) (rest i (positional p t2 s2)) need
  moved_covers = λ id. covers_then (from_on target (rest i (positional p0 t0 s0)) id) (from_on from (rest i (positional p t s)) id) (rest i (positional p t2 s2) id) need need (le_refl need) (far.covers id)
      (positional_covers from need (holds_in i p) (rest i s) (rest i s2) covers id)

  -- it has ended
  pub moved_ended : t2.head ≡ 2 ^ 32 → IsPositional i p t2 s2 (Sound i s2)
  moved_ended end = record { test = far.test; top = top; sound = sound; within = moved_within; ahead = moved_ahead; small = far.small; known = moved_known }

  module _ (q : Proximity) (same : IsSameTest p q) (next : q.next ≤ max p.next (t2.head + 1)) (lt : t2.head < 2 ^ 32) where
    q_all : (id w : ℕ) → rest i s2 id ≡ Some w → IsInAll i id q.numbers.items
    q_all id w e = subst (λ (ns : List ℕ). IsInAll i id ns) (sym same.numbers) (moved_within id w e)

    q_covers : Covers (from_on target (rest i (positional p0 t0 s0))) (rest i (positional q t2 s2)) need
    q_covers = λ id. subst (λ o. CoversAt (from_on target (rest i (positional p0 t0 s0)) id) o need) (sym (same_rest i p q t2 s2 id same)) (moved_covers id)

    -- it passed the test
    pub passed_sound : holds_in i p t2.head ≡ true → IsPositional i q t2 s2 (Sound i s2)
    passed_sound passes = record {
      test = same_can i p q same far.test;
      top = top;
      sound = sound;
      within = q_all;
      ahead = omega (arith, next, moved_ahead);
      small = omega (arith, next, far.small, lt);
      known = λ less. same_holds i p q t2.head same ∙ passes;
    }

    pub passed_covers : Covers (from_on target (rest i (positional p0 t0 s0))) (rest i (positional q t2 s2)) need
    passed_covers = q_covers

    pub passed_top : holds_in i p t2.head ≡ true → IsTop i t2 (positional q t2 s2)
    passed_top passes = record {
      head = record {
        within = top.head.within;
        below = λ id less. same_rest i p q t2 s2 id same ∙ ap (where_so (holds_in i p id)) (top.head.below id less) ∙ where_none (holds_in i p id);
        at = λ there. same_rest i p q t2 s2 t2.head same ∙ ap (λ b. where_so b (rest i s2 t2.head)) passes ∙ top.head.at there;
        past = λ id le. same_rest i p q t2 s2 id same ∙ ap (where_so (holds_in i p id)) (top.head.past id le) ∙ where_none (holds_in i p id);
        ended = top.head.ended;
      };
      bound = λ id. subst (λ o. unwrap_or o 0 ≤ t2.greatest) (sym (same_rest i p q t2 s2 id same)) (less (holds_in i p id) (rest i s2 id) t2.greatest (top.bound id));
      summed = λ there. le_refl t2.greatest;
      closed = top.closed;
    }
      where
        less : (b : Bool) (o : Option ℕ) (n : ℕ) → unwrap_or o 0 ≤ n → unwrap_or (where_so b o) 0 ≤ n
        less true o n h = h
        less false o n h = omega arith

    -- it did not, or weighs too little
    failed_light : WeighsBelow need (where_so (holds_in i p t2.head) (Some t2.weight)) → (id : ℕ) → id < t2.head + 1 → WeighsBelow need (rest i (positional q t2 s2) id)
    failed_light fails id less =
        subst (λ (o : Option ℕ). WeighsBelow need o) (sym (same_rest i p q t2 s2 id same)) (elim (cases_lt id t2.head) as (λ _. WeighsBelow need (where_so (holds_in i p id) (rest i s2 id))) [
          | inl before ↦ subst (λ (o : Option ℕ). WeighsBelow need o) (sym (ap (where_so (holds_in i p id)) (top.head.below id before) ∙ where_none (holds_in i p id))) tt
          | inr le ↦ let here : t2.head ≡ id = omega (arith, less, le) in
              subst (λ n. WeighsBelow need (where_so (holds_in i p n) (rest i s2 n))) here (subst (λ (o : Option ℕ). WeighsBelow need (where_so (holds_in i p t2.head) o)) (sym (top.head.at lt)) fails)
        ])

    pub failed_more : WeighsBelow need (where_so (holds_in i p t2.head) (Some t2.weight)) → t2.head + 1 < 2 ^ 32 → TestSoFar i target need (t2.head + 1) p0 t0 s0 q t2 s2
    failed_more fails less = record {
      test = same_can i p q same far.test;
      top = top;
      sound = sound;
      within = q_all;
      ahead = omega (arith, next, moved_ahead);
      small = omega (arith, next, far.small, lt);
      known = λ le. absurd (omega (arith, le));
      covers = goes_on_light target need (t2.head + 1) (rest i (positional p0 t0 s0)) (rest i (positional q t2 s2)) q_covers (failed_light fails);
      bound = less;
      same = same_again p0 p q far.same same;
      falls = omega (arith, falls, far.falls);
      smaller = omega (arith, smaller, far.smaller);
    }

    ended_light : WeighsBelow need (where_so (holds_in i p t2.head) (Some t2.weight)) → 2 ^ 32 ≤ t2.head + 1 → (id : ℕ) → WeighsBelow need (rest i (positional q t2 s2) id)
    ended_light fails le id =
        elim (cases_lt id (t2.head + 1)) as (λ _. WeighsBelow need (rest i (positional q t2 s2) id)) [
          | inl less ↦ failed_light fails id less
          | inr more ↦ subst (λ (o : Option ℕ). WeighsBelow need o) (sym (ap (where_so (holds_in i q id)) (top.head.past id (omega (arith, le, more))) ∙ where_none (holds_in i q id))) tt
        ]

    -- and nothing lies behind it
    pub failed_ended_covers : WeighsBelow need (where_so (holds_in i p t2.head) (Some t2.weight)) → 2 ^ 32 ≤ t2.head + 1 → (u : Top) → Covers (from_on target (rest i (positional p0 t0 s0))) (rest i (positional q u ended)) need
    failed_ended_covers fails le u = λ id.
        subst (λ o. CoversAt (from_on target (rest i (positional p0 t0 s0)) id) o need) (sym (where_none (holds_in i q id)))
        (light_goes need (from_on target (rest i (positional p0 t0 s0)) id) (rest i (positional q t2 s2) id) (q_covers id) (ended_light fails le id))

    pub failed_ended_sound : IsPositional i q (record { head = 2 ^ 32; weight = 0; greatest = 0 }) ended (Sound i ended)
    failed_ended_sound = record {
      test = same_can i p q same far.test;
      top = ended_top i;
      sound = tt;
      within = λ id w e. absurd (none_some w e);
      ahead = omega (arith, next, far.small, lt);
      small = omega (arith, next, far.small, lt);
      known = λ less. absurd (omega (arith, less, next, far.small, lt));
    }
      where
        none_some : (w : ℕ) → None ≡ Some w → ⊥
        none_some w e = cc

-- a test of what gives nothing
pub none_top : (i : Indexed) (p : Proximity) (t : Top) (s : Shape) → ((id : ℕ) → rest i s id ≡ None) → IsTop i (record { head = 2 ^ 32; weight = 0; greatest = 0 }) (positional p t s)
none_top i p t s none = record {
  head = record {
    within = le_refl (2 ^ 32);
    below = λ id lt. gone id;
    at = λ lt. absurd (omega (arith, lt));
    past = λ id le. gone id;
    ended = λ same. refl;
  };
  bound = λ id. none_bound (rest i (positional p t s) id) 0 (gone id);
  summed = λ lt. omega arith;
  closed = λ end. refl;
}
  where
    gone : (id : ℕ) → rest i (positional p t s) id ≡ None
    gone id = ap (where_so (holds_in i p id)) (none id) ∙ where_none (holds_in i p id)

pub ended_none : (i : Indexed) (t : Top) (s : Shape) → IsTop i t s → 2 ^ 32 ≤ t.head → (id : ℕ) → rest i s id ≡ None
ended_none i t s top le id =
    let end : t.head ≡ 2 ^ 32 = omega (arith, le, top.head.within) in
    IsHead-none t.weight id (rest i s) (subst (λ h. IsHead h t.weight (rest i s)) end top.head)

-- ---- readings of positions

from_less : (target : ℕ) (es : Postings) → length (from target es) ≤ length es
from_less target [] = omega arith
from_less target (e ∷ es) =
    elim (cases_lt e.0 target) as (λ _. length (from target (e ∷ es)) ≤ length (e ∷ es)) [
      | inl lt ↦ omega (arith, ap length (from-below target e es lt), from_less target es)
      | inr le ↦ omega (arith, ap length (from-at target e es le))
    ]

gone_some : (o : Option ℕ) → o ≡ None → is_some o ≡ true → ⊥
gone_some None e h = true≢false (sym h)
gone_some (Some w) e h = cc

-- an entry lies from one id on, and not behind itself
from_more : (low next id : ℕ) (es : Postings) → RiseAbove low es → has id es ≡ true → next ≤ id → length (from (id + 1) es) + 1 ≤ length (from next es)
from_more low next id [] up there le = absurd (true≢false (sym there))
from_more low next id (e ∷ es) up there le =
    elim (cases_lt e.0 next) as (λ _. length (from (id + 1) (e ∷ es)) + 1 ≤ length (from next (e ∷ es))) [
      | inl lt ↦
          let more = from_more e.0 next id es up.1 (sym (ap is_some (found-other id e es (λ same. omega (arith, same, lt, le)))) ∙ there) le in
          omega (arith, more, ap length (from-below (id + 1) e es (omega (arith, lt, le))), ap length (from-below next e es lt))
      | inr here ↦
          elim (cases_lt id e.0) as (λ _. length (from (id + 1) (e ∷ es)) + 1 ≤ length (from next (e ∷ es))) [
            | inl before ↦ absurd (gone_some (found id (e ∷ es)) (found-below id id (e ∷ es) (le_refl id) (before, up.1)) there)
            | inr behind ↦ omega (arith, ap length (from-below (id + 1) e es (omega (arith, behind))), ap length (from-at next e es here), from_less (id + 1) es)
          ]
    ]

pub entries_left : (i : Indexed) (next id : ℕ) (ns : List ℕ) → AreInOrder i ns → IsInAll i id ns → next ≤ id → entries_unread i (id + 1) ns + length ns ≤ entries_unread i next ns
entries_left i next id [] sorted all le = omega arith
entries_left i next id (n ∷ ns) sorted all le =
    let one = from_more 0 next id (list_in i (ListOf.Term n)) sorted.0.rise all.0 le in
    let more = entries_left i next id ns sorted.1 all.1 le in
    omega (arith, one, more)

pub there_all : (i : Indexed) (ns : List ℕ) → AreThere i ns → All (λ n. n < length i.terms) ns
there_all i ns there = All-from_recursion (λ n. n < length i.terms) ns (by ns there)
  where
    by : (ms : List ℕ) → AreThere i ms → AllByRecursion (λ n. n < length i.terms) ms
    by [] rest = tt
    by (m ∷ ms) rest = (rest.0, by ms rest.1)

-- ---- lengths, one by one

pub lengths_next : (i : Indexed) (ns : List ℕ) (k n most more start : ℕ) → drop k ns ≡ n ∷ drop (k + 1) ns → more ≡ most + length (list_in i (ListOf.Term n)) → most + entries_unread i 0 (drop k ns) ≡ start
    → more + entries_unread i 0 (drop (k + 1) ns) ≡ start
lengths_next i ns k n most more start e f before =
    let here : entries_unread i 0 (drop k ns) ≡ length (from 0 (list_in i (ListOf.Term n))) + entries_unread i 0 (drop (k + 1) ns) = ap (entries_unread i 0) e in
    let whole : length (from 0 (list_in i (ListOf.Term n))) ≡ length (list_in i (ListOf.Term n)) = ap length (from_zero (list_in i (ListOf.Term n))) in
    omega (arith, here, whole, f, before)

-- the node below has ended
pub ended_test : (i : Indexed) (p : Proximity) (t : Top) (s : Shape) → IsTop i t s → 2 ^ 32 ≤ t.head → IsTop i (record { head = 2 ^ 32; weight = 0; greatest = 0 }) (positional p t s)
ended_test i p t s top end = none_top i p t s (λ id. IsHead-none t.weight id (rest i s) (subst (λ h. IsHead h t.weight (rest i s)) (is end top.head.within) top.head))
  where
    is : 2 ^ 32 ≤ t.head → t.head ≤ 2 ^ 32 → t.head ≡ 2 ^ 32
    is p q = omega (arith, p, q)

-- ---- without a need

-- a test that was moved on from 0 without a need gives what passes it
pub positional_yields : (i : Indexed) (p q : Proximity) (t u : Top) (s r : Shape) (node : Shape) (top : Top) → Lands i 0 0 (positional p t s) (positional q u r) top → top.greatest ≤ t.greatest → node ≡ positional q u r
    → Yields i top node (λ id. where_so (holds_in i p id) (rest i s id)) t.greatest
positional_yields i p q t u s r node top lands falls e =
    subst (λ (n : Shape). Yields i top n (λ id. where_so (holds_in i p id) (rest i s id)) t.greatest) (sym e)
    (record {
      top = lands.top;
      sound = lands.sound;
      gives = λ id. covers_exactly (from_on 0 (rest i (positional p t s)) id) (rest i (positional q u r) id) (lands.covers id) ∙ from_on-at 0 (rest i (positional p t s)) id (omega arith);
      ceiling = falls;
    })
