-- The sides of a node of many sides: as lists have them, one behind another; and what an xor of them gives.
use Rattle.std.proofs.Common.{◌≡◌, ◌≤◌, ◌<◌, ◌+◌, ◌^◌, ℕ, zero, suc, Bool, true, false, not, if◌then◌else◌, List, [], ◌∷◌, ◌++◌, length, take, drop, Option, None, Some, unwrap_or, refl, sym, subst, ap, ◌∙◌, arith, le_refl, inl, inr}
use Rattle.std.specs.List.{IsFirstAndRest}
use Rattle.std.proofs.lemmas.Bool.{cases_lt}
use Rattle.std.proofs.lemmas.Bool.Decides.{nat_tests}
use Rattle.sk_query.specs.declared.form.Form.{Form}
use Rattle.sk_model.specs.Combining.{either, sum_of_any, number_matching, where_so, is_odd, combined}
use Rattle.sk_model.specs.Covers.{CoversAt, Covers}
use Rattle.sk_model.proofs.CombiningLaws.{sum_of_any-append, number_matching-append}
use Rattle.sk_model.proofs.CoverLaws.{covers_itself, covers_then, covers_exactly}
use Rattle.sk_index.specs.Indexed.{Indexed}
use Rattle.sk_decay.specs.Heads.{IsHead, NoneBelow, GoesOn}
use Rattle.sk_nodes.specs.declared.top.Top.{Top}
use Rattle.sk_nodes.specs.declared.node.Node.{Node}
use Rattle.sk_nodes.specs.declared.xor_many.Tally.{Tally}
use Rattle.sk_nodes.specs.Shapes.{Shape, xor_many, Sides, no_sides, side, shape_of, sides_on, sizes_in}
use Rattle.sk_nodes.specs.Left.{rest, rests, from_on, greatest_sum, unread_in}
use Rattle.sk_nodes.specs.Sound.{IsTop, IsMany, AreSound}
use Rattle.sk_nodes.specs.Many.{AreSought, AreFrom, followed_by, weight_sum}
use Rattle.sk_nodes.specs.XorMany.{IsTally}
use Rattle.sk_nodes.proofs.LeafLaws.{from_on-at, from_on-below, from_cases, covers_none}
use Rattle.sk_nodes.proofs.NodeLaws.{weight_le, goes_on_covers, IsHead-none, none_bound}

-- ---- an odd number

odd_next : (n : ℕ) → is_odd (1 + n) ≡ not (is_odd n)
odd_next n = grind (arith, nat_tests)

odd_sum : (m n : ℕ) → is_odd (m + n) ≡ (if is_odd m then not (is_odd n) else is_odd n)
odd_sum zero n = ap is_odd (omega arith)
odd_sum (suc m) n =
    let one : suc m ≡ 1 + m = omega arith in
    let moved : suc m + n ≡ 1 + (m + n) = omega arith in
    ap is_odd moved ∙ odd_next (m + n) ∙ ap not (odd_sum m n) ∙ turned (is_odd m) (is_odd n) ∙ ap (λ b. if b then not (is_odd n) else is_odd n) (sym (ap is_odd one ∙ odd_next m))
  where
    turned : (b c : Bool) → not (if b then not c else c) ≡ (if not b then not c else c)
    turned true true = refl
    turned true false = refl
    turned false c = refl

pub none_match : (xs : List (Option ℕ)) → sum_of_any xs ≡ None → number_matching xs ≡ 0
none_match [] e = refl
none_match (None ∷ xs) e = let more = none_match xs e in omega (arith, more)
none_match (Some v ∷ xs) e = absurd (some (sum_of_any xs) e)
  where
    some : (o : Option ℕ) → either (Some v) o ≡ None → ⊥
    some None e = cc
    some (Some w) e = cc

pub none_xor : (xs : List (Option ℕ)) → sum_of_any xs ≡ None → combined Form.Xor xs ≡ None
none_xor xs e = by (is_odd (number_matching xs)) (sum_of_any xs) e
  where
    by : (test : Bool) (o : Option ℕ) → o ≡ None → where_so test o ≡ None
    by true o e = e
    by false o e = refl

pub either_none : (a b : Option ℕ) → a ≡ None → b ≡ None → either a b ≡ None
either_none None b e f = f
either_none (Some v) b e f = cc

pub either_first : (a b : Option ℕ) (v : ℕ) → a ≡ Some v → b ≡ None → either a b ≡ Some v
either_first None b v e f = cc
either_first (Some u) None v e f = e
either_first (Some u) (Some w) v e f = cc

pub either_second : (a b : Option ℕ) → a ≡ None → either a b ≡ b
either_second None b e = refl
either_second (Some v) b e = cc

pub either_both : (a b : Option ℕ) (v w : ℕ) → a ≡ Some v → b ≡ Some w → either a b ≡ Some (v + w)
either_both None b v w e f = cc
either_both (Some u) None v w e f = cc
either_both (Some u) (Some x) v w e f = cc

matching_none : (a : Option ℕ) (xs : List (Option ℕ)) → a ≡ None → number_matching (a ∷ xs) ≡ number_matching xs
matching_none None xs e = omega arith
matching_none (Some v) xs e = cc

matching_some : (a : Option ℕ) (v : ℕ) (xs : List (Option ℕ)) → a ≡ Some v → number_matching (a ∷ xs) ≡ 1 + number_matching xs
matching_some None v xs e = cc
matching_some (Some u) v xs e = refl

-- ---- sides, as lists have them

pub sides_cons : (ts us : List Top) (ns ms : List Node) (t : Top) (n : Node) → IsFirstAndRest ts t us → IsFirstAndRest ns n ms → sides_on ts ns ≡ side t (shape_of n) (sides_on us ms)
sides_cons ts us ns ms t n e f = ap (λ (xs : List Top). sides_on xs ns) e.0 ∙ ap (λ (ys : List Node). sides_on (t ∷ us) ys) f.0

none_right : (ts : List Top) → sides_on ts [] ≡ no_sides
none_right [] = refl
none_right (t ∷ ts) = refl

sides_at : (n : ℕ) (ts : List Top) (ns : List Node) → sides_on ts ns ≡ followed_by (sides_on (take n ts) (take n ns)) (sides_on (drop n ts) (drop n ns))
sides_at zero ts ns = refl
sides_at (suc n) [] ns = refl
sides_at (suc n) (t ∷ ts) [] = sym (none_right (drop n ts))
sides_at (suc n) (t ∷ ts) (m ∷ ns) = ap (side t (shape_of m)) (sides_at n ts ns)

-- sides in two pieces
pub sides_split : (n : ℕ) (ts fs bs : List Top) (ns ms ks : List Node) → fs ≡ take n ts → bs ≡ drop n ts → ms ≡ take n ns → ks ≡ drop n ns
    → sides_on ts ns ≡ followed_by (sides_on fs ms) (sides_on bs ks)
sides_split n ts fs bs ns ms ks e f p q = sides_at n ts ns ∙ (λ i. followed_by (sides_on (sym e i) (sym p i)) (sides_on (sym f i) (sym q i)))

pub sides_append : (ts us : List Top) (ns ms : List Node) → length ts ≡ length ns → sides_on (ts ++ us) (ns ++ ms) ≡ followed_by (sides_on ts ns) (sides_on us ms)
sides_append [] us [] ms e = refl
sides_append [] us (n ∷ ns) ms e = absurd (omega (arith, e))
sides_append (t ∷ ts) us [] ms e = absurd (omega (arith, e))
sides_append (t ∷ ts) us (n ∷ ns) ms e = ap (side t (shape_of n)) (sides_append ts us ns ms (omega (arith, e)))

-- ---- sides, and others behind them

pub rests_behind : (i : Indexed) (ss rs : Sides) (id : ℕ) → rests i (followed_by ss rs) id ≡ rests i ss id ++ rests i rs id
rests_behind i no_sides rs id = refl
rests_behind i (side t s ss) rs id = ap (λ (xs : List (Option ℕ)). rest i s id ∷ xs) (rests_behind i ss rs id)

pub sound_behind : (i : Indexed) (ss rs : Sides) → AreSound i ss → AreSound i rs → AreSound i (followed_by ss rs)
sound_behind i no_sides rs some others = others
sound_behind i (side t s ss) rs some others = record { top = some.top; sound = some.sound; others = sound_behind i ss rs some.others others }

pub both_sound : (i : Indexed) (ss rs : Sides) → AreSound i (followed_by ss rs) → AreSound i ss × AreSound i rs
both_sound i no_sides rs sound = (tt, sound)
both_sound i (side t s ss) rs sound =
    let more = both_sound i ss rs sound.others in
    (record { top = sound.top; sound = sound.sound; others = more.0 }, more.1)

pub from_behind : (from : ℕ) (ss rs : Sides) → AreFrom from ss → AreFrom from rs → AreFrom from (followed_by ss rs)
from_behind from no_sides rs some others = others
from_behind from (side t s ss) rs some others = (some.0, from_behind from ss rs some.1 others)

pub both_from : (from : ℕ) (ss rs : Sides) → AreFrom from (followed_by ss rs) → AreFrom from ss × AreFrom from rs
both_from from no_sides rs reached = (tt, reached)
both_from from (side t s ss) rs reached = let more = both_from from ss rs reached.1 in ((reached.0, more.0), more.1)

pub sought_behind : (i : Indexed) (target : ℕ) (ss rs us vs : Sides) → AreSought i target ss us → AreSought i target rs vs → AreSought i target (followed_by ss rs) (followed_by us vs)
sought_behind i target no_sides rs no_sides vs some others = others
sought_behind i target no_sides rs (side u r us) vs some others = absurd some
sought_behind i target (side t s ss) rs no_sides vs some others = absurd some
sought_behind i target (side t s ss) rs (side u r us) vs some others = record { first = some.first; others = sought_behind i target ss rs us vs some.others others }

pub greatest_behind : (ss rs : Sides) → greatest_sum (followed_by ss rs) ≡ greatest_sum ss + greatest_sum rs
greatest_behind no_sides rs = omega arith
greatest_behind (side t s ss) rs = let more = greatest_behind ss rs in omega (arith, more)

pub weight_behind : (ss rs : Sides) → weight_sum (followed_by ss rs) ≡ weight_sum ss + weight_sum rs
weight_behind no_sides rs = omega arith
weight_behind (side t s ss) rs = let more = weight_behind ss rs in omega (arith, more)

pub unread_behind : (i : Indexed) (ss rs : Sides) → unread_in i (followed_by ss rs) ≡ unread_in i ss + unread_in i rs
unread_behind i no_sides rs = omega arith
unread_behind i (side t s ss) rs = let more = unread_behind i ss rs in omega (arith, more)

pub sizes_behind : (ss rs : Sides) → sizes_in (followed_by ss rs) ≡ sizes_in ss + sizes_in rs
sizes_behind no_sides rs = omega arith
sizes_behind (side t s ss) rs = let more = sizes_behind ss rs in omega (arith, more)

-- some sides are not of size nothing
pub some_sizes : (ts : List Top) (ns : List Node) → 0 < length ts → 0 < length ns → 0 < sizes_in (sides_on ts ns)
some_sizes [] ns some also = absurd (omega (arith, some))
some_sizes (t ∷ ts) [] some also = absurd (omega (arith, also))
some_sizes (t ∷ ts) (n ∷ ns) some also = omega arith

-- ---- the tally

pub tally_none : (i : Indexed) → IsTally (rests i no_sides) (record { head = 2 ^ 32; odd = false; weight = 0 })
tally_none i = record {
  head = record { within = le_refl (2 ^ 32); below = λ id lt. refl; at = λ lt. absurd (omega (arith, lt)); past = λ id le. refl; ended = λ same. refl };
  parity = λ lt. absurd (omega (arith, lt));
}

-- of one side
pub tally_one : (i : Indexed) (t : Top) (s : Shape) → IsTop i t s → IsTally (λ id. rest i s id ∷ []) (record { head = t.head; odd = true; weight = t.weight })
tally_one i t s top = record {
  head = record {
    within = top.head.within;
    below = λ id lt. either_none (rest i s id) None (top.head.below id lt) refl;
    at = λ there. either_first (rest i s t.head) None t.weight (top.head.at there) refl;
    past = λ id le. either_none (rest i s id) None (top.head.past id le) refl;
    ended = top.head.ended;
  };
  parity = λ there. ap is_odd (matching_some (rest i s t.head) t.weight [] (top.head.at there));
}

-- of some sides, and of others
module _ (f g : ℕ → List (Option ℕ)) (a b : Tally) (some : IsTally f a) (others : IsTally g b) where
  sums : (id : ℕ) → sum_of_any (f id ++ g id) ≡ either (sum_of_any (f id)) (sum_of_any (g id))
  sums id = sum_of_any-append (f id) (g id)

  none_there : (id : ℕ) → sum_of_any (f id) ≡ None → sum_of_any (g id) ≡ None → sum_of_any (f id ++ g id) ≡ None
  none_there id p q = sums id ∙ either_none (sum_of_any (f id)) (sum_of_any (g id)) p q

  -- the others begin before
  pub tally_others : b.head < a.head → IsTally (λ id. f id ++ g id) b
  tally_others lt = record {
    head = record {
      within = others.head.within;
      below = λ id less. none_there id (some.head.below id (omega (arith, less, lt))) (others.head.below id less);
      at = λ there. sums b.head ∙ either_second (sum_of_any (f b.head)) (sum_of_any (g b.head)) (some.head.below b.head lt) ∙ others.head.at there;
      past = λ id le. none_there id (some.head.past id le) (others.head.past id le);
      ended = others.head.ended;
    };
    parity = λ there. ap is_odd (omega (arith, number_matching-append (f b.head) (g b.head), none_match (f b.head) (some.head.below b.head lt))) ∙ others.parity there;
  }

  -- the others begin behind
  pub tally_some : a.head < b.head → IsTally (λ id. f id ++ g id) a
  tally_some lt = record {
    head = record {
      within = some.head.within;
      below = λ id less. none_there id (some.head.below id less) (others.head.below id (omega (arith, less, lt)));
      at = λ there. sums a.head ∙ either_first (sum_of_any (f a.head)) (sum_of_any (g a.head)) a.weight (some.head.at there) (others.head.below a.head lt);
      past = λ id le. none_there id (some.head.past id le) (others.head.past id le);
      ended = some.head.ended;
    };
    parity = λ there. ap is_odd (omega (arith, number_matching-append (f a.head) (g a.head), none_match (g a.head) (others.head.below a.head lt))) ∙ some.parity there;
  }

  -- both begin there
  pub tally_both : (test : Bool) → test ≡ (if a.odd then not b.odd else b.odd) → a.head ≡ b.head → IsTally (λ id. f id ++ g id) (record { head = a.head; odd = test; weight = a.weight + b.weight })
  tally_both test is same = record {
    head = record {
      within = some.head.within;
      below = λ id less. none_there id (some.head.below id less) (others.head.below id (omega (arith, less, same)));
      at = λ there. sums a.head ∙ either_both (sum_of_any (f a.head)) (sum_of_any (g a.head)) a.weight b.weight (some.head.at there) (others_at there);
      past = λ id le. none_there id (some.head.past id le) (others.head.past id le);
      ended = λ end. let first = some.head.ended end in let second = others.head.ended (sym same ∙ end) in omega (arith, first, second);
    };
    parity = λ there.
        ap is_odd (number_matching-append (f a.head) (g a.head)) ∙ odd_sum (number_matching (f a.head)) (number_matching (g a.head))
        ∙ (λ i. if some.parity there i then not (others_parity there i) else others_parity there i) ∙ sym is;
  }
    where
      others_at : a.head < 2 ^ 32 → sum_of_any (g a.head) ≡ Some b.weight
      others_at there = ap (λ h. sum_of_any (g h)) same ∙ others.head.at (omega (arith, there, same))

      others_parity : a.head < 2 ^ 32 → is_odd (number_matching (g a.head)) ≡ b.odd
      others_parity there = ap (λ h. is_odd (number_matching (g h))) same ∙ others.parity (omega (arith, there, same))

pub tally_behind : (i : Indexed) (ss rs : Sides) (t : Tally) → IsTally (λ id. rests i ss id ++ rests i rs id) t → IsTally (rests i (followed_by ss rs)) t
tally_behind i ss rs t tally = record {
  head = record {
    within = tally.head.within;
    below = λ id lt. ap sum_of_any (rests_behind i ss rs id) ∙ tally.head.below id lt;
    at = λ there. ap sum_of_any (rests_behind i ss rs t.head) ∙ tally.head.at there;
    past = λ id le. ap sum_of_any (rests_behind i ss rs id) ∙ tally.head.past id le;
    ended = tally.head.ended;
  };
  parity = λ there. ap (λ xs. is_odd (number_matching xs)) (rests_behind i ss rs t.head) ∙ tally.parity there;
}

-- weights are no more than the greatest
pub weights_fit : (i : Indexed) (ss : Sides) → AreSound i ss → weight_sum ss ≤ greatest_sum ss
weights_fit i no_sides sound = omega arith
weights_fit i (side t s ss) sound = let more = weights_fit i ss sound.others in omega (arith, more, weight_le i t s sound.top)

-- ---- where an xor begins

module _ (i : Indexed) (ss : Sides) (t : Tally) (tally : IsTally (rests i ss) t) where
  pub xor_below : NoneBelow t.head (rest i (xor_many ss))
  xor_below id lt = none_xor (rests i ss id) (tally.head.below id lt)

  xor_past : (id : ℕ) → 2 ^ 32 ≤ id → rest i (xor_many ss) id ≡ None
  xor_past id le = none_xor (rests i ss id) (tally.head.past id le)

  even_at : t.odd ≡ false → t.head < 2 ^ 32 → rest i (xor_many ss) t.head ≡ None
  even_at even there = ap (λ b. where_so b (sum_of_any (rests i ss t.head))) (tally.parity there ∙ even)

  -- an odd number of sides is there
  pub xor_there : t.odd ≡ true → t.head < 2 ^ 32 → IsHead t.head t.weight (rest i (xor_many ss))
  xor_there is there = record {
    within = tally.head.within;
    below = xor_below;
    at = λ lt. ap (λ b. where_so b (sum_of_any (rests i ss t.head))) (tally.parity there ∙ is) ∙ tally.head.at there;
    past = xor_past;
    ended = tally.head.ended;
  }

  -- an even number is
  pub even_below : t.odd ≡ false → t.head < 2 ^ 32 → NoneBelow (t.head + 1) (rest i (xor_many ss))
  even_below even there id lt =
      elim (cases_lt id t.head) as (λ _. rest i (xor_many ss) id ≡ None) [
        | inl before ↦ xor_below id before
        | inr le ↦ let same : t.head ≡ id = omega (arith, lt, le) in subst (λ n. rest i (xor_many ss) n ≡ None) same (even_at even there)
      ]

  none_from : (next : ℕ) → 2 ^ 32 ≤ next → NoneBelow next (rest i (xor_many ss)) → IsHead (2 ^ 32) 0 (rest i (xor_many ss))
  none_from next le below = record {
    within = le_refl (2 ^ 32);
    below = λ id lt. below id (omega (arith, lt, le));
    at = λ lt. absurd (omega (arith, lt));
    past = xor_past;
    ended = λ same. refl;
  }

  -- no side goes on
  pub xor_ended : 2 ^ 32 ≤ t.head → IsHead (2 ^ 32) 0 (rest i (xor_many ss))
  xor_ended le = none_from t.head le xor_below

  pub even_ended : t.odd ≡ false → t.head < 2 ^ 32 → 2 ^ 32 ≤ t.head + 1 → IsHead (2 ^ 32) 0 (rest i (xor_many ss))
  even_ended even there le = none_from (t.head + 1) le (even_below even there)

-- ---- all sides sought

pub none_below : (i : Indexed) (target : ℕ) (ss rs : Sides) (id : ℕ) → AreSought i target ss rs → id < target → sum_of_any (rests i rs id) ≡ None
none_below i target no_sides no_sides id sought lt = refl
none_below i target no_sides (side u r rs) id sought lt = absurd sought
none_below i target (side t s ss) no_sides id sought lt = absurd sought
none_below i target (side t s ss) (side u r rs) id sought lt =
    either_none (rest i r id) (sum_of_any (rests i rs id)) (covers_none (from_on target (rest i s) id) (rest i r id) 0 (from_on-below target (rest i s) id lt) (sought.first id))
    (none_below i target ss rs id sought.others lt)

pub same_from : (i : Indexed) (target : ℕ) (ss rs : Sides) (id : ℕ) → AreSought i target ss rs → target ≤ id → rests i rs id ≡ rests i ss id
same_from i target no_sides no_sides id sought le = refl
same_from i target no_sides (side u r rs) id sought le = absurd sought
same_from i target (side t s ss) no_sides id sought le = absurd sought
same_from i target (side t s ss) (side u r rs) id sought le =
    let first : rest i r id ≡ rest i s id = covers_exactly (from_on target (rest i s) id) (rest i r id) (sought.first id) ∙ from_on-at target (rest i s) id le in
    let others : rests i rs id ≡ rests i ss id = same_from i target ss rs id sought.others le in
    ap (λ (xs : List (Option ℕ)). rest i r id ∷ xs) others ∙ ap (λ (o : Option ℕ). o ∷ rests i ss id) first

pub sought_covers : (i : Indexed) (target need : ℕ) (ss rs : Sides) → AreSought i target ss rs → Covers (from_on target (rest i (xor_many ss))) (rest i (xor_many rs)) need
sought_covers i target need ss rs sought = λ id.
    from_cases target (rest i (xor_many ss)) id (rest i (xor_many rs) id) need
    (λ le. subst (λ (xs : List (Option ℕ)). CoversAt (combined Form.Xor (rests i ss id)) (combined Form.Xor xs) need) (sym (same_from i target ss rs id sought le)) (covers_itself (combined Form.Xor (rests i ss id)) need))
    (λ lt. none_xor (rests i rs id) (none_below i target ss rs id sought lt))

-- ---- how far the sides have come

pub record XorSoFar (i : Indexed) (target from : ℕ) (ss0 ss : Sides) : Type 0 where
  pub sides : IsMany ss (AreSound i ss)
  pub covers : Covers (from_on target (rest i (xor_many ss0))) (from_on from (rest i (xor_many ss))) 0
  pub within : from < 2 ^ 32
  pub falls : greatest_sum ss ≤ greatest_sum ss0
  pub smaller : sizes_in ss ≤ sizes_in ss0

pub xor_begun : (i : Indexed) (target : ℕ) (ss : Sides) → IsMany ss (AreSound i ss) → target < 2 ^ 32 → XorSoFar i target target ss ss
xor_begun i target ss sides within = record { sides = sides; covers = λ id. covers_itself (from_on target (rest i (xor_many ss)) id) 0; within = within; falls = le_refl (greatest_sum ss); smaller = le_refl (sizes_in ss) }

pub xor_covers : (i : Indexed) (target need from : ℕ) (ss0 ss rs : Sides) → XorSoFar i target from ss0 ss → AreSought i from ss rs → Covers (from_on target (rest i (xor_many ss0))) (rest i (xor_many rs)) need
xor_covers i target need from ss0 ss rs far sought = λ id.
    covers_then (from_on target (rest i (xor_many ss0)) id) (from_on from (rest i (xor_many ss)) id) (rest i (xor_many rs) id) 0 need (omega arith) (far.covers id) (sought_covers i from need ss rs sought id)

pub xor_more : (i : Indexed) (target from further : ℕ) (ss0 ss rs : Sides) → XorSoFar i target from ss0 ss → AreSound i rs → AreSought i from ss rs
    → greatest_sum rs ≤ greatest_sum ss → sizes_in rs ≤ sizes_in ss → GoesOn from further (rest i (xor_many rs)) → XorSoFar i target further ss0 rs
xor_more i target from further ss0 ss rs far sound sought falls smaller on = record {
  sides = record { sides = sound; fits = omega (arith, falls, far.sides.fits) };
  covers = goes_on_covers target 0 further (rest i (xor_many ss0)) (rest i (xor_many rs)) (xor_covers i target 0 from ss0 ss rs far sought) on.below;
  within = on.within;
  falls = omega (arith, falls, far.falls);
  smaller = omega (arith, smaller, far.smaller);
}

pub sum_bound : (i : Indexed) (ss : Sides) (id : ℕ) → AreSound i ss → unwrap_or (sum_of_any (rests i ss id)) 0 ≤ greatest_sum ss
sum_bound i no_sides id sound = omega arith
sum_bound i (side t s ss) id sound = added (rest i s id) (sum_of_any (rests i ss id)) (sound.top.bound id) (sum_bound i ss id sound.others)
  where
    added : (a b : Option ℕ) → unwrap_or a 0 ≤ t.greatest → unwrap_or b 0 ≤ greatest_sum ss → unwrap_or (either a b) 0 ≤ t.greatest + greatest_sum ss
    added None b p q = omega (arith, p, q)
    added (Some v) None p q = omega (arith, p, q)
    added (Some v) (Some w) p q = omega (arith, p, q)

xor_bound : (i : Indexed) (ss : Sides) (id : ℕ) → AreSound i ss → unwrap_or (rest i (xor_many ss) id) 0 ≤ greatest_sum ss
xor_bound i ss id sound = by (is_odd (number_matching (rests i ss id))) (sum_bound i ss id sound)
  where
    by : (test : Bool) → unwrap_or (sum_of_any (rests i ss id)) 0 ≤ greatest_sum ss → unwrap_or (where_so test (sum_of_any (rests i ss id))) 0 ≤ greatest_sum ss
    by true le = le
    by false le = omega arith

-- the top of an xor
pub xor_top : (i : Indexed) (ss : Sides) (t : Top) → AreSound i ss → IsHead t.head t.weight (rest i (xor_many ss))
    → (t.head < 2 ^ 32 → t.greatest ≡ greatest_sum ss) → (t.head ≡ 2 ^ 32 → t.greatest ≡ 0) → IsTop i t (xor_many ss)
xor_top i ss t sound h exact closed = record {
  head = h;
  bound = λ id. elim (cases_lt t.head (2 ^ 32)) as (λ _. unwrap_or (rest i (xor_many ss) id) 0 ≤ t.greatest) [
    | inl lt ↦ subst (λ g. unwrap_or (rest i (xor_many ss) id) 0 ≤ g) (sym (exact lt)) (xor_bound i ss id sound)
    | inr le ↦ none_bound (rest i (xor_many ss) id) t.greatest
        (IsHead-none t.weight id (rest i (xor_many ss)) (subst (λ n. IsHead n t.weight (rest i (xor_many ss))) (at_end le h.within) h))
  ];
  summed = λ lt. omega (arith, exact lt);
  closed = closed;
}
  where
    at_end : 2 ^ 32 ≤ t.head → t.head ≤ 2 ^ 32 → t.head ≡ 2 ^ 32
    at_end p q = omega (arith, p, q)

-- sides that were moved on from 0 without a need
pub xor_gives : (i : Indexed) (id : ℕ) (old new : Sides) → Covers (from_on 0 (rest i (xor_many old))) (rest i (xor_many new)) 0 → rest i (xor_many new) id ≡ combined Form.Xor (rests i old id)
xor_gives i id old new covers = covers_exactly (from_on 0 (rest i (xor_many old)) id) (rest i (xor_many new) id) (covers id) ∙ from_on-at 0 (rest i (xor_many old)) id (omega arith)
