-- What nodes give, and what a change and a move leave of it.
use Rattle.std.proofs.Common.{min, ◌==◌, ◌≡◌, ◌≤◌, ◌<◌, ◌^◌, ℕ, Bool, true, false, Option, None, Some, unwrap_or, if◌then◌else◌, inl, inr, refl, sym, subst, ap, ◌∙◌, arith, rules, le_refl, List, length, Box, Vec, Global}
use Rattle.std.specs.Vec.{with_items}
use Rattle.std.proofs.lemmas.Bool.{cases_lt, eqb-true}
use Rattle.std.proofs.lemmas.List.{with_items_is}
use Rattle.sk_base.specs.declared.find.Scheme.{Scheme}
use Rattle.sk_query.specs.declared.form.Form.{Form}
use Rattle.sk_model.specs.Covers.{CoversAt, Covers, first_need, second_need}
use Rattle.sk_model.proofs.CoverLaws.{covers_itself, covers_then}
use Rattle.sk_index.specs.Indexed.{Indexed}
use Rattle.sk_decay.specs.declared.change.Change.{Change}
use Rattle.sk_decay.specs.Changes.{changed, change_of, Serves}
use Rattle.sk_decay.specs.Sides.{paired, greatest_under, is_led, second_target, IsSide}
use Rattle.sk_decay.specs.Heads.{IsHead, NoneBelow}
use Rattle.sk_decay.proofs.SideLaws.{paired-covers, paired-bound, paired-led, paired-none}
use Rattle.sk_nodes.specs.declared.top.Top.{Top}
use Rattle.sk_nodes.specs.declared.node.Node.{Node, the_lemmas}
use Rattle.sk_nodes.specs.declared.node.Node.TheOpen.{Node-F}
use Rattle.sk_nodes.specs.declared.node.Node.TheViews.{roll-Node}
use Rattle.sk_nodes.specs.declared.node.Node.TheFolds.{ind-Node, fold-roll-Node}
use Rattle.sk_nodes.specs.declared.node.Node.TheVariants.{rolls-Pair}
use Rattle.sk_nodes.specs.declared.node.Node.TheVariants as Node
use Rattle.sk_nodes.specs.Leaves.{AtMost}
use Rattle.sk_nodes.specs.declared.proximity.Proximity.{Proximity}
use Rattle.sk_nodes.specs.declared.leaf.Leaf.{Leaf}
use Rattle.sk_nodes.specs.declared.merge.Merge.{Merge}
use Rattle.sk_nodes.specs.Shapes.{Shape, ended, leaf, range, pair, xor_many, or_many, positional, synonym, shape_of, node_step, size_of, sides_on, gathered}
use Rattle.sk_nodes.specs.Decayed.{changed_pair, decayed, SidesFit, IsDecayed}
use Rattle.sk_nodes.specs.Left.{rest, from_on, unread_of, greatest_held}
use Rattle.sk_nodes.specs.Skips.{WeighsBelow}
use Rattle.sk_nodes.specs.Moved.{WasSought}
use Rattle.sk_nodes.specs.Sound.{IsTop, IsPair, Sound, Replaces}
use Rattle.sk_nodes.proofs.LeafLaws.{from_on-at, from_on-below, from_cases, covers_none}

-- ---- the shapes of nodes

pub shape_of-Nothing : shape_of Node.Nothing ≡ ended
shape_of-Nothing = search (rules, the_lemmas)

pub shape_of-Leaf : (l : Leaf) → shape_of (Node.Leaf l) ≡ leaf l
shape_of-Leaf l = search (rules, the_lemmas)

pub shape_of-Pair : (form : Form) (ta tb : Top) (a b : Box Node Global) → shape_of (Node.Pair form ta a tb b) ≡ pair form ta (shape_of a.value) tb (shape_of b.value)
shape_of-Pair form ta tb a b = search (rules, the_lemmas)

pub shape_of-XorMany : (tops : Vec Top Global) (nodes : Vec Node Global) → shape_of (Node.XorMany tops nodes) ≡ xor_many (sides_on tops.items nodes.items)
shape_of-XorMany tops nodes = search (rules, the_lemmas)

pub shape_of-OrMany : (tops : Vec Top Global) (nodes : Vec Node Global) → shape_of (Node.OrMany tops nodes) ≡ or_many (sides_on tops.items nodes.items)
shape_of-OrMany tops nodes = search (rules, the_lemmas)

pub shape_of-Merge : (b : Box Merge Global) → shape_of (Node.Merge b) ≡ or_many (gathered b.value)
shape_of-Merge b = search (rules, the_lemmas)

pub shape_of-Positional : (p : Proximity) (t : Top) (b : Box Node Global) → shape_of (Node.Positional p t b) ≡ positional p t (shape_of b.value)
shape_of-Positional p t b = search (rules, the_lemmas)

pub shape_of-Synonym : (scheme : Scheme) (factor : ℕ) (t : Top) (b : Box Node Global) → shape_of (Node.Synonym scheme factor t b) ≡ synonym scheme factor t (shape_of b.value)
shape_of-Synonym scheme factor t b = search (rules, the_lemmas)

-- ---- one side

light_gone : (a : Option ℕ) (greatest need : ℕ) → unwrap_or a 0 ≤ greatest → greatest < need → CoversAt a None need
light_gone None greatest need le lt = tt
light_gone (Some v) greatest need le lt = omega (arith, le, lt)

-- what is too light may go
pub covers_gone : (target need greatest : ℕ) (f : ℕ → Option ℕ) → AtMost greatest f → greatest < need → Covers (from_on target f) (λ id. None) need
covers_gone target need greatest f bound lt = λ id.
    from_cases target f id None need (λ at. light_gone (f id) greatest need (bound id) lt) (λ below. refl)

-- one cover after another
pub covers_more : (target need : ℕ) (f g h : ℕ → Option ℕ) → Covers f g need → Covers (from_on target g) h need → Covers (from_on target f) h need
covers_more target need f g h first last = λ id.
    from_cases target f id (h id) need
    (λ at. covers_then (f id) (g id) (h id) need need (le_refl need) (first id) (subst (λ a. CoversAt a (h id) need) (from_on-at target g id at) (last id)))
    (λ below. covers_none None (h id) need refl (subst (λ a. CoversAt a (h id) need) (from_on-below target g id below) (last id)))

-- the end of a node
pub ended_top : (i : Indexed) → IsTop i (record { head = 2 ^ 32; weight = 0; greatest = 0 }) ended
ended_top i = record {
  head = record { within = le_refl (2 ^ 32); below = λ id lt. refl; at = λ lt. absurd (omega (arith, lt)); past = λ id le. refl; ended = λ same. refl };
  bound = λ id. omega arith;
  summed = λ lt. absurd (omega (arith, lt));
  closed = λ same. refl;
}

-- an ended head: nothing is given
pub IsHead-none : (weight id : ℕ) (f : ℕ → Option ℕ) → IsHead (2 ^ 32) weight f → f id ≡ None
IsHead-none weight id f h =
    elim (cases_lt id (2 ^ 32)) as (λ _. f id ≡ None) [
      | inl lt ↦ h.below id lt
      | inr le ↦ h.past id le
    ]

-- a head's weight is given
pub weight_le : (i : Indexed) (t : Top) (s : Shape) → IsTop i t s → t.weight ≤ t.greatest
weight_le i t s top =
    elim (cases_lt t.head (2 ^ 32)) as (λ _. t.weight ≤ t.greatest) [
      | inl lt ↦ given (rest i s t.head) (top.head.at lt) (top.bound t.head)
      | inr le ↦ let none : t.weight ≡ 0 = top.head.ended (omega (arith, le, top.head.within)) in omega (arith, none)
    ]
  where
    given : (a : Option ℕ) → a ≡ Some t.weight → unwrap_or a 0 ≤ t.greatest → t.weight ≤ t.greatest
    given None e h = cc
    given (Some v) e h = let same : v ≡ t.weight = cc in omega (arith, same, h)

-- what a node that has not ended can weigh bounds its top
pub greatest_within : (i : Indexed) (t : Top) (s : Shape) → IsTop i t s → t.greatest ≤ greatest_held s
greatest_within i t s top =
    elim (cases_lt t.head (2 ^ 32)) as (λ _. t.greatest ≤ greatest_held s) [
      | inl lt ↦ top.summed lt
      | inr le ↦ let none : t.greatest ≡ 0 = top.closed (omega (arith, le, top.head.within)) in omega (arith, none)
    ]

-- a node as a side, for the rules
pub IsTop-side : (i : Indexed) (t : Top) (s : Shape) (test : Bool) → (test ≡ true → t.head ≡ 2 ^ 32) → IsTop i t s → (id : ℕ) → IsSide t.greatest test (rest i s id)
IsTop-side i t s test is top id = record {
  bound = top.bound id;
  gone = λ e. IsHead-none t.weight id (rest i s) (subst (λ h. IsHead h t.weight (rest i s)) (is e) top.head);
}

-- ---- two sides

module _ (form : Form) (from next need ga gb : ℕ) (a b a2 b2 : ℕ → Option ℕ) (head weight : ℕ) (bound_b : AtMost gb b) (bound_a : AtMost ga a2) (h : IsHead head weight a2) (le : from ≤ head)
    (first : Covers (from_on from a) a2 (first_need form need gb)) where
  first_at : (id : ℕ) → from ≤ id → CoversAt (a id) (a2 id) (first_need form need gb)
  first_at id up = subst (λ o. CoversAt o (a2 id) (first_need form need gb)) (from_on-at from a id up) (first id)

  both_gone : (c d : Option ℕ) → c ≡ None → d ≡ None → paired form c d ≡ None
  both_gone c d e f = ap (λ o. paired form o d) e ∙ ap (paired form None) f ∙ paired-none form

  led_gone : (c d : Option ℕ) → c ≡ None → is_led form ≡ true → paired form c d ≡ None
  led_gone c d e led = ap (λ o. paired form o d) e ∙ paired-led form d led

  module _ (second : Covers (from_on next b) b2 (second_need form need ga)) where
    second_at : (id : ℕ) → next ≤ id → CoversAt (b id) (b2 id) (second_need form need ga)
    second_at id up = subst (λ o. CoversAt o (b2 id) (second_need form need ga)) (from_on-at next b id up) (second id)

    second_gone : (id : ℕ) → id < next → b2 id ≡ None
    second_gone id lt = covers_none (from_on next b id) (b2 id) (second_need form need ga) (from_on-below next b id lt) (second id)

    below_by : (test : Bool) → is_led form ≡ test → next ≡ (if test then head else from) → (id : ℕ) → id < from → paired form (a2 id) (b2 id) ≡ None
    below_by true led is id lt = led_gone (a2 id) (b2 id) (h.below id (omega (arith, lt, le))) led
    below_by false led is id lt = both_gone (a2 id) (b2 id) (h.below id (omega (arith, lt, le))) (second_gone id (omega (arith, lt, is)))

    at_both : (id : ℕ) → from ≤ id → next ≤ id → CoversAt (paired form (a id) (b id)) (paired form (a2 id) (b2 id)) need
    at_both id up further = paired-covers form (a id) (b id) (a2 id) (b2 id) ga gb need (bound_b id) (bound_a id) (first_at id up) (second_at id further)

    at_first : (id : ℕ) → from ≤ id → id < head → is_led form ≡ true → CoversAt (paired form (a id) (b id)) (paired form (a2 id) (b2 id)) need
    at_first id up lt led =
        subst (λ o. CoversAt (paired form (a id) (b id)) o need)
        (led_gone (a2 id) (b id) (h.below id lt) led ∙ sym (led_gone (a2 id) (b2 id) (h.below id lt) led))
        (paired-covers form (a id) (b id) (a2 id) (b id) ga gb need (bound_b id) (bound_a id) (first_at id up) (covers_itself (b id) (second_need form need ga)))

    at_by : (test : Bool) → is_led form ≡ test → next ≡ (if test then head else from) → (id : ℕ) → from ≤ id → CoversAt (paired form (a id) (b id)) (paired form (a2 id) (b2 id)) need
    at_by true led is id up =
        elim (cases_lt id head) as (λ _. CoversAt (paired form (a id) (b id)) (paired form (a2 id) (b2 id)) need) [
          | inl lt ↦ at_first id up lt led
          | inr further ↦ at_both id up (omega (arith, further, is))
        ]
    at_by false led is id up = at_both id up (omega (arith, up, is))

    -- both sides moved on, the second from where the form says
    pub pair_covers : next ≡ second_target form from head → Covers (from_on from (λ id. paired form (a id) (b id))) (λ id. paired form (a2 id) (b2 id)) need
    pair_covers is = λ id.
        from_cases from (λ id. paired form (a id) (b id)) id (paired form (a2 id) (b2 id)) need (at_by (is_led form) refl is id) (below_by (is_led form) refl is id)

  -- the first side of a form that is led has ended
  pub pair_covers_ended : 2 ^ 32 ≤ head → is_led form ≡ true → Covers (from_on from (λ id. paired form (a id) (b id))) (λ id. paired form (a2 id) (b id)) need
  pair_covers_ended end led = λ id.
      from_cases from (λ id. paired form (a id) (b id)) id (paired form (a2 id) (b id)) need
      (λ up. paired-covers form (a id) (b id) (a2 id) (b id) ga gb need (bound_b id) (bound_a id) (first_at id up) (covers_itself (b id) (second_need form need ga)))
      (λ lt. led_gone (a2 id) (b id) (h.below id (omega (arith, lt, le))) led)

-- an ended target: the form is led, and its first side has ended
pub target_ended : (form : Form) (from head : ℕ) → from < 2 ^ 32 → 2 ^ 32 ≤ second_target form from head → (is_led form ≡ true) × (2 ^ 32 ≤ head)
target_ended form from head lt = by (is_led form) refl
  where
    by : (test : Bool) → is_led form ≡ test → 2 ^ 32 ≤ (if test then head else from) → (is_led form ≡ true) × (2 ^ 32 ≤ head)
    by true e up = (e, up)
    by false e up = absurd (omega (arith, lt, up))

-- what is left begins at the target or behind it
pub head_reached : (target need head weight : ℕ) (f g : ℕ → Option ℕ) → Covers (from_on target f) g need → IsHead head weight g → target < 2 ^ 32 → target ≤ head
head_reached target need head weight f g covers h lt =
    elim (cases_lt head target) as (λ _. target ≤ head) [
      | inl before ↦ absurd (there (g head) (covers_none (from_on target f head) (g head) need (from_on-below target f head before) (covers head)) (h.at (omega (arith, before, lt))))
      | inr le ↦ le
    ]
  where
    there : (o : Option ℕ) → o ≡ None → o ≡ Some weight → ⊥
    there o e g = cc

-- what is none is no more than anything
pub none_bound : (o : Option ℕ) (g : ℕ) → o ≡ None → unwrap_or o 0 ≤ g
none_bound None g e = omega arith
none_bound (Some v) g e = cc

-- the top of two sides where they meet
pub pair_top : (i : Indexed) (form : Form) (ta : Top) (a : Shape) (tb : Top) (b : Shape) (t : Top) → IsTop i ta a → IsTop i tb b
    → IsHead t.head t.weight (λ id. paired form (rest i a id) (rest i b id))
    → (t.head < 2 ^ 32 → t.greatest ≡ greatest_under form ta.greatest tb.greatest) → (t.head ≡ 2 ^ 32 → t.greatest ≡ 0) → IsTop i t (pair form ta a tb b)
pair_top i form ta a tb b t first second h exact closed = record {
  head = h;
  bound = λ id. elim (cases_lt t.head (2 ^ 32)) as (λ _. unwrap_or (paired form (rest i a id) (rest i b id)) 0 ≤ t.greatest) [
    | inl lt ↦ subst (λ g. unwrap_or (paired form (rest i a id) (rest i b id)) 0 ≤ g) (sym (exact lt)) (paired-bound form (rest i a id) (rest i b id) ta.greatest tb.greatest (first.bound id) (second.bound id))
    | inr le ↦ none_bound (paired form (rest i a id) (rest i b id)) t.greatest
        (IsHead-none t.weight id (λ id. paired form (rest i a id) (rest i b id)) (subst (λ n. IsHead n t.weight (λ id. paired form (rest i a id) (rest i b id))) (at_end le h.within) h))
  ];
  summed = λ lt. omega (arith, exact lt);
  closed = closed;
}
  where
    at_end : 2 ^ 32 ≤ t.head → t.head ≤ 2 ^ 32 → t.head ≡ 2 ^ 32
    at_end p q = omega (arith, p, q)

-- two sides of which the first, which leads, has ended
pub pair_top_ended : (i : Indexed) (form : Form) (ta : Top) (a : Shape) (tb : Top) (b : Shape) → IsTop i ta a → is_led form ≡ true → 2 ^ 32 ≤ ta.head
    → IsTop i (record { head = 2 ^ 32; weight = 0; greatest = 0 }) (pair form ta a tb b)
pair_top_ended i form ta a tb b first led end = record {
  head = record { within = le_refl (2 ^ 32); below = λ id lt. gone id; at = λ lt. absurd (omega (arith, lt)); past = λ id le. gone id; ended = λ same. refl };
  bound = λ id. none_bound (paired form (rest i a id) (rest i b id)) 0 (gone id);
  summed = λ lt. absurd (omega (arith, lt));
  closed = λ same. refl;
}
  where
    at_end : 2 ^ 32 ≤ ta.head → ta.head ≤ 2 ^ 32 → ta.head ≡ 2 ^ 32
    at_end p q = omega (arith, p, q)

    gone : (id : ℕ) → paired form (rest i a id) (rest i b id) ≡ None
    gone id =
        ap (λ o. paired form o (rest i b id)) (IsHead-none ta.weight id (rest i a) (subst (λ n. IsHead n ta.weight (rest i a)) (at_end end first.head.within) first.head))
        ∙ paired-led form (rest i b id) led

-- ---- how far two sides have come

pub record SidesSoFar (i : Indexed) (form : Form) (target need from : ℕ) (ta0 : Top) (a0 : Shape) (tb0 : Top) (b0 : Shape) (ta : Top) (a : Shape) (tb : Top) (b : Shape) : Type 0 where
  pub pair : IsPair i ta a tb b (Sound i a) (Sound i b)
  pub covers : Covers (from_on target (λ id. paired form (rest i a0 id) (rest i b0 id))) (from_on from (λ id. paired form (rest i a id) (rest i b id))) need
  pub within : from < 2 ^ 32
  pub first_falls : ta.greatest ≤ ta0.greatest
  pub second_falls : tb.greatest ≤ tb0.greatest
  pub first_smaller : size_of a ≤ size_of a0
  pub second_smaller : size_of b ≤ size_of b0

-- none has moved yet
pub sides_begun : (i : Indexed) (form : Form) (target need : ℕ) (ta : Top) (a : Shape) (tb : Top) (b : Shape) → IsPair i ta a tb b (Sound i a) (Sound i b) → target < 2 ^ 32 → SidesSoFar i form target need target ta a tb b ta a tb b
sides_begun i form target need ta a tb b are within = record {
  pair = are;
  covers = λ id. covers_itself (from_on target (λ id. paired form (rest i a id) (rest i b id)) id) need;
  within = within;
  first_falls = omega arith;
  second_falls = omega arith;
  first_smaller = omega arith;
  second_smaller = omega arith;
}

-- both sides moved on once more
pub sides_covers : (i : Indexed) (form : Form) (target need from next : ℕ) (ta0 : Top) (a0 : Shape) (tb0 : Top) (b0 : Shape) (ta : Top) (a : Shape) (tb : Top) (b : Shape) (ua : Top) (c : Shape) (d : Shape)
    → SidesSoFar i form target need from ta0 a0 tb0 b0 ta a tb b → IsTop i ua c → from ≤ ua.head
    → Covers (from_on from (rest i a)) (rest i c) (first_need form need tb.greatest) → Covers (from_on next (rest i b)) (rest i d) (second_need form need ua.greatest)
    → next ≡ second_target form from ua.head
    → Covers (from_on target (λ id. paired form (rest i a0 id) (rest i b0 id))) (λ id. paired form (rest i c id) (rest i d id)) need
sides_covers i form target need from next ta0 a0 tb0 b0 ta a tb b ua c d far top le first second is = λ id.
    covers_then (from_on target (λ id. paired form (rest i a0 id) (rest i b0 id)) id) (from_on from (λ id. paired form (rest i a id) (rest i b id)) id) (paired form (rest i c id) (rest i d id)) need need (le_refl need)
    (far.covers id)
    (pair_covers form from next need ua.greatest tb.greatest (rest i a) (rest i b) (rest i c) (rest i d) ua.head ua.weight far.pair.second.bound top.bound top.head le first second is id)

pub sides_covers_ended : (i : Indexed) (form : Form) (target need from : ℕ) (ta0 : Top) (a0 : Shape) (tb0 : Top) (b0 : Shape) (ta : Top) (a : Shape) (tb : Top) (b : Shape) (ua : Top) (c : Shape)
    → SidesSoFar i form target need from ta0 a0 tb0 b0 ta a tb b → IsTop i ua c → from ≤ ua.head
    → Covers (from_on from (rest i a)) (rest i c) (first_need form need tb.greatest)
    → is_led form ≡ true → 2 ^ 32 ≤ ua.head
    → Covers (from_on target (λ id. paired form (rest i a0 id) (rest i b0 id))) (λ id. paired form (rest i c id) (rest i b id)) need
sides_covers_ended i form target need from ta0 a0 tb0 b0 ta a tb b ua c far top le first led end = λ id.
    covers_then (from_on target (λ id. paired form (rest i a0 id) (rest i b0 id)) id) (from_on from (λ id. paired form (rest i a id) (rest i b id)) id) (paired form (rest i c id) (rest i b id)) need need (le_refl need)
    (far.covers id)
    (pair_covers_ended form from from need ua.greatest tb.greatest (rest i a) (rest i b) (rest i c) (rest i b) ua.head ua.weight far.pair.second.bound top.bound top.head le first end led id)

-- they go on
pub goes_on_covers : (target need next : ℕ) (f g : ℕ → Option ℕ) → Covers (from_on target f) g need → NoneBelow next g → Covers (from_on target f) (from_on next g) need
goes_on_covers target need next f g covers below = λ id.
    elim (cases_lt id next) as (λ _. CoversAt (from_on target f id) (from_on next g id) need) [
      | inl lt ↦ subst (λ o. CoversAt (from_on target f id) o need) (below id lt ∙ sym (from_on-below next g id lt)) (covers id)
      | inr le ↦ subst (λ o. CoversAt (from_on target f id) o need) (sym (from_on-at next g id le)) (covers id)
    ]

-- what weighs too little may go
pub light_goes : (need : ℕ) (a b : Option ℕ) → CoversAt a b need → WeighsBelow need b → CoversAt a None need
light_goes need None None covers light = tt
light_goes need None (Some w) covers light = absurd covers
light_goes need (Some v) None covers light = covers
light_goes need (Some v) (Some w) covers light = elim (cases_lt v need) as (λ _. v < need) [ inl lt ↦ lt | inr le ↦ absurd (omega (arith, le, covers.1 le, light)) ]

pub goes_on_light : (target need next : ℕ) (f g : ℕ → Option ℕ) → Covers (from_on target f) g need → ((id : ℕ) → id < next → WeighsBelow need (g id)) → Covers (from_on target f) (from_on next g) need
goes_on_light target need next f g covers light = λ id.
    elim (cases_lt id next) as (λ _. CoversAt (from_on target f id) (from_on next g id) need) [
      | inl lt ↦ subst (λ o. CoversAt (from_on target f id) o need) (sym (from_on-below next g id lt)) (light_goes need (from_on target f id) (g id) (covers id) (light id lt))
      | inr le ↦ subst (λ o. CoversAt (from_on target f id) o need) (sym (from_on-at next g id le)) (covers id)
    ]

-- ---- what is put in a node's place

pub sound_fits : (i : Indexed) (s : Shape) → Sound i s → SidesFit s
sound_fits i ended sound = tt
sound_fits i (leaf l) sound = tt
sound_fits i (range r) sound = tt
sound_fits i (pair form ta a tb b) sound = sound.fits
sound_fits i (xor_many ss) sound = tt
sound_fits i (or_many ss) sound = tt
sound_fits i (positional p t s) sound = tt
sound_fits i (synonym scheme factor t s) sound = tt

pub decays_itself : (i : Indexed) (need : ℕ) (s : Shape) → Sound i s → Replaces i need s s
decays_itself i need s sound = record {
  sound = sound;
  covers = λ id. covers_itself (rest i s id) need;
  smaller = le_refl (size_of s);
  unread = le_refl (unread_of i s);
}

-- two sides, as the rule says
module _ (i : Indexed) (need : ℕ) (form : Form) (ta : Top) (a : Shape) (tb : Top) (b : Shape) (sound : Sound i (pair form ta a tb b)) where
  gives : (change : Change) → Serves change form ta.greatest tb.greatest (ta.head == 2 ^ 32) (tb.head == 2 ^ 32) need → (id : ℕ) → CoversAt (paired form (rest i a id) (rest i b id)) (changed change form (rest i a id) (rest i b id)) need
  gives change serves id = serves.covers (rest i a id) (rest i b id) (IsTop-side i ta a _ (λ e. eqb-true _ _ e) sound.first id) (IsTop-side i tb b _ (λ e. eqb-true _ _ e) sound.second id)

  under : (other : Form) → ((id : ℕ) → CoversAt (paired form (rest i a id) (rest i b id)) (paired other (rest i a id) (rest i b id)) need) → Replaces i need (pair form ta a tb b) (pair other ta a tb b)
  under other covers = record {
    sound = record { first = sound.first; second = sound.second; first_sound = sound.first_sound; second_sound = sound.second_sound; fits = sound.fits };
    covers = covers;
    smaller = omega arith;
    unread = omega arith;
  }

  swapped : (other : Form) → ((id : ℕ) → CoversAt (paired form (rest i a id) (rest i b id)) (paired other (rest i b id) (rest i a id)) need) → Replaces i need (pair form ta a tb b) (pair other tb b ta a)
  swapped other covers = record {
    sound = record { first = sound.second; second = sound.first; first_sound = sound.second_sound; second_sound = sound.first_sound; fits = omega (arith, sound.fits) };
    covers = covers;
    smaller = omega arith;
    unread = omega arith;
  }

  replaced : (change : Change) → Serves change form ta.greatest tb.greatest (ta.head == 2 ^ 32) (tb.head == 2 ^ 32) need → Replaces i need (pair form ta a tb b) (changed_pair change form ta a tb b)
  replaced Change.Keep serves = decays_itself i need _ sound
  replaced Change.Nothing serves = record { sound = tt; covers = gives Change.Nothing serves; smaller = omega arith; unread = omega arith }
  replaced Change.First serves = record { sound = sound.first_sound; covers = gives Change.First serves; smaller = omega arith; unread = omega arith }
  replaced Change.Second serves = record { sound = sound.second_sound; covers = gives Change.Second serves; smaller = omega arith; unread = omega arith }
  replaced Change.Maybe serves = under Form.AndMaybe (gives Change.Maybe serves)
  replaced Change.MaybeSwap serves = swapped Form.AndMaybe (gives Change.MaybeSwap serves)
  replaced Change.Both serves = under Form.And (gives Change.Both serves)
  replaced Change.Not serves = under Form.AndNot (gives Change.Not serves)
  replaced Change.NotSwap serves = swapped Form.AndNot (gives Change.NotSwap serves)

pub decays_along : (need : ℕ) (old new : Shape) (change : Change) (form : Form) (ta : Top) (a : Shape) (tb : Top) (b : Shape) → old ≡ pair form ta a tb b
    → Serves change form ta.greatest tb.greatest (ta.head == 2 ^ 32) (tb.head == 2 ^ 32) need → change ≡ change_of form ta.greatest tb.greatest (ta.head == 2 ^ 32) (tb.head == 2 ^ 32) need
    → new ≡ changed_pair change form ta a tb b → IsDecayed need old new
decays_along need old new change form ta a tb b e serves table f = record {
  covers = λ i sound.
      subst (λ (s : Shape). Replaces i need s new) (sym e) (subst (λ (s : Shape). Replaces i need (pair form ta a tb b) s) (sym f)
      (replaced i need form ta a tb b (subst (λ (s : Shape). Sound i s) e sound) change serves));
  table = f ∙ ap (λ c. changed_pair c form ta a tb b) table ∙ ap (decayed need) (sym e);
}

-- any other node stays
abbrev OtherStays : ℕ → Node → Type 0
OtherStays need n = ((form : Form) (ta : Top) (a : Box Node Global) (tb : Top) (b : Box Node Global) → n ≡ Node.Pair form ta a tb b → ⊥) → IsDecayed need (shape_of n) (shape_of n)

pub other_stays : (need : ℕ) (n : Node) → OtherStays need n
other_stays need = ind-Node (OtherStays need) (λ x y is. by x)
  where
    stays : (n : Node) (s : Shape) → shape_of n ≡ s → decayed need s ≡ s → IsDecayed need (shape_of n) (shape_of n)
    stays n s e same = record { covers = λ i sound. decays_itself i need (shape_of n) sound; table = e ∙ sym same ∙ ap (decayed need) (sym e) }

    by : (x : Node-F Node) → OtherStays need (roll-Node x)
    by Node-F.Nothing other = stays _ _ (fold-roll-Node Shape node_step Node-F.Nothing) refl
    by (Node-F.Leaf l) other = stays _ _ (fold-roll-Node Shape node_step (Node-F.Leaf l)) refl
    by (Node-F.Range r) other = stays _ _ (fold-roll-Node Shape node_step (Node-F.Range r)) refl
    by (Node-F.Pair form ta a tb b) other = absurd (other form ta a tb b (rolls-Pair form ta a tb b))
    by (Node-F.XorMany ts ns) other = stays _ _ (fold-roll-Node Shape node_step (Node-F.XorMany ts ns)) refl
    by (Node-F.OrMany ts ns) other = stays _ _ (fold-roll-Node Shape node_step (Node-F.OrMany ts ns)) refl
    by (Node-F.Merge b) other = stays _ _ (fold-roll-Node Shape node_step (Node-F.Merge b)) refl
    by (Node-F.Positional p t n) other = stays _ _ (fold-roll-Node Shape node_step (Node-F.Positional p t n)) refl
    by (Node-F.Synonym scheme factor t n) other = stays _ _ (fold-roll-Node Shape node_step (Node-F.Synonym scheme factor t n)) refl

-- ---- nodes of two sides, by their shapes

pub pair_shape : (node : Node) (form : Form) (ta tb : Top) (a b : Box Node Global) (x y : Node) → node ≡ Node.Pair form ta a tb b → x ≡ a.value → y ≡ b.value → shape_of node ≡ pair form ta (shape_of x) tb (shape_of y)
pair_shape node form ta tb a b x y e f g = ap shape_of e ∙ shape_of-Pair form ta tb a b ∙ (λ i. pair form ta (shape_of (sym f i)) tb (shape_of (sym g i)))

-- the same by what is read of its parts
pub parts_shape : (node : Node) (form : Form) (ta tb : Top) (a b : Box Node Global) (f : Form) (va vb : Top) (x y : Node) → node ≡ Node.Pair form ta a tb b → f ≡ form → va ≡ ta → vb ≡ tb → x ≡ a.value → y ≡ b.value → shape_of node ≡ pair f va (shape_of x) vb (shape_of y)
parts_shape node form ta tb a b f va vb x y e ef ea eb ex ey = pair_shape node form ta tb a b x y e ex ey ∙ (λ i. pair (sym ef i) (sym ea i) (shape_of x) (sym eb i) (shape_of y))

-- a leaf
pub leaf_shape : (node : Node) (l m : Leaf) → node ≡ Node.Leaf l → m ≡ l → shape_of node ≡ leaf m
leaf_shape node l m e f = ap shape_of e ∙ shape_of-Leaf l ∙ (λ i. leaf (sym f i))

-- a test of a node
pub positional_shape : (node : Node) (p : Proximity) (t : Top) (b : Box Node Global) (q : Proximity) (u : Top) (x : Node) → node ≡ Node.Positional p t b → q ≡ p → u ≡ t → x ≡ b.value → shape_of node ≡ positional q u (shape_of x)
positional_shape node p t b q u x e f g h = ap shape_of e ∙ shape_of-Positional p t b ∙ (λ i. positional (sym f i) (sym g i) (shape_of (sym h i)))

-- sums of wdfs
pub synonym_shape : (node : Node) (scheme : Scheme) (factor : ℕ) (t : Top) (b : Box Node Global) (other : Scheme) (f : ℕ) (u : Top) (x : Node) → node ≡ Node.Synonym scheme factor t b → other ≡ scheme → f ≡ factor → u ≡ t → x ≡ b.value
    → shape_of node ≡ synonym other f u (shape_of x)
synonym_shape node scheme factor t b other f u x e es ef eu ex = ap shape_of e ∙ shape_of-Synonym scheme factor t b ∙ (λ i. synonym (sym es i) (sym ef i) (sym eu i) (shape_of (sym ex i)))

-- many sides
pub xor_many_shape : (node : Node) (tops : Vec Top Global) (nodes : Vec Node Global) (ts : List Top) (ns : List Node) → node ≡ Node.XorMany tops nodes → ts ≡ tops.items → ns ≡ nodes.items → shape_of node ≡ xor_many (sides_on ts ns)
xor_many_shape node tops nodes ts ns e f g = ap shape_of e ∙ shape_of-XorMany tops nodes ∙ (λ i. xor_many (sides_on (sym f i) (sym g i)))

-- the same, where new sides were written over them
pub xor_many_written : (v : Vec Top Global) (w : Vec Node Global) (ts : List Top) (ns : List Node) → length ts ≡ v.len → length ns ≡ w.len → shape_of (Node.XorMany (with_items v ts) (with_items w ns)) ≡ xor_many (sides_on ts ns)
xor_many_written v w ts ns e f = shape_of-XorMany (with_items v ts) (with_items w ns) ∙ (λ i. xor_many (sides_on (with_items_is v ts e i) (with_items_is w ns f i)))

pub or_many_shape : (node : Node) (tops : Vec Top Global) (nodes : Vec Node Global) (ts : List Top) (ns : List Node) → node ≡ Node.OrMany tops nodes → ts ≡ tops.items → ns ≡ nodes.items → shape_of node ≡ or_many (sides_on ts ns)
or_many_shape node tops nodes ts ns e f g = ap shape_of e ∙ shape_of-OrMany tops nodes ∙ (λ i. or_many (sides_on (sym f i) (sym g i)))

pub or_many_written : (v : Vec Top Global) (w : Vec Node Global) (ts : List Top) (ns : List Node) → length ts ≡ v.len → length ns ≡ w.len → shape_of (Node.OrMany (with_items v ts) (with_items w ns)) ≡ or_many (sides_on ts ns)
or_many_written v w ts ns e f = shape_of-OrMany (with_items v ts) (with_items w ns) ∙ (λ i. or_many (sides_on (with_items_is v ts e i) (with_items_is w ns f i)))

-- many lists
pub merge_shape : (node : Node) (b : Box Merge Global) (m : Merge) → node ≡ Node.Merge b → m ≡ b.value → shape_of node ≡ or_many (gathered m)
merge_shape node b m e f = ap shape_of e ∙ shape_of-Merge b ∙ (λ i. or_many (gathered (sym f i)))

-- ---- a node that was moved on, by what the shapes are

pub sought_along : (i : Indexed) (target need before after steps more : ℕ) (old new s t : Shape) (top : Top) → old ≡ s → new ≡ t → WasSought i target need (greatest_held s) before after steps more s t top
    → WasSought i target need (greatest_held old) before after steps more old new top
sought_along i target need before after steps more old new s t top e f h =
    subst (λ (o : Shape). WasSought i target need (greatest_held o) before after steps more o new top) (sym e) (subst (λ (n : Shape). WasSought i target need (greatest_held s) before after steps more s n top) (sym f) h)

-- what two sides can weigh together falls with them
pub greatest_under-mono : (form : Form) (a b c d : ℕ) → c ≤ a → d ≤ b → greatest_under form c d ≤ greatest_under form a b
greatest_under-mono Form.And a b c d p q = omega (arith, p, q)
greatest_under-mono Form.Or a b c d p q = omega (arith, p, q)
greatest_under-mono Form.Xor a b c d p q = omega (arith, p, q)
greatest_under-mono Form.Max a b c d p q = omega (arith, p, q)
greatest_under-mono Form.AndNot a b c d p q = p
greatest_under-mono Form.AndMaybe a b c d p q = omega (arith, p, q)
greatest_under-mono Form.Filter a b c d p q = p

-- two sides that have gone on
pub sides_more : (i : Indexed) (form : Form) (target need from further : ℕ) (ta0 : Top) (a0 : Shape) (tb0 : Top) (b0 : Shape) (ta : Top) (a : Shape) (tb : Top) (b : Shape) (ua : Top) (c : Shape) (ub : Top) (d : Shape)
    → SidesSoFar i form target need from ta0 a0 tb0 b0 ta a tb b → IsTop i ua c → IsTop i ub d → Sound i c → Sound i d
    → ua.greatest ≤ ta.greatest → ub.greatest ≤ tb.greatest → size_of c ≤ size_of a → size_of d ≤ size_of b
    → Covers (from_on target (λ id. paired form (rest i a0 id) (rest i b0 id))) (λ id. paired form (rest i c id) (rest i d id)) need
    → further < 2 ^ 32 → NoneBelow further (λ id. paired form (rest i c id) (rest i d id))
    → SidesSoFar i form target need further ta0 a0 tb0 b0 ua c ub d
sides_more i form target need from further ta0 a0 tb0 b0 ta a tb b ua c ub d far first second first_sound second_sound fa fb sa sb covers within below = record {
  pair = record { first = first; second = second; first_sound = first_sound; second_sound = second_sound; fits = omega (arith, fa, fb, far.pair.fits) };
  covers = goes_on_covers target need further (λ id. paired form (rest i a0 id) (rest i b0 id)) (λ id. paired form (rest i c id) (rest i d id)) covers below;
  within = within;
  first_falls = omega (arith, fa, far.first_falls);
  second_falls = omega (arith, fb, far.second_falls);
  first_smaller = omega (arith, sa, far.first_smaller);
  second_smaller = omega (arith, sb, far.second_smaller);
}

-- a weight that none is above bounds a top
pub capped_top : (i : Indexed) (t : Top) (s : Shape) (g : ℕ) → IsTop i t s → AtMost g (rest i s) → IsTop i (record t { greatest = min t.greatest g }) s
capped_top i t s g top bound = record {
  head = top.head;
  bound = λ id. lesser (unwrap_or (rest i s id) 0) t.greatest g (top.bound id) (bound id);
  summed = λ lt. omega (arith, top.summed lt);
  closed = λ end. omega (arith, top.closed end);
}
  where
    lesser : (n a b : ℕ) → n ≤ a → n ≤ b → n ≤ min a b
    lesser n a b p q = omega (arith, p, q)
