-- Nodes of two lists of which one fades, as they are replaced and moved on.
use Rattle.std.proofs.Common.{◌≡◌, ◌≤◌, ◌<◌, ◌+◌, ◌^◌, ◌⊎◌, ◌&&◌, ◌||◌, ◌==◌, ℕ, nat_lt, Bool, true, false, [], ◌∷◌, inl, inr, refl, sym, subst, ◌∙◌, arith, le_refl}
use Rattle.std.proofs.lemmas.Bool.{cases_lt, ltb-false, or_parts}
use Rattle.std.proofs.lemmas.Bool.Decides.{nat_tests}
use Rattle.sk_chunks.specs.Postings.{Postings}
use Rattle.sk_query.specs.declared.form.Form.{Form}
use Rattle.sk_index.specs.Indexed.{Indexed}
use Rattle.sk_lists.specs.Seeks.{count_to}
use Rattle.sk_decay.specs.declared.change.Change.{Change}
use Rattle.sk_decay.specs.declared.meeting.Meeting.{Meeting}
use Rattle.sk_decay.specs.Changes.{change_of}
use Rattle.sk_decay.specs.Heads.{GoesOnOnly, MeetsBoth}
use Rattle.sk_decay.specs.Sides.{second_target}
use Rattle.sk_nodes.specs.declared.top.Top.{Top}
use Rattle.sk_nodes.specs.declared.leaf.Leaf.{Leaf}
use Rattle.sk_nodes.specs.Leaves.{entries_of, head_of, leaf_unread}
use Rattle.sk_nodes.specs.Shapes.{Shape, ended, leaf, pair}
use Rattle.sk_nodes.specs.Left.{greatest_held}
use Rattle.sk_nodes.specs.Sound.{IsTop, Sound}
use Rattle.sk_nodes.specs.Decayed.{changed_pair, decayed}
use Rattle.sk_nodes.specs.Flat.{room_to}
use Rattle.sk_nodes.specs.Led.{count_behind, IsLone, lead_head, lead_unread, Walks}
use Rattle.sk_nodes.specs.Fading.{entries_behind, StandsOn, following_room, leading_room, both_room, fading_room, IsFadingForm, IsFading, PairMayFade, MayFade, LeafMoves, MayLeave, FadesUnder}
use Rattle.sk_nodes.specs.Accounts.{Keeps}
use Rattle.sk_nodes.specs.Moved.{fading_account}
use Rattle.sk_nodes.proofs.StopLaws.{if_so}
use Rattle.sk_nodes.proofs.FadeNumbers.{following_under, leading_le, OtherMoved, FadingMoved, followed_paid, followed_gone, Sought, AreOpen, Leaves, leads_gone, leads_paid, leaves_met, leaves_on}

-- ---- a leaf, or nothing

-- where its head is behind the point it has an entry there
behind_some : (i : Indexed) (point : ℕ) (s : Shape) → IsLone s → point < lead_head i s → lead_head i s < 2 ^ 32 → 1 ≤ entries_behind i point s
behind_some i point ended lone past small = absurd (omega (arith, small))
behind_some i point (leaf l) lone past small = by (entries_of i l) past small
  where
    by : (es : Postings) → point < head_of es → head_of es < 2 ^ 32 → 1 ≤ count_behind point es
    by [] past small = absurd (omega (arith, small))
    by (p ∷ ps) past small = grind (arith, nat_tests)
behind_some i point _ lone past small = absurd lone

decayed_itself : (s : Shape) (need : ℕ) → IsLone s → decayed need s ≡ s
decayed_itself ended need lone = refl
decayed_itself (leaf l) need lone = refl
decayed_itself _ need lone = absurd lone

-- what it may read alone, being read out or fading
alone_room : (i : Indexed) (point : ℕ) (s : Shape) → IsLone s → (fading_room i point true s ≡ lead_unread i s) × (fading_room i point false s ≡ room_to i point s)
alone_room i point ended lone = (refl, refl)
alone_room i point (leaf l) lone = (refl, refl)
alone_room i point _ lone = absurd lone

-- it goes on alone, being read out
alone_other : (i : Indexed) (greatest point target : ℕ) (s : Shape) → IsLone s → IsFading i greatest true s × MayFade point target true s
alone_other i greatest point target ended lone = (tt, tt)
alone_other i greatest point target (leaf l) lone = (tt, tt)
alone_other i greatest point target _ lone = absurd lone

-- or fading
alone_fading : (i : Indexed) (greatest point target : ℕ) (s : Shape) → IsLone s → greatest_held s ≤ greatest → target ≤ point + 1 → IsFading i greatest false s × MayFade point target false s
alone_fading i greatest point target ended lone bound near = (tt, tt)
alone_fading i greatest point target (leaf l) lone bound near = (bound, near)
alone_fading i greatest point target _ lone bound near = absurd lone

-- ---- a leaf that was moved on

pub moves_same : (i : Indexed) (target spent : ℕ) (t : Top) (s : Shape) → target ≤ t.head → StandsOn i t s → LeafMoves i target spent spent s t s
moves_same i target spent t s up stands = record {
  stands = stands;
  few = omega arith;
  paid = le_refl (spent + lead_unread i s);
  near = λ point le. le_refl (spent + room_to i point s);
  to = λ point. le_refl (room_to i point s);
  behind = λ point. le_refl (entries_behind i point s);
  passed = λ point past lt. absurd (omega (arith, up, stands.at, lt));
  still = λ le. (refl, refl);
  reached = omega (arith, up, stands.at);
  greatest = le_refl (greatest_held s);
}

-- it stood before the target, and nothing of it is wanted
pub moves_gone : (i : Indexed) (target spent : ℕ) (t top : Top) (s : Shape) → t.head < target → target < 2 ^ 32 → StandsOn i t s → top.head ≡ 2 ^ 32 → LeafMoves i target spent spent s top ended
moves_gone i target spent t top s before small stands end = record {
  stands = record { lone = tt; at = end };
  few = omega arith;
  paid = omega arith;
  near = λ point le. omega arith;
  to = λ point. omega arith;
  behind = λ point. omega arith;
  passed = λ point past lt. let some = behind_some i point s stands.lone past (omega (arith, lt, small)) in omega (arith, some);
  still = λ le. absurd (omega (arith, before, stands.at, le));
  reached = omega (arith, small);
  greatest = omega arith;
}

-- nothing was moved
pub moves_ended : (i : Indexed) (target spent : ℕ) (top : Top) → target < 2 ^ 32 → top.head ≡ 2 ^ 32 → LeafMoves i target spent spent ended top ended
moves_ended i target spent top small end = moves_same i target spent top ended (omega (arith, small, end)) (record { lone = tt; at = end })

-- what was put in its place is itself, and its top changed in its greatest alone
pub moves_decayed : (i : Indexed) (target need before after : ℕ) (s : Shape) (t top : Top) (new : Shape) → IsLone s → top.head ≡ t.head → (IsLone (decayed need s) → LeafMoves i target before after (decayed need s) t new) → LeafMoves i target before after s top new
moves_decayed i target need before after s t top new lone same moves =
    let is = decayed_itself s need lone in
    let m = subst (λ (o : Shape). LeafMoves i target before after o t new) is (moves (subst (λ (o : Shape). IsLone o) (sym is) lone)) in
    record {
      stands = record { lone = m.stands.lone; at = same ∙ m.stands.at };
      few = m.few;
      paid = m.paid;
      near = m.near;
      to = m.to;
      behind = m.behind;
      passed = m.passed;
      still = m.still;
      reached = m.reached;
      greatest = m.greatest;
    }

pub moves_leaf : (i : Indexed) (target before after : ℕ) (old new : Leaf) (top : Top) → top.head ≡ head_of (entries_of i new) → Walks i target before after old new
    → ((point : ℕ) → target ≤ point + 1 → after + count_to point (entries_of i new) ≤ before + count_to point (entries_of i old))
    → after + leaf_unread i new ≤ before + leaf_unread i old → new.greatest ≡ old.greatest → LeafMoves i target before after (leaf old) top (leaf new)
moves_leaf i target before after old new top at walks moves paid own = record {
  stands = record { lone = tt; at = at };
  few = walks.few;
  paid = paid;
  near = moves;
  to = walks.to;
  behind = walks.behind;
  passed = walks.passed;
  still = walks.still;
  reached = walks.reached;
  greatest = omega (arith, own);
}

-- ---- a node that was moved on

pub fades_leaf : (i : Indexed) (target before after : ℕ) (old new : Leaf) → ((point : ℕ) → target ≤ point + 1 → after + count_to point (entries_of i new) ≤ before + count_to point (entries_of i old))
    → after + leaf_unread i new ≤ before + leaf_unread i old → new.greatest ≡ old.greatest → (point greatest : ℕ) (first : Bool) → Keeps (fading_account i point greatest first) target before after (leaf old) (leaf new)
fades_leaf i target before after old new moves paid own point greatest true = record { kind = λ h. tt; paid = λ h may. paid }
fades_leaf i target before after old new moves paid own point greatest false = record { kind = λ h. omega (arith, own, h); paid = λ h may. moves point may }

-- ---- what is put in the place of two sides

-- the greatest kept beside a side is no more than its own
top_within : (i : Indexed) (t : Top) (s : Shape) (greatest : ℕ) → IsTop i t s → greatest_held s ≤ greatest → t.greatest ≤ greatest
top_within i t s greatest top own =
    elim (cases_lt t.head (2 ^ 32)) as (λ _. t.greatest ≤ greatest) [
      | inl lt ↦ let sum = top.summed lt in omega (arith, sum, own)
      | inr le ↦ let none = top.closed (omega (arith, le, top.head.within)) in omega (arith, none)
    ]

end_is : (n : ℕ) → (n == 2 ^ 32) ≡ true → n ≡ 2 ^ 32
end_is n e = grind (arith, nat_tests)

end_not : (n : ℕ) → n ≤ 2 ^ 32 → (n == 2 ^ 32) ≡ false → n < 2 ^ 32
end_not n le e = grind (arith, nat_tests)

first_false : (a b : Bool) → (a && b) ≡ false → b ≡ true → a ≡ false
first_false true b e f = absurd (cc)
first_false false b e f = refl

more : (n x y : ℕ) → x ≤ y → n + x ≤ n + y
more n x y le = omega (arith, le)

-- what stands for a node may be sought, and may read no more
abbrev Stands : Indexed → ℕ → ℕ → ℕ → Bool → Shape → Shape → Type 0
Stands i point greatest target first old new = (now : Bool) × (IsFading i greatest now new × (MayFade point target now new × (fading_room i point now new ≤ fading_room i point first old)))

module _ (i : Indexed) (point greatest target need : ℕ) (ta : Top) (a : Shape) (tb : Top) (b : Shape) (top_a : IsTop i ta a) (top_b : IsTop i tb b) (on_a : StandsOn i ta a) (on_b : StandsOn i tb b) (may : MayLeave point greatest target need) where
  abbrev a_ended : Bool
  a_ended = ta.head == 2 ^ 32

  abbrev b_ended : Bool
  b_ended = tb.head == 2 ^ 32

  open_a : a_ended ≡ false → ta.head < 2 ^ 32
  open_a e = end_not ta.head top_a.head.within e

  open_b : b_ended ≡ false → tb.head < 2 ^ 32
  open_b e = end_not tb.head top_b.head.within e

  shut_a : a_ended ≡ true → ta.greatest ≡ 0
  shut_a e = top_a.closed (end_is ta.head e)

  shut_b : b_ended ≡ true → tb.greatest ≡ 0
  shut_b e = top_b.closed (end_is tb.head e)

  -- what is enough of the fading list is sought no further than from behind the point
  near : need ≤ greatest → target ≤ point + 1
  near le = by may
    where
      by : MayLeave point greatest target need → target ≤ point + 1
      by (inl h) = h
      by (inr lt) = absurd (omega (arith, le, lt))

  -- the second side fades
  module _ (bound : greatest_held b ≤ greatest) where
    tb_bound : tb.greatest ≤ greatest
    tb_bound = top_within i tb b greatest top_b bound

    abbrev room : ℕ
    room = both_room i point a b

    first_alone : (form : Form) → Stands i point greatest target true (pair form ta a tb b) a
    first_alone form = let so = alone_other i greatest point target a on_a.lone in let is = (alone_room i point a on_a.lone).0 in (true, (so.0, (so.1, omega (arith, is))))

    second_alone : need ≤ greatest → Stands i point greatest target true (pair Form.Or ta a tb b) b
    second_alone le = let so = alone_fading i greatest point target b on_b.lone bound (near le) in let is = (alone_room i point b on_b.lone).1 in (false, (so.0, (so.1, omega (arith, is))))

    or_second : need ≤ ta.greatest + tb.greatest → Stands i point greatest target true (pair Form.Or ta a tb b) (changed_pair (change_of Form.Or ta.greatest tb.greatest a_ended b_ended need) Form.Or ta a tb b)
    or_second enough =
        let P : Change → Type 0 = λ c. Stands i point greatest target true (pair Form.Or ta a tb b) (changed_pair c Form.Or ta a tb b) in
        if_so P (a_ended && b_ended) _ _ (λ e. (true, (tt, (tt, omega arith))))
        (λ e0. if_so P a_ended _ _ (λ e. let none = shut_a e in second_alone (omega (arith, none, enough, tb_bound)))
        (λ e1. if_so P b_ended _ _ (λ e. first_alone Form.Or)
        (λ e2. if_so P (nat_lt (ta.greatest + tb.greatest) need) _ _ (λ e. (true, (tt, (tt, omega arith))))
        (λ e3. if_so P (nat_lt ta.greatest need && nat_lt tb.greatest need) _ _
        (λ e. let le = following_under point ta.head tb.head room in (true, ((tt, (on_a, (on_b, bound))), ((open_a e1, open_b e2), more (lead_unread i a) (following_room point ta.head tb.head room) (room + 255) le))))
        (λ e4. if_so P (nat_lt tb.greatest need) _ _
        (λ e. let le = following_under point ta.head tb.head room in (true, ((tt, (on_a, (on_b, bound))), ((open_a e1, open_b e2), more (lead_unread i a) (following_room point ta.head tb.head room) (room + 255) le))))
        (λ e5. if_so P (nat_lt ta.greatest need) _ _
        (λ e. (false, ((tt, (on_b, (on_a, bound))), (near (let le = ltb-false tb.greatest need e5 in omega (arith, le, tb_bound)), omega arith))))
        (λ e. (true, ((tt, (on_a, (on_b, bound))), (near (let le = ltb-false tb.greatest need e5 in omega (arith, le, tb_bound)), omega arith))))))))))

    maybe_second : Stands i point greatest target true (pair Form.AndMaybe ta a tb b) (changed_pair (change_of Form.AndMaybe ta.greatest tb.greatest a_ended b_ended need) Form.AndMaybe ta a tb b)
    maybe_second =
        let P : Change → Type 0 = λ c. Stands i point greatest target true (pair Form.AndMaybe ta a tb b) (changed_pair c Form.AndMaybe ta a tb b) in
        if_so P a_ended _ _ (λ e. (true, (tt, (tt, omega arith))))
        (λ e0. if_so P (nat_lt (ta.greatest + tb.greatest) need) _ _ (λ e. (true, (tt, (tt, omega arith))))
        (λ e1. if_so P b_ended _ _ (λ e. first_alone Form.AndMaybe)
        (λ e2. if_so P (nat_lt ta.greatest need) _ _ (λ e. (true, ((tt, (on_a, (on_b, bound))), ((open_a e0, open_b e2), omega arith))))
        (λ e. (true, ((tt, (on_a, (on_b, bound))), ((open_a e0, open_b e2), omega arith)))))))

    both_second : Stands i point greatest target true (pair Form.And ta a tb b) (changed_pair (change_of Form.And ta.greatest tb.greatest a_ended b_ended need) Form.And ta a tb b)
    both_second =
        let P : Change → Type 0 = λ c. Stands i point greatest target true (pair Form.And ta a tb b) (changed_pair c Form.And ta a tb b) in
        if_so P (a_ended || b_ended) _ _ (λ e. (true, (tt, (tt, omega arith))))
        (λ e0. if_so P (nat_lt (ta.greatest + tb.greatest) need) _ _ (λ e. (true, (tt, (tt, omega arith))))
        (λ e. let opened = or_parts a_ended b_ended e0 in (true, ((tt, (on_a, (on_b, bound))), ((open_a opened.0, open_b opened.1), omega arith)))))

  -- the first side fades
  module _ (bound : greatest_held a ≤ greatest) where
    ta_bound : ta.greatest ≤ greatest
    ta_bound = top_within i ta a greatest top_a bound

    abbrev other_room : ℕ
    other_room = both_room i point b a

    alone_first : (form : Form) → need ≤ greatest → fading_room i point false (pair form ta a tb b) ≡ lead_unread i b + (both_room i point b a + 255) → Stands i point greatest target false (pair form ta a tb b) a
    alone_first form le is = let so = alone_fading i greatest point target a on_a.lone bound (near le) in let own = (alone_room i point a on_a.lone).1 in (false, (so.0, (so.1, omega (arith, own, is))))

    alone_second : Stands i point greatest target false (pair Form.Or ta a tb b) b
    alone_second = let so = alone_other i greatest point target b on_b.lone in let own = (alone_room i point b on_b.lone).0 in (true, (so.0, (so.1, omega (arith, own))))

    or_first : need ≤ ta.greatest + tb.greatest → Stands i point greatest target false (pair Form.Or ta a tb b) (changed_pair (change_of Form.Or ta.greatest tb.greatest a_ended b_ended need) Form.Or ta a tb b)
    or_first enough =
        let P : Change → Type 0 = λ c. Stands i point greatest target false (pair Form.Or ta a tb b) (changed_pair c Form.Or ta a tb b) in
        if_so P (a_ended && b_ended) _ _ (λ e. (true, (tt, (tt, omega arith))))
        (λ e0. if_so P a_ended _ _ (λ e. alone_second)
        (λ e1. if_so P b_ended _ _ (λ e. let none = shut_b e in alone_first Form.Or (omega (arith, none, enough, ta_bound)) refl)
        (λ e2. if_so P (nat_lt (ta.greatest + tb.greatest) need) _ _ (λ e. (true, (tt, (tt, omega arith))))
        (λ e3. if_so P (nat_lt ta.greatest need && nat_lt tb.greatest need) _ _
        (λ e. let le = leading_le point tb.head ta.head other_room in (false, ((tt, (on_a, (on_b, bound))), ((open_a e1, open_b e2), more (lead_unread i b) (leading_room point tb.head ta.head other_room) (other_room + 255) le))))
        (λ e4. if_so P (nat_lt tb.greatest need) _ _
        (λ e. (false, ((tt, (on_a, (on_b, bound))), (near (let le = ltb-false ta.greatest need (first_false (nat_lt ta.greatest need) (nat_lt tb.greatest need) e4 e) in omega (arith, le, ta_bound)), omega arith))))
        (λ e5. if_so P (nat_lt ta.greatest need) _ _
        (λ e. let le = following_under point tb.head ta.head other_room in (true, ((tt, (on_b, (on_a, bound))), ((open_b e2, open_a e1), more (lead_unread i b) (following_room point tb.head ta.head other_room) (other_room + 255) le))))
        (λ e. (false, ((tt, (on_a, (on_b, bound))), (near (let le = ltb-false ta.greatest need e in omega (arith, le, ta_bound)), omega arith))))))))))

    maybe_first : Stands i point greatest target false (pair Form.AndMaybe ta a tb b) (changed_pair (change_of Form.AndMaybe ta.greatest tb.greatest a_ended b_ended need) Form.AndMaybe ta a tb b)
    maybe_first =
        let P : Change → Type 0 = λ c. Stands i point greatest target false (pair Form.AndMaybe ta a tb b) (changed_pair c Form.AndMaybe ta a tb b) in
        if_so P a_ended _ _ (λ e. (true, (tt, (tt, omega arith))))
        (λ e0. if_so P (nat_lt (ta.greatest + tb.greatest) need) _ _ (λ e. (true, (tt, (tt, omega arith))))
        (λ e1. if_so P b_ended _ _ (λ e. let none = shut_b e in let le = ltb-false (ta.greatest + tb.greatest) need e1 in alone_first Form.AndMaybe (omega (arith, none, le, ta_bound)) refl)
        (λ e2. if_so P (nat_lt ta.greatest need) _ _ (λ e. let le = leading_le point tb.head ta.head other_room in (false, ((tt, (on_a, (on_b, bound))), ((open_a e0, open_b e2), more (lead_unread i b) (leading_room point tb.head ta.head other_room) (other_room + 255) le))))
        (λ e. (false, ((tt, (on_a, (on_b, bound))), (near (let le = ltb-false ta.greatest need e in omega (arith, le, ta_bound)), omega arith)))))))

    both_first : Stands i point greatest target false (pair Form.And ta a tb b) (changed_pair (change_of Form.And ta.greatest tb.greatest a_ended b_ended need) Form.And ta a tb b)
    both_first =
        let P : Change → Type 0 = λ c. Stands i point greatest target false (pair Form.And ta a tb b) (changed_pair c Form.And ta a tb b) in
        if_so P (a_ended || b_ended) _ _ (λ e. (true, (tt, (tt, omega arith))))
        (λ e0. if_so P (nat_lt (ta.greatest + tb.greatest) need) _ _ (λ e. (true, (tt, (tt, omega arith))))
        (λ e. let opened = or_parts a_ended b_ended e0 in (false, ((tt, (on_a, (on_b, bound))), ((open_a opened.0, open_b opened.1), omega arith)))))

-- the need is no more than the node can weigh
decayed_stands : (i : Indexed) (point greatest target need : ℕ) (first : Bool) (top : Top) (s : Shape) → IsTop i top s → Sound i s → top.head < 2 ^ 32 → need ≤ top.greatest → IsFading i greatest first s → MayLeave point greatest target need
    → Stands i point greatest target first s (decayed need s)
decayed_stands i point greatest target need first top s is sound opened enough h may = by first s (omega (arith, enough, is.summed opened)) sound h
  where
    leaf_near : (l : Leaf) → need ≤ l.greatest → l.greatest ≤ greatest → MayLeave point greatest target need → target ≤ point + 1
    leaf_near l le bound (inl n) = n
    leaf_near l le bound (inr lt) = absurd (omega (arith, le, bound, lt))

    by : (first : Bool) (s : Shape) → need ≤ greatest_held s → Sound i s → IsFading i greatest first s → Stands i point greatest target first s (decayed need s)
    by first ended le sound h = (first, (tt, (tt, omega arith)))
    by true (leaf l) le sound h = (true, (tt, (tt, le_refl (leaf_unread i l))))
    by false (leaf l) le sound h = (false, (h, (leaf_near l le h may, le_refl (count_to point (entries_of i l)))))
    by true (pair Form.Or ta a tb b) le sound h = or_second i point greatest target need ta a tb b sound.first sound.second h.1.0 h.1.1.0 may h.1.1.1 le
    by true (pair Form.AndMaybe ta a tb b) le sound h = maybe_second i point greatest target need ta a tb b sound.first sound.second h.1.0 h.1.1.0 may h.1.1.1
    by true (pair Form.And ta a tb b) le sound h = both_second i point greatest target need ta a tb b sound.first sound.second h.1.0 h.1.1.0 may h.1.1.1
    by false (pair Form.Or ta a tb b) le sound h = or_first i point greatest target need ta a tb b sound.first sound.second h.1.0 h.1.1.0 may h.1.1.1 le
    by false (pair Form.AndMaybe ta a tb b) le sound h = maybe_first i point greatest target need ta a tb b sound.first sound.second h.1.0 h.1.1.0 may h.1.1.1
    by false (pair Form.And ta a tb b) le sound h = both_first i point greatest target need ta a tb b sound.first sound.second h.1.0 h.1.1.0 may h.1.1.1
    by true (pair _ ta a tb b) le sound h = absurd h.0
    by false (pair _ ta a tb b) le sound h = absurd h.0
    by first _ le sound h = absurd h

-- ---- a node under a need

pub under_same : (i : Indexed) (target need spent : ℕ) (s : Shape) → FadesUnder i target need spent spent s s
under_same i target need spent s point greatest first h may = (first, (h, le_refl (spent + fading_room i point first s)))

pub under_gone : (i : Indexed) (target need spent : ℕ) (s : Shape) → FadesUnder i target need spent spent s ended
under_gone i target need spent s point greatest first h may = (first, (tt, omega arith))

-- a leaf that was moved on, and not replaced
pub under_leaf : (i : Indexed) (target need before after : ℕ) (old new : Leaf) (top : Top) (s n : Shape) → s ≡ leaf old → n ≡ leaf new → IsTop i top s → top.head < 2 ^ 32 → need ≤ top.greatest
    → new.greatest ≡ old.greatest → after + leaf_unread i new ≤ before + leaf_unread i old
    → ((point : ℕ) → target ≤ point + 1 → after + count_to point (entries_of i new) ≤ before + count_to point (entries_of i old)) → FadesUnder i target need before after s n
under_leaf i target need before after old new top s n e f is opened enough own paid moves =
    subst (λ (o : Shape). FadesUnder i target need before after o n) (sym e) (subst (λ (o : Shape). FadesUnder i target need before after (leaf old) o) (sym f) by)
  where
    top_is : need ≤ old.greatest
    top_is = let le = (subst (λ (o : Shape). IsTop i top o) e is).summed opened in omega (arith, le, enough)

    near : (point greatest : ℕ) → old.greatest ≤ greatest → MayLeave point greatest target need → target ≤ point + 1
    near point greatest le (inl may) = may
    near point greatest le (inr less) = absurd (omega (arith, le, less, top_is))

    by : FadesUnder i target need before after (leaf old) (leaf new)
    by point greatest true h may = (true, (tt, paid))
    by point greatest false h may = (false, (omega (arith, own, h), moves point (near point greatest h may)))

-- it was replaced, and moved on
pub under_moved : (i : Indexed) (target need before after : ℕ) (top : Top) (s mid new : Shape) → IsTop i top s → Sound i s → top.head < 2 ^ 32 → need ≤ top.greatest → mid ≡ decayed need s → ((point greatest : ℕ) (first : Bool) → Keeps (fading_account i point greatest first) target before after mid new) → FadesUnder i target need before after s new
under_moved i target need before after top s mid new is sound opened enough e fades point greatest first h may =
    let stands = decayed_stands i point greatest target need first top s is sound opened enough h may in
    let keeps = subst (λ (o : Shape). Keeps (fading_account i point greatest stands.0) target before after o new) e (fades point greatest stands.0) in
    let paid : after + fading_room i point stands.0 new ≤ before + fading_room i point stands.0 (decayed need s) = keeps.paid stands.1.0 stands.1.1.0 in
    (stands.0, (keeps.kind stands.1.0, omega (arith, paid, stands.1.1.1)))

-- ---- two sides that are moved on

other_moved : (i : Indexed) (point from before after : ℕ) (t : Top) (s : Shape) (u : Top) (c : Shape) → StandsOn i t s → LeafMoves i from before after s u c
    → OtherMoved point from t.head (lead_unread i s) (entries_behind i point s) u.head (lead_unread i c) (entries_behind i point c) before after
other_moved i point from before after t s u c on m = record {
  paid = m.paid;
  less = m.behind point;
  passed = λ past lt. m.passed point (omega (arith, past, on.at)) (omega (arith, lt, on.at));
  still = λ le. let same = (m.still (omega (arith, le, on.at))).1 in m.stands.at ∙ same ∙ sym on.at;
  reached = omega (arith, m.reached, m.stands.at);
  some = λ past small. behind_some i point s on.lone (omega (arith, past, on.at)) (omega (arith, small, on.at));
  some2 = λ past small. behind_some i point c m.stands.lone (omega (arith, past, m.stands.at)) (omega (arith, small, m.stands.at));
}

fading_moved : (i : Indexed) (point from before after : ℕ) (t : Top) (s : Shape) (u : Top) (c : Shape) → StandsOn i t s → LeafMoves i from before after s u c
    → FadingMoved point from t.head (room_to i point s) u.head (room_to i point c) before after
fading_moved i point from before after t s u c on m = record {
  few = m.few;
  near = λ le. m.near point le;
  less = m.to point;
  still = λ le. let same = m.still (omega (arith, le, on.at)) in (same.0, m.stands.at ∙ same.1 ∙ sym on.at);
  reached = omega (arith, m.reached, m.stands.at);
}

-- How far two sides have come, of which no more than a base may be spent and read: in an and that the fading list leads it may stand before the other's head, from which both go on.
abbrev pub ReadyPair : Indexed → ℕ → Form → Bool → ℕ → ℕ → ℕ → Top → Shape → Top → Shape → Type 0
ReadyPair i point Form.And false from base spent ta a tb b = AreOpen tb.head ta.head × ((left : ℕ) × (Sought point from tb.head ta.head (both_room i point b a) left × (spent + (lead_unread i b + left) ≤ base)))
ReadyPair i point form first from base spent ta a tb b = PairMayFade form first point from ta.head tb.head × (spent + fading_room i point first (pair form ta a tb b) ≤ base)

ready_begun : (i : Indexed) (point target : ℕ) (form : Form) (first : Bool) (spent : ℕ) (ta : Top) (a : Shape) (tb : Top) (b : Shape) → MayFade point target first (pair form ta a tb b)
    → ReadyPair i point form first target (spent + fading_room i point first (pair form ta a tb b)) spent ta a tb b
ready_begun i point target Form.And false spent ta a tb b may =
    ((may.1, may.0), (leading_room point tb.head ta.head (both_room i point b a), (inl refl, le_refl (spent + (lead_unread i b + leading_room point tb.head ta.head (both_room i point b a))))))
ready_begun i point target Form.And true spent ta a tb b may = (may, le_refl (spent + fading_room i point true (pair Form.And ta a tb b)))
ready_begun i point target Form.Or first spent ta a tb b may = (may, le_refl (spent + fading_room i point first (pair Form.Or ta a tb b)))
ready_begun i point target Form.AndMaybe first spent ta a tb b may = (may, le_refl (spent + fading_room i point first (pair Form.AndMaybe ta a tb b)))
ready_begun i point target Form.Xor first spent ta a tb b may = (may, le_refl (spent + fading_room i point first (pair Form.Xor ta a tb b)))
ready_begun i point target Form.Max first spent ta a tb b may = (may, le_refl (spent + fading_room i point first (pair Form.Max ta a tb b)))
ready_begun i point target Form.AndNot first spent ta a tb b may = (may, le_refl (spent + fading_room i point first (pair Form.AndNot ta a tb b)))
ready_begun i point target Form.Filter first spent ta a tb b may = (may, le_refl (spent + fading_room i point first (pair Form.Filter ta a tb b)))

-- what is kept of the sides
sides_fading : (i : Indexed) (greatest : ℕ) (first : Bool) (form : Form) (ta : Top) (a : Shape) (tb : Top) (b : Shape) (ua : Top) (c : Shape) (ub : Top) (d : Shape) → IsFading i greatest first (pair form ta a tb b)
    → StandsOn i ua c → StandsOn i ub d → greatest_held c ≤ greatest_held a → greatest_held d ≤ greatest_held b → IsFading i greatest first (pair form ua c ub d)
sides_fading i greatest true form ta a tb b ua c ub d h on_c on_d less_a less_b = (h.0, (on_c, (on_d, omega (arith, h.1.1.1, less_b))))
sides_fading i greatest false form ta a tb b ua c ub d h on_c on_d less_a less_b = (h.0, (on_c, (on_d, omega (arith, h.1.1.1, less_a))))

sides_stand : (i : Indexed) (greatest : ℕ) (first : Bool) (form : Form) (ta : Top) (a : Shape) (tb : Top) (b : Shape) → IsFading i greatest first (pair form ta a tb b) → IsFadingForm form × (StandsOn i ta a × StandsOn i tb b)
sides_stand i greatest true form ta a tb b h = (h.0, (h.1.0, h.1.1.0))
sides_stand i greatest false form ta a tb b h = (h.0, (h.1.0, h.1.1.0))

-- the first was moved on from where they have come
module _ (i : Indexed) (from before between : ℕ) (ta : Top) (a : Shape) (tb : Top) (b : Shape) (ua : Top) (c : Shape) (one : StandsOn i ta a → LeafMoves i from before between a ua c) where
  half_fading : (greatest : ℕ) (first : Bool) (form : Form) → IsFading i greatest first (pair form ta a tb b) → IsFading i greatest first (pair form ua c tb b)
  half_fading greatest first form h =
      let on = sides_stand i greatest first form ta a tb b h in
      let m = one on.1.0 in
      sides_fading i greatest first form ta a tb b ua c tb b h m.stands on.1.1 m.greatest (le_refl (greatest_held b))

  -- and the form is led, and it has ended
  half_paid : (point base : ℕ) (form : Form) (first : Bool) → IsFadingForm form → StandsOn i ta a → StandsOn i tb b → 2 ^ 32 ≤ second_target form from ua.head → from < 2 ^ 32 → ReadyPair i point form first from base before ta a tb b
      → between + fading_room i point first (pair form ua c tb b) ≤ base
  half_paid point base Form.Or first is on_a on_b end small ready = absurd (omega (arith, end, small))
  half_paid point base Form.And true is on_a on_b end small ready =
      let m = one on_a in
      let gone = followed_gone point ta.head (lead_unread i a) ua.head (lead_unread i c) (entries_behind i point c) tb.head (room_to i point b) before between (entries_behind i point a) end m.paid in
      omega (arith, gone, ready.1)
  half_paid point base Form.AndMaybe true is on_a on_b end small ready =
      let m = one on_a in
      let gone = followed_gone point ta.head (lead_unread i a) ua.head (lead_unread i c) (entries_behind i point c) tb.head (room_to i point b) before between (entries_behind i point a) end m.paid in
      omega (arith, gone, ready.1)
  half_paid point base Form.AndMaybe false is on_a on_b end small ready =
      let m = one on_a in
      let paid = m.near point ready.0 in
      omega (arith, paid, ready.1)
  half_paid point base Form.And false is on_a on_b end small ready =
      let gone = leads_gone point from tb.head (lead_unread i b) ta.head (room_to i point a) ua.head (room_to i point c) (entries_behind i point b) ready.1.0 before between ready.0
      (λ past lt. behind_some i point b on_b.lone (omega (arith, past, on_b.at)) (omega (arith, lt, on_b.at))) (fading_moved i point from before between ta a ua c on_a (one on_a)) end ready.1.1.0 in
      omega (arith, gone, ready.1.1.1)
  half_paid point base Form.Xor first is on_a on_b end small ready = absurd is
  half_paid point base Form.Max first is on_a on_b end small ready = absurd is
  half_paid point base Form.AndNot first is on_a on_b end small ready = absurd is
  half_paid point base Form.Filter first is on_a on_b end small ready = absurd is

  -- and then the second
  module _ (after next : ℕ) (small : next < 2 ^ 32) (ub : Top) (d : Shape) (two : StandsOn i tb b → LeafMoves i next between after b ub d) where
    both_fading : (greatest : ℕ) (first : Bool) (form : Form) → IsFading i greatest first (pair form ta a tb b) → IsFading i greatest first (pair form ua c ub d)
    both_fading greatest first form h =
        let on = sides_stand i greatest first form ta a tb b h in
        let m = one on.1.0 in
        let n = two on.1.1 in
        sides_fading i greatest first form ta a tb b ua c ub d h m.stands n.stands m.greatest n.greatest

    -- the other list leads
    led_paid : (point : ℕ) → StandsOn i ta a → StandsOn i tb b → next ≡ ua.head → AreOpen ta.head tb.head
        → after + (lead_unread i c + following_room point ua.head ub.head (both_room i point c d)) ≤ before + (lead_unread i a + following_room point ta.head tb.head (both_room i point a b))
    led_paid point on_a on_b is opened =
        followed_paid point from ta.head (lead_unread i a) (entries_behind i point a) ua.head (lead_unread i c) (entries_behind i point c) tb.head (room_to i point b) ub.head (room_to i point d) before between after opened.0 opened.1 (omega (arith, small, is))
        (other_moved i point from before between ta a ua c on_a (one on_a))
        (subst (λ n. FadingMoved point n tb.head (room_to i point b) ub.head (room_to i point d) between after) is (fading_moved i point next between after tb b ub d on_b (two on_b)))

    -- the fading list leads
    leading_paid : (point left value : ℕ) → StandsOn i ta a → StandsOn i tb b → next ≡ ua.head → AreOpen tb.head ta.head → Sought point from tb.head ta.head (both_room i point b a) left → Leaves point ub.head ua.head (both_room i point d c) value
        → after + (lead_unread i d + value) ≤ before + (lead_unread i b + left)
    leading_paid point left value on_a on_b is opened sought leaves =
        leads_paid point from tb.head (lead_unread i b) (entries_behind i point b) ub.head (lead_unread i d) (entries_behind i point d) ta.head (room_to i point a) ua.head (room_to i point c) left value before between after opened
        (fading_moved i point from before between ta a ua c on_a (one on_a))
        (subst (λ n. OtherMoved point n tb.head (lead_unread i b) (entries_behind i point b) ub.head (lead_unread i d) (entries_behind i point d) between after) is (other_moved i point next between after tb b ub d on_b (two on_b)))
        leaves sought

    -- where they meet
    both_paid : (point base : ℕ) (form : Form) (first : Bool) (head weight : ℕ) → IsFadingForm form → StandsOn i ta a → StandsOn i tb b → next ≡ second_target form from ua.head → MeetsBoth form ua.head ub.head (Meeting.At head weight)
        → ReadyPair i point form first from base before ta a tb b → after + fading_room i point first (pair form ua c ub d) ≤ base
    both_paid point base Form.Or true head weight f on_a on_b is meets ready =
        let m = one on_a in
        let n = (two on_b).near point (omega (arith, is, ready.0)) in
        omega (arith, m.paid, m.behind point, n, ready.1)
    both_paid point base Form.Or false head weight f on_a on_b is meets ready =
        let m = (one on_a).near point ready.0 in
        let n = two on_b in
        omega (arith, m, n.paid, n.behind point, ready.1)
    both_paid point base Form.AndMaybe false head weight f on_a on_b is meets ready =
        let m = (one on_a).near point ready.0 in
        let n = two on_b in
        omega (arith, m, n.paid, n.behind point, ready.1)
    both_paid point base Form.AndMaybe true head weight f on_a on_b is meets ready = let led = led_paid point on_a on_b is ready.0 in omega (arith, led, ready.1)
    both_paid point base Form.And true head weight f on_a on_b is meets ready = let led = led_paid point on_a on_b is ready.0 in omega (arith, led, ready.1)
    both_paid point base Form.And false head weight f on_a on_b is meets ready =
        let led = leading_paid point ready.1.0 (leading_room point ub.head ua.head (both_room i point d c)) on_a on_b is ready.0 ready.1.1.0 (leaves_met point ub.head ua.head (both_room i point d c) (turned meets)) in
        omega (arith, led, ready.1.1.1)
      where
        turned : (ua.head ≡ ub.head) ⊎ (2 ^ 32 ≤ ub.head) → (ub.head ≡ ua.head) ⊎ (2 ^ 32 ≤ ub.head)
        turned (inl e) = inl (sym e)
        turned (inr end) = inr end
    both_paid point base Form.Xor first head weight f on_a on_b is meets ready = absurd f
    both_paid point base Form.Max first head weight f on_a on_b is meets ready = absurd f
    both_paid point base Form.AndNot first head weight f on_a on_b is meets ready = absurd f
    both_paid point base Form.Filter first head weight f on_a on_b is meets ready = absurd f

    -- where they go on
    both_on : (point base : ℕ) (form : Form) (first : Bool) (further : ℕ) → IsFadingForm form → StandsOn i ta a → StandsOn i tb b → next ≡ second_target form from ua.head → GoesOnOnly form (Meeting.Behind further)
        → MeetsBoth form ua.head ub.head (Meeting.Behind further) → ReadyPair i point form first from base before ta a tb b → ReadyPair i point form first further base after ua c ub d
    both_on point base Form.Or first further f on_a on_b is on meets ready = absurd on
    both_on point base Form.AndMaybe first further f on_a on_b is on meets ready = absurd on
    both_on point base Form.And true further f on_a on_b is on meets ready =
        let led = led_paid point on_a on_b is ready.0 in
        ((omega (arith, small, is), meets.1.1), omega (arith, led, ready.1))
    both_on point base Form.And false further f on_a on_b is on meets ready =
        let to = leaves_on point ub.head ua.head (both_room i point d c) meets.1.0 in
        let led = leading_paid point ready.1.0 to.0 on_a on_b is ready.0 ready.1.1.0 to.1.1 in
        ((meets.1.1, omega (arith, small, is)), (to.0, (subst (λ n. Sought point n ub.head ua.head (both_room i point d c) to.0) (sym meets.0) to.1.0, omega (arith, led, ready.1.1.1))))
    both_on point base Form.Xor first further f on_a on_b is on meets ready = absurd f
    both_on point base Form.Max first further f on_a on_b is on meets ready = absurd f
    both_on point base Form.AndNot first further f on_a on_b is on meets ready = absurd f
    both_on point base Form.Filter first further f on_a on_b is on meets ready = absurd f

-- ---- two sides, how far they have come

pub record FadesSoFar (i : Indexed) (form : Form) (target from before spent : ℕ) (ta0 : Top) (a0 : Shape) (tb0 : Top) (b0 : Shape) (ta : Top) (a : Shape) (tb : Top) (b : Shape) : Type 0 where
  pub fading : (greatest : ℕ) (first : Bool) → IsFading i greatest first (pair form ta0 a0 tb0 b0) → IsFading i greatest first (pair form ta a tb b)
  pub ready : (point greatest : ℕ) (first : Bool) → IsFading i greatest first (pair form ta0 a0 tb0 b0) → MayFade point target first (pair form ta0 a0 tb0 b0)
      → ReadyPair i point form first from (before + fading_room i point first (pair form ta0 a0 tb0 b0)) spent ta a tb b

pub fades_begun : (i : Indexed) (form : Form) (target spent : ℕ) (ta : Top) (a : Shape) (tb : Top) (b : Shape) → FadesSoFar i form target target spent spent ta a tb b ta a tb b
fades_begun i form target spent ta a tb b = record {
  fading = λ greatest first h. h;
  ready = λ point greatest first h may. ready_begun i point target form first spent ta a tb b may;
}

module _ (i : Indexed) (form : Form) (target from before spent between : ℕ) (ta0 : Top) (a0 : Shape) (tb0 : Top) (b0 : Shape) (ta : Top) (a : Shape) (tb : Top) (b : Shape) (ua : Top) (c : Shape)
    (far : FadesSoFar i form target from before spent ta0 a0 tb0 b0 ta a tb b) (one : StandsOn i ta a → LeafMoves i from spent between a ua c) where
  -- the first side alone, where the form is led and it has ended
  pub fades_half : 2 ^ 32 ≤ second_target form from ua.head → from < 2 ^ 32 → (point greatest : ℕ) (first : Bool) → Keeps (fading_account i point greatest first) target before between (pair form ta0 a0 tb0 b0) (pair form ua c tb b)
  fades_half end small point greatest first = record {
    kind = λ h. half_fading i from spent between ta a tb b ua c one greatest first form (far.fading greatest first h);
    paid = λ h may.
        let on = sides_stand i greatest first form ta a tb b (far.fading greatest first h) in
        half_paid i from spent between ta a tb b ua c one point (before + fading_room i point first (pair form ta0 a0 tb0 b0)) form first on.0 on.1.0 on.1.1 end small (far.ready point greatest first h may);
  }

  module _ (after next : ℕ) (small : next < 2 ^ 32) (ub : Top) (d : Shape) (is : next ≡ second_target form from ua.head) (two : StandsOn i tb b → LeafMoves i next between after b ub d) where
    pub fades_both : (head weight : ℕ) → MeetsBoth form ua.head ub.head (Meeting.At head weight) → (point greatest : ℕ) (first : Bool) → Keeps (fading_account i point greatest first) target before after (pair form ta0 a0 tb0 b0) (pair form ua c ub d)
    fades_both head weight meets point greatest first = record {
      kind = λ h. both_fading i from spent between ta a tb b ua c one after next small ub d two greatest first form (far.fading greatest first h);
      paid = λ h may.
          let on = sides_stand i greatest first form ta a tb b (far.fading greatest first h) in
          both_paid i from spent between ta a tb b ua c one after next small ub d two point (before + fading_room i point first (pair form ta0 a0 tb0 b0)) form first head weight on.0 on.1.0 on.1.1 is meets (far.ready point greatest first h may);
    }

    pub fades_on : (further : ℕ) → GoesOnOnly form (Meeting.Behind further) → MeetsBoth form ua.head ub.head (Meeting.Behind further) → FadesSoFar i form target further before after ta0 a0 tb0 b0 ua c ub d
    fades_on further on meets = record {
      fading = λ greatest first h. both_fading i from spent between ta a tb b ua c one after next small ub d two greatest first form (far.fading greatest first h);
      ready = λ point greatest first h may.
          let stand = sides_stand i greatest first form ta a tb b (far.fading greatest first h) in
          both_on i from spent between ta a tb b ua c one after next small ub d two point (before + fading_room i point first (pair form ta0 a0 tb0 b0)) form first further stand.0 stand.1.0 stand.1.1 is on meets (far.ready point greatest first h may);
    }
