-- What a tree still gives, as a list.
use Rattle.std.proofs.Common.{◌≡◌, ◌≤◌, ◌<◌, ◌+◌, ◌^◌, ◌⊎◌, ℕ, Bool, [], ◌∷◌, inl, inr, refl, sym, subst, ap, ◌∙◌, arith, le_refl, List, Option, None, Some}
use Rattle.std.proofs.lemmas.Bool.{cases_lt, cases_eq}
use Rattle.sk_index.specs.Indexed.{Indexed}
use Rattle.sk_nodes.specs.declared.top.Top.{Top}
use Rattle.sk_nodes.specs.Shapes.{Shape, ended, leaf, pair, range, xor_many, or_many, positional, synonym, Sides, no_sides, side}
use Rattle.sk_nodes.specs.Sound.{IsTop, Sound, AreSound}
use Rattle.sk_nodes.specs.Flat.{room_to, IsFlat, IsPlain}
use Rattle.sk_nodes.specs.Fading.{fading_room, IsFading}
use Rattle.std.specs.List.{cons_option}
use Rattle.std.specs.Option.{option_map}
use Rattle.sk_base.specs.Numbers.{Docs}
use Rattle.sk_sorted.specs.Entries.{RiseAbove, AreSorted, from, first_id}
use Rattle.sk_sorted.proofs.EntryLaws.{from-below, from-at, found-here, found-other, found-below}
use Rattle.sk_model.specs.Documents.{Document}
use Rattle.sk_model.specs.Edits.{document_at}
use Rattle.sk_model.specs.Combining.{sum_of_any, where_so}
use Rattle.sk_model.specs.Weights.{weigh_by}
use Rattle.sk_model.specs.Covers.{Covers}
use Rattle.sk_model.proofs.CoverLaws.{covers_exactly}
use Rattle.sk_decay.specs.Heads.{IsHead, NoneBelow}
use Rattle.sk_decay.proofs.SideLaws.{paired-none}
use Rattle.sk_decay.specs.Sides.{paired}
use Rattle.sk_nodes.specs.Proximity.{holds_in}
use Rattle.sk_nodes.specs.Left.{rest, rests, from_on}
use Rattle.sk_tree.specs.Built.{weighed_ids, first_weight}
use Rattle.sk_nodes.proofs.LeafLaws.{from_on-at, from_on-below}
use Rattle.sk_nodes.proofs.NodeLaws.{IsHead-none}
use Rattle.sk_nodes.proofs.ManyLaws.{either_none, none_xor}
use Rattle.sk_nodes.proofs.ProximityLaws.{where_none}
use Rattle.sk_nodes.specs.Led.{led_room, IsAtLead, IsLed}
use Rattle.sk_nodes.specs.Moved.{Accounts, flat_to, plain_to}
use Rattle.sk_tree.specs.Stops.{MayMove}
use Rattle.sk_nodes.proofs.StopLaws.{may_target, flat-mono}

-- ---- a tree that has ended

pub fades_closed : (i : Indexed) (old new : Shape) (point greatest most spent : ℕ) (first : Bool) → new ≡ ended → spent + fading_room i point first old ≤ most → IsFading i greatest first new × (spent + fading_room i point first new ≤ most)
fades_closed i old new point greatest most spent first is account =
    let none : fading_room i point first new ≡ 0 = ap (fading_room i point first) is in
    (subst (λ (s : Shape). IsFading i greatest first s) (sym is) tt, omega (arith, none, account))

-- where nothing is given nothing is left
pub weighed_ids-none : (f : ℕ → Option ℕ) (docs : Docs) → ((id : ℕ) → f id ≡ None) → weighed_ids (λ one. f one.0) docs ≡ []
weighed_ids-none f [] none = refl
weighed_ids-none f (one ∷ more) none = ap (λ (o : Option ℕ). cons_option (option_map (λ w. (one.0, w)) o) (weighed_ids (λ one. f one.0) more)) (none one.0) ∙ weighed_ids-none f more none

-- what gives the same leaves the same
pub weighed_ids-same : (f g : ℕ × Document → Option ℕ) (docs : Docs) → ((one : ℕ × Document) → f one ≡ g one) → weighed_ids f docs ≡ weighed_ids g docs
weighed_ids-same f g [] same = refl
weighed_ids-same f g (one ∷ more) same = λ i. cons_option (option_map (λ w. (one.0, w)) (same one i)) (weighed_ids-same f g more same i)

-- behind an id nothing lies below it
same_above : (target low : ℕ) (f : ℕ → Option ℕ) (docs : Docs) → RiseAbove low docs → target ≤ low + 1 → weighed_ids (λ one. from_on target f one.0) docs ≡ weighed_ids (λ one. f one.0) docs
same_above target low f [] up le = refl
same_above target low f (one ∷ more) up le =
    λ i. cons_option (option_map (λ w. (one.0, w)) (from_on-at target f one.0 (omega (arith, up.0, le)) i)) (same_above target one.0 f more up.1 (omega (arith, up.0, le)) i)

-- from an id on: what lies below is left out
pub weighed_ids-from : (target low : ℕ) (f : ℕ → Option ℕ) (docs : Docs) → RiseAbove low docs → weighed_ids (λ one. from_on target f one.0) docs ≡ from target (weighed_ids (λ one. f one.0) docs)
weighed_ids-from target low f [] up = refl
weighed_ids-from target low f (one ∷ more) up =
    elim (cases_lt one.0 target) as (λ _. weighed_ids (λ one. from_on target f one.0) (one ∷ more) ≡ from target (weighed_ids (λ one. f one.0) (one ∷ more))) [
      | inl lt ↦
          ap (λ (o : Option ℕ). cons_option (option_map (λ w. (one.0, w)) o) (weighed_ids (λ one. from_on target f one.0) more)) (from_on-below target f one.0 lt)
          ∙ weighed_ids-from target one.0 f more up.1 ∙ before (f one.0) lt
      | inr le ↦
          ap (λ (o : Option ℕ). cons_option (option_map (λ w. (one.0, w)) o) (weighed_ids (λ one. from_on target f one.0) more)) (from_on-at target f one.0 le)
          ∙ behind (f one.0) le (weighed_ids-from target one.0 f more up.1) (same_above target one.0 f more up.1 (omega (arith, le)))
    ]
  where
    before : (o : Option ℕ) → one.0 < target → from target (weighed_ids (λ one. f one.0) more) ≡ from target (cons_option (option_map (λ w. (one.0, w)) o) (weighed_ids (λ one. f one.0) more))
    before None lt = refl
    before (Some w) lt = sym (from-below target (one.0, w) (weighed_ids (λ one. f one.0) more) lt)

    behind : (o : Option ℕ) → target ≤ one.0 → weighed_ids (λ one. from_on target f one.0) more ≡ from target (weighed_ids (λ one. f one.0) more)
        → weighed_ids (λ one. from_on target f one.0) more ≡ weighed_ids (λ one. f one.0) more
        → cons_option (option_map (λ w. (one.0, w)) o) (weighed_ids (λ one. from_on target f one.0) more) ≡ from target (cons_option (option_map (λ w. (one.0, w)) o) (weighed_ids (λ one. f one.0) more))
    behind None le rest same = rest
    behind (Some w) le rest same = ap (λ (es : List (ℕ × ℕ)). (one.0, w) ∷ es) same ∙ sym (from-at target (one.0, w) (weighed_ids (λ one. f one.0) more) le)

-- ---- the head

mutual
  -- a document that is given is live
  pub rest-live : (i : Indexed) (s : Shape) → Sound i s → (id : ℕ) → document_at id i.live.documents ≡ None → rest i s id ≡ None
  rest-live i ended sound id none = refl
  rest-live i (leaf l) sound id none = sound.live id none
  rest-live i (range r) sound id none = sound.live id none
  rest-live i (pair form ta a tb b) sound id none =
      ap (λ o. paired form o (rest i b id)) (rest-live i a sound.first_sound id none) ∙ ap (paired form None) (rest-live i b sound.second_sound id none) ∙ paired-none form
  rest-live i (xor_many ss) sound id none = none_xor (rests i ss id) (rests-live i ss sound.sides id none)
  rest-live i (or_many ss) sound id none = rests-live i ss sound.sides id none
  rest-live i (positional p t s) sound id none = ap (where_so (holds_in i p id)) (rest-live i s sound.sound id none) ∙ where_none (holds_in i p id)
  rest-live i (synonym scheme factor t s) sound id none = ap (option_map (weigh_by factor scheme)) (rest-live i s sound.sound id none)

  rests-live : (i : Indexed) (ss : Sides) → AreSound i ss → (id : ℕ) → document_at id i.live.documents ≡ None → sum_of_any (rests i ss id) ≡ None
  rests-live i no_sides sound id none = refl
  rests-live i (side t s ss) sound id none = either_none (rest i s id) (sum_of_any (rests i ss id)) (rest-live i s sound.sound id none) (rests-live i ss sound.others id none)

some_none : (o : Option ℕ) (w : ℕ) → o ≡ Some w → o ≡ None → ⊥
some_none o w e f = cc

-- the list begins so
abbrev pub Begins : ℕ → ℕ → List (ℕ × ℕ) → Type 0
Begins head weight es = (first_id es ≡ Some head) × (first_weight es ≡ weight)

-- the first that is left is the head, with its weight
pub first_left : (head weight low : ℕ) (f : ℕ → Option ℕ) (docs : Docs) → RiseAbove low docs → NoneBelow head f → f head ≡ Some weight → (document_at head docs ≡ None → ⊥)
    → Begins head weight (weighed_ids (λ one. f one.0) docs)
first_left head weight low f [] up below at there = absurd (there refl)
first_left head weight low f (one ∷ more) up below at there =
    elim (cases_eq one.0 head) as (λ _. Begins head weight (cons_option (option_map (λ w. (one.0, w)) (f one.0)) (weighed_ids (λ one. f one.0) more))) [
      | inl same ↦
          subst (λ (o : Option ℕ). Begins head weight (cons_option (option_map (λ w. (one.0, w)) o) (weighed_ids (λ one. f one.0) more))) (sym (ap f same ∙ at)) (ap Some same, refl)
      | inr other ↦
          elim (cases_lt one.0 head) as (λ _. Begins head weight (cons_option (option_map (λ w. (one.0, w)) (f one.0)) (weighed_ids (λ one. f one.0) more))) [
            | inl before ↦
                subst (λ (o : Option ℕ). Begins head weight (cons_option (option_map (λ w. (one.0, w)) o) (weighed_ids (λ one. f one.0) more))) (sym (below one.0 before))
                (first_left head weight one.0 f more up.1 below at (λ none. there (found-other head one more other ∙ none)))
            | inr behind ↦ absurd (there (found-below head head (one ∷ more) (le_refl head) (omega (arith, behind, other), up.1)))
          ]
    ]

-- the head of a top is the first that is left
pub top_left : (i : Indexed) (t : Top) (s : Shape) → IsTop i t s → Sound i s → AreSorted i.live.documents → t.head < 2 ^ 32
    → Begins t.head t.weight (weighed_ids (λ one. rest i s one.0) i.live.documents)
top_left i t s top sound sorted lt =
    first_left t.head t.weight 0 (rest i s) i.live.documents sorted.rise top.head.below (top.head.at lt) (λ none. some_none (rest i s t.head) t.weight (top.head.at lt) (rest-live i s sound t.head none))

-- an ended top leaves nothing
pub top_ended : (i : Indexed) (t : Top) (s : Shape) → IsTop i t s → 2 ^ 32 ≤ t.head → (weighed_ids (λ one. rest i s one.0) i.live.documents ≡ []) × (t.weight ≡ 0)
top_ended i t s top le = (
  weighed_ids-none (rest i s) i.live.documents (λ id. IsHead-none t.weight id (rest i s) (subst (λ h. IsHead h t.weight (rest i s)) at_end top.head)),
  top.head.ended at_end,
)
  where
    at_end : t.head ≡ 2 ^ 32
    at_end = omega (arith, le, top.head.within)

-- without a need just what lies below the target is left out
pub left_exact : (i : Indexed) (target : ℕ) (old new : Shape) → AreSorted i.live.documents → Covers (from_on target (rest i old)) (rest i new) 0
    → weighed_ids (λ one. rest i new one.0) i.live.documents ≡ from target (weighed_ids (λ one. rest i old one.0) i.live.documents)
left_exact i target old new sorted covers =
    weighed_ids-same (λ one. rest i new one.0) (λ one. from_on target (rest i old) one.0) i.live.documents (λ one. covers_exactly (from_on target (rest i old) one.0) (rest i new one.0) (covers one.0))
    ∙ weighed_ids-from target 0 (rest i old) i.live.documents sorted.rise

-- what gives the scores of documents leaves them
pub weighed_ids-scored : (f : ℕ → Option ℕ) (g : Option Document → Option ℕ) (low : ℕ) (docs : Docs) → RiseAbove low docs → ((id : ℕ) → low < id → f id ≡ g (document_at id docs))
    → weighed_ids (λ one. f one.0) docs ≡ weighed_ids (λ one. g (Some one.1)) docs
weighed_ids-scored f g low [] up same = refl
weighed_ids-scored f g low (one ∷ more) up same =
    λ i. cons_option (option_map (λ w. (one.0, w)) ((same one.0 up.0 ∙ ap g (found-here one.0 one more refl)) i))
    (weighed_ids-scored f g one.0 more up.1 (λ id lt. same id (omega (arith, lt, up.0)) ∙ ap g (found-other id one more (λ e. omega (arith, e, lt)))) i)

-- ---- a tree that has ended

pub rare_closed : (i : Indexed) (top : Top) (old new : Shape) (spent most : ℕ) → new ≡ ended → top.head ≡ 2 ^ 32 → spent + led_room i old ≤ most → IsLed i new × (IsAtLead i top new × (spent + led_room i new ≤ most))
rare_closed i top old new spent most is head account =
    let none : led_room i new ≡ 0 = ap (led_room i) is in
    (subst (λ (s : Shape). IsLed i s) (sym is) tt, (inr head, omega (arith, none, account)))

-- ---- a tree

-- one that was sought
pub stops_sought : (i : Indexed) (old new : Shape) (last need target point most before after ceiling : ℕ) → last ≤ need → need ≤ ceiling → target < 2 ^ 32 → Accounts i target need before after old new
    → IsFlat last old ⊎ IsPlain old → before + room_to i point old ≤ most → MayMove point target need ceiling (rest i old point)
    → (IsFlat need new ⊎ IsPlain new) × (after + room_to i point new ≤ most)
stops_sought i old new last need target point most before after ceiling rising enough lt accounts shape account (inl high) = absurd (omega (arith, enough, high))
stops_sought i old new last need target point most before after ceiling rising enough lt accounts (inl flat) account (inr may) =
    let keeps = accounts.keeps (flat_to point) in
    let now = flat-mono old last need rising flat in
    let paid : after + room_to i point new ≤ before + room_to i point old = keeps.paid now may in
    (inl (keeps.kind now), omega (arith, paid, account))
stops_sought i old new last need target point most before after ceiling rising enough lt accounts (inr plain) account (inr may) =
    let keeps = accounts.keeps (plain_to point) in
    let paid : after + room_to i point new ≤ before + room_to i point old = keeps.paid plain (may_target point target need (rest i old point) lt may) in
    (inr (keeps.kind plain), omega (arith, paid, account))

-- one that has ended
pub stops_closed : (i : Indexed) (old new : Shape) (need point most spent : ℕ) → new ≡ ended → spent + room_to i point old ≤ most → (IsFlat need new ⊎ IsPlain new) × (spent + room_to i point new ≤ most)
stops_closed i old new need point most spent is account =
    let none : room_to i point new ≡ 0 = ap (room_to i point) is in
    (inl (subst (λ (s : Shape). IsFlat need s) (sym is) tt), omega (arith, none, account))
