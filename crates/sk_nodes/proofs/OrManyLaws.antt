-- The sides of an or of many sides: what they give together, and what they may still read up to a point.
use Rattle.std.proofs.Common.{◌≡◌, ◌≤◌, ◌<◌, ◌+◌, ◌^◌, ℕ, List, ◌∷◌, Option, None, Some, unwrap_or, inl, inr, refl, sym, subst, ap, ◌∙◌, arith, le_refl}
use Rattle.std.proofs.lemmas.Bool.{cases_lt}
use Rattle.sk_query.specs.declared.form.Form.{Form}
use Rattle.sk_model.specs.Combining.{either, sum_of_any, combined}
use Rattle.sk_model.specs.Covers.{CoversAt, Covers}
use Rattle.sk_model.proofs.CombiningLaws.{either-apart}
use Rattle.sk_model.proofs.CoverLaws.{covers_itself, covers_exactly}
use Rattle.sk_index.specs.Indexed.{Indexed}
use Rattle.sk_decay.specs.Heads.{IsHead, NoneBelow}
use Rattle.sk_nodes.specs.declared.top.Top.{Top}
use Rattle.sk_nodes.specs.Shapes.{Shape, ended, or_many, Sides, no_sides, side, size_of, sizes_in}
use Rattle.sk_nodes.specs.Left.{rest, rests, from_on, unread_of, unread_in, greatest_sum}
use Rattle.sk_nodes.specs.Sound.{IsTop, IsMany, Sound, AreSound, Lands}
use Rattle.sk_nodes.specs.Many.{AreSought, followed_by}
use Rattle.sk_nodes.specs.Flat.{room_to, rooms_to, IsFlat, AreFlat, AreNests, MayGo}
use Rattle.sk_nodes.specs.Led.{follow_room, follow_rooms}
use Rattle.sk_nodes.specs.Accounts.{Keeps}
use Rattle.sk_nodes.specs.Moved.{Kind, flat_to, plain_to, with_lead, lone_behind, nest_behind, account_of, Accounts, WasSought}
use Rattle.sk_nodes.specs.OrMany.{AreKept, AreMoved, HaveLed, AreWeighed, AreEnded}
use Rattle.sk_nodes.specs.Skips.{WeighsBelow}
use Rattle.sk_nodes.proofs.LeafLaws.{from_on-at, from_cases}
use Rattle.sk_nodes.proofs.NodeLaws.{IsHead-none, ended_top, none_bound}
use Rattle.sk_nodes.proofs.ManyLaws.{either_none, either_first, either_second, either_both, sum_bound, none_below, same_from}
use Rattle.sk_nodes.proofs.AccountLaws.{keeps_other}
use Rattle.sk_nodes.proofs.StopLaws.{may_target}
use Rattle.sk_nodes.proofs.BlockLaws.{light_enough}

-- ---- the top of an or of many sides

pub or_top : (i : Indexed) (ss : Sides) (t : Top) → AreSound i ss → IsHead t.head t.weight (rest i (or_many ss))
    → (t.head < 2 ^ 32 → t.greatest ≡ greatest_sum ss) → (t.head ≡ 2 ^ 32 → t.greatest ≡ 0) → IsTop i t (or_many ss)
or_top i ss t sound h exact closed = record {
  head = h;
  bound = λ id. elim (cases_lt t.head (2 ^ 32)) as (λ _. unwrap_or (rest i (or_many ss) id) 0 ≤ t.greatest) [
    | inl lt ↦ subst (λ g. unwrap_or (rest i (or_many ss) id) 0 ≤ g) (sym (exact lt)) (sum_bound i ss id sound)
    | inr le ↦ none_bound (rest i (or_many ss) id) t.greatest
        (IsHead-none t.weight id (rest i (or_many ss)) (subst (λ n. IsHead n t.weight (rest i (or_many ss))) (at_end le h.within) h))
  ];
  summed = λ lt. omega (arith, exact lt);
  closed = closed;
}
  where
    at_end : 2 ^ 32 ≤ t.head → t.head ≤ 2 ^ 32 → t.head ≡ 2 ^ 32
    at_end p q = omega (arith, p, q)

-- all sides sought
pub or_covers : (i : Indexed) (target need : ℕ) (ss rs : Sides) → AreSought i target ss rs → Covers (from_on target (rest i (or_many ss))) (rest i (or_many rs)) need
or_covers i target need ss rs sought = λ id.
    from_cases target (rest i (or_many ss)) id (rest i (or_many rs) id) need
    (λ le. subst (λ (xs : List (Option ℕ)). CoversAt (combined Form.Or (rests i ss id)) (combined Form.Or xs) need) (sym (same_from i target ss rs id sought le)) (covers_itself (combined Form.Or (rests i ss id)) need))
    (λ lt. none_below i target ss rs id sought lt)

-- ---- where sides begin together

module _ (f g : ℕ → Option ℕ) (h v k w : ℕ) (some : IsHead h v f) (others : IsHead k w g) where
  -- the others begin before
  pub head_second : k < h → IsHead k w (λ id. either (f id) (g id))
  head_second lt = record {
    within = others.within;
    below = λ id less. either_none (f id) (g id) (some.below id (omega (arith, less, lt))) (others.below id less);
    at = λ there. either_second (f k) (g k) (some.below k lt) ∙ others.at there;
    past = λ id le. either_none (f id) (g id) (some.past id le) (others.past id le);
    ended = others.ended;
  }

  -- the others begin behind
  pub head_first : h < k → IsHead h v (λ id. either (f id) (g id))
  head_first lt = record {
    within = some.within;
    below = λ id less. either_none (f id) (g id) (some.below id less) (others.below id (omega (arith, less, lt)));
    at = λ there. either_first (f h) (g h) v (some.at there) (others.below h lt);
    past = λ id le. either_none (f id) (g id) (some.past id le) (others.past id le);
    ended = some.ended;
  }

  -- both begin there
  pub head_both : h ≡ k → IsHead h (v + w) (λ id. either (f id) (g id))
  head_both same = record {
    within = some.within;
    below = λ id less. either_none (f id) (g id) (some.below id less) (others.below id (omega (arith, less, same)));
    at = λ there. either_both (f h) (g h) v w (some.at there) (ap g same ∙ others.at (omega (arith, there, same)));
    past = λ id le. either_none (f id) (g id) (some.past id le) (others.past id le);
    ended = λ end. let first = some.ended end in let second = others.ended (sym same ∙ end) in omega (arith, first, second);
  }

head_along : (f g : ℕ → Option ℕ) (h w : ℕ) → ((id : ℕ) → g id ≡ f id) → IsHead h w f → IsHead h w g
head_along f g h w same head = record {
  within = head.within;
  below = λ id lt. same id ∙ head.below id lt;
  at = λ there. same h ∙ head.at there;
  past = λ id le. same id ∙ head.past id le;
  ended = head.ended;
}

none_more : (a : Option ℕ) → either a None ≡ a
none_more None = refl
none_more (Some v) = refl

-- no more sides
pub first_end : (f : ℕ → Option ℕ) (h w : ℕ) → IsHead h w f → IsHead h w (λ id. either (f id) None)
first_end f h w head = head_along f (λ id. either (f id) None) h w (λ id. none_more (f id)) head

module _ (i : Indexed) (f : ℕ → Option ℕ) (h v : ℕ) (t : Top) (s : Shape) (ss : Sides) (head weight : ℕ) (top : IsTop i t s) (others : IsHead h v f) where
  -- one side put to the others, and the sides behind it
  moved : IsHead head weight (λ id. either (either (f id) (rest i s id)) (sum_of_any (rests i ss id))) → IsHead head weight (λ id. either (f id) (sum_of_any (rests i (side t s ss) id)))
  moved h = head_along (λ id. either (either (f id) (rest i s id)) (sum_of_any (rests i ss id))) (λ id. either (f id) (sum_of_any (rests i (side t s ss) id))) head weight
      (λ id. sym (either-apart (f id) (rest i s id) (sum_of_any (rests i ss id)))) h

  pub first_before : t.head < h → ((g : ℕ → Option ℕ) → IsHead t.head t.weight g → IsHead head weight (λ id. either (g id) (sum_of_any (rests i ss id)))) → IsHead head weight (λ id. either (f id) (sum_of_any (rests i (side t s ss) id)))
  first_before lt more = moved (more (λ id. either (f id) (rest i s id)) (head_second f (rest i s) h v t.head t.weight others top.head lt))

  pub first_behind : h < t.head → ((g : ℕ → Option ℕ) → IsHead h v g → IsHead head weight (λ id. either (g id) (sum_of_any (rests i ss id)))) → IsHead head weight (λ id. either (f id) (sum_of_any (rests i (side t s ss) id)))
  first_behind lt more = moved (more (λ id. either (f id) (rest i s id)) (head_first f (rest i s) h v t.head t.weight others top.head lt))

  pub first_with : h ≡ t.head → ((g : ℕ → Option ℕ) → IsHead h (v + t.weight) g → IsHead head weight (λ id. either (g id) (sum_of_any (rests i ss id)))) → IsHead head weight (λ id. either (f id) (sum_of_any (rests i (side t s ss) id)))
  first_with same more = moved (more (λ id. either (f id) (rest i s id)) (head_both f (rest i s) h v t.head t.weight others top.head same))

pub none_head : IsHead (2 ^ 32) 0 (λ id. None)
none_head = record { within = le_refl (2 ^ 32); below = λ id lt. refl; at = λ lt. absurd (omega (arith, lt)); past = λ id le. refl; ended = λ same. refl }

-- ---- what sides may still read up to a point

pub kept_same : (i : Indexed) (target spent : ℕ) (ss : Sides) → AreKept i target spent spent ss ss
kept_same i target spent ss = record {
  flat = λ flat. flat;
  paid = λ point flat near. le_refl (spent + rooms_to i point ss);
  nests = λ nests. nests;
  nests_paid = λ head unread following nests. le_refl (spent + follow_rooms i head unread ss);
}

-- one side, and the others
pub kept_first : (i : Indexed) (target before between after : ℕ) (t : Top) (s : Shape) (ss : Sides) (u : Top) (r : Shape) (rs : Sides)
    → Accounts i target 0 before between s r → AreKept i target between after ss rs → AreKept i target before after (side t s ss) (side u r rs)
kept_first i target before between after t s ss u r rs first others = record {
  flat = λ flat. ((first.keeps (flat_to 0)).kind flat.0, others.flat flat.1);
  paid = λ point flat near.
      let one : between + room_to i point r ≤ before + room_to i point s = (first.keeps (flat_to point)).paid flat.0 (inr (inl (refl, near))) in
      let more = others.paid point flat.1 near in
      omega (arith, one, more);
  nests = λ nests. (((first.keeps (nest_behind 0 0)).kind (refl, nests.0)).1, others.nests nests.1);
  nests_paid = λ head unread following nests.
      let one : between + follow_room i head unread r ≤ before + follow_room i head unread s = (first.keeps (nest_behind head unread)).paid (refl, nests.0) following in
      let more = others.nests_paid head unread following nests.1 in
      omega (arith, one, more);
}

-- the same of all that is kept of them
pub moved_first : (i : Indexed) (target before between after steps more : ℕ) (t : Top) (s : Shape) (ss : Sides) (u : Top) (r : Shape) (rs : Sides)
    → WasSought i target 0 t.greatest before between steps more s r u → Accounts i target 0 before between s r → AreMoved i target between after ss rs → AreMoved i target before after (side t s ss) (side u r rs)
moved_first i target before between after steps more t s ss u r rs sought accounts others = record {
  sound = record { top = sought.lands.top; sound = sought.lands.sound; others = others.sound };
  falls = omega (arith, sought.falls, others.falls);
  smaller = omega (arith, sought.smaller, others.smaller);
  kept = kept_first i target before between after t s ss u r rs accounts others.kept;
}

pub rooms_behind : (i : Indexed) (point : ℕ) (ss rs : Sides) → rooms_to i point (followed_by ss rs) ≡ rooms_to i point ss + rooms_to i point rs
rooms_behind i point no_sides rs = omega arith
rooms_behind i point (side t s ss) rs = let more = rooms_behind i point ss rs in omega (arith, more)

pub flat_behind : (ss rs : Sides) → AreFlat ss → AreFlat rs → AreFlat (followed_by ss rs)
flat_behind no_sides rs some others = others
flat_behind (side t s ss) rs some others = (some.0, flat_behind ss rs some.1 others)

both_flat : (ss rs : Sides) → AreFlat (followed_by ss rs) → AreFlat ss × AreFlat rs
both_flat no_sides rs flat = (tt, flat)
both_flat (side t s ss) rs flat = let more = both_flat ss rs flat.1 in ((flat.0, more.0), more.1)

pub follow_behind : (i : Indexed) (head unread : ℕ) (ss rs : Sides) → follow_rooms i head unread (followed_by ss rs) ≡ follow_rooms i head unread ss + follow_rooms i head unread rs
follow_behind i head unread no_sides rs = omega arith
follow_behind i head unread (side t s ss) rs = let more = follow_behind i head unread ss rs in omega (arith, more)

pub nests_behind : (ss rs : Sides) → AreNests Form.Or ss → AreNests Form.Or rs → AreNests Form.Or (followed_by ss rs)
nests_behind no_sides rs some others = others
nests_behind (side t s ss) rs some others = (some.0, nests_behind ss rs some.1 others)

both_nests : (ss rs : Sides) → AreNests Form.Or (followed_by ss rs) → AreNests Form.Or ss × AreNests Form.Or rs
both_nests no_sides rs nests = (tt, nests)
both_nests (side t s ss) rs nests = let more = both_nests ss rs nests.1 in ((nests.0, more.0), more.1)

-- some sides, and others behind them
pub kept_behind : (i : Indexed) (target before between after : ℕ) (ss rs us vs : Sides) → AreKept i target before between ss us → AreKept i target between after rs vs
    → AreKept i target before after (followed_by ss rs) (followed_by us vs)
kept_behind i target before between after ss rs us vs some others = record {
  flat = λ flat. let both = both_flat ss rs flat in flat_behind us vs (some.flat both.0) (others.flat both.1);
  paid = λ point flat near.
      let both = both_flat ss rs flat in
      let one = some.paid point both.0 near in
      let more = others.paid point both.1 near in
      omega (arith, one, more, rooms_behind i point ss rs, rooms_behind i point us vs);
  nests = λ nests. let both = both_nests ss rs nests in nests_behind us vs (some.nests both.0) (others.nests both.1);
  nests_paid = λ head unread following nests.
      let both = both_nests ss rs nests in
      let one = some.nests_paid head unread following both.0 in
      let more = others.nests_paid head unread following both.1 in
      omega (arith, one, more, follow_behind i head unread ss rs, follow_behind i head unread us vs);
}

-- a node of these sides
pub or_accounts : (i : Indexed) (target need before after : ℕ) (ss rs : Sides) → target < 2 ^ 32 → AreKept i target before after ss rs → Accounts i target need before after (or_many ss) (or_many rs)
or_accounts i target need before after ss rs small kept = record { keeps = by; advances = λ led. absurd led }
  where
    by : (kind : Kind) → Keeps (account_of i need kind) target before after (or_many ss) (or_many rs)
    by (flat_to point) = record { kind = λ flat. kept.flat flat; paid = λ flat may. kept.paid point flat (may_target point target need (rest i (or_many ss) point) small may) }
    by (plain_to point) = keeps_other (account_of i need (plain_to point)) target before after (or_many ss) (or_many rs) (λ h. h)
    by with_lead = keeps_other (account_of i need with_lead) target before after (or_many ss) (or_many rs) (λ h. h)
    by (lone_behind head unread) = keeps_other (account_of i need (lone_behind head unread)) target before after (or_many ss) (or_many rs) (λ h. h)
    by (nest_behind head unread) = record { kind = λ h. (h.0, (refl, kept.nests h.1.1)); paid = λ h following. kept.nests_paid head unread following h.1.1 }

-- the same under a need: nothing follows
or_needed : (i : Indexed) (target need before after : ℕ) (ss rs : Sides) → 0 < need → (AreFlat ss → AreFlat rs)
    → ((point : ℕ) → AreFlat ss → MayGo point target need (rest i (or_many ss) point) → after + rooms_to i point rs ≤ before + rooms_to i point ss) → Accounts i target need before after (or_many ss) (or_many rs)
or_needed i target need before after ss rs needed flat paid = record { keeps = by; advances = λ led. absurd led }
  where
    by : (kind : Kind) → Keeps (account_of i need kind) target before after (or_many ss) (or_many rs)
    by (flat_to point) = record { kind = λ h. flat h; paid = λ h may. paid point h may }
    by (plain_to point) = keeps_other (account_of i need (plain_to point)) target before after (or_many ss) (or_many rs) (λ h. h)
    by with_lead = keeps_other (account_of i need with_lead) target before after (or_many ss) (or_many rs) (λ h. h)
    by (lone_behind head unread) = keeps_other (account_of i need (lone_behind head unread)) target before after (or_many ss) (or_many rs) (λ h. h)
    by (nest_behind head unread) = keeps_other (account_of i need (nest_behind head unread)) target before after (or_many ss) (or_many rs) (λ h. omega (arith, needed, h.0))

pub sum_past : (i : Indexed) (ss : Sides) (id : ℕ) → AreSound i ss → 2 ^ 32 ≤ id → sum_of_any (rests i ss id) ≡ None
sum_past i no_sides id sound le = refl
sum_past i (side t s ss) id sound le = either_none (rest i s id) (sum_of_any (rests i ss id)) (sound.top.head.past id le) (sum_past i ss id sound.others le)

-- ---- some sides lead

light_le : (need greatest : ℕ) (o : Option ℕ) → unwrap_or o 0 ≤ greatest → greatest < need → WeighsBelow need o
light_le need greatest None le lt = tt
light_le need greatest (Some v) le lt = omega (arith, le, lt)

pub light_covers : (need : ℕ) (a b : Option ℕ) → b ≡ None → WeighsBelow need a → CoversAt a b need
light_covers need None None e light = tt
light_covers need (Some v) None e light = light
light_covers need a (Some w) e light = cc

-- these and all behind them weigh too little
pub led_none : (i : Indexed) (need from least most : ℕ) (ss : Sides) → AreSound i ss → greatest_sum ss ≤ most → most < need → from ≤ least → HaveLed i need from least least ss ss
led_none i need from least most ss sound sum lt le = record {
  same = λ id up. refl;
  light = λ id before. light_le need (greatest_sum ss) (sum_of_any (rests i ss id)) (sum_bound i ss id sound) (omega (arith, sum, lt));
  further = le;
  within = le_refl least;
}

pub same_side : (i : Indexed) (from id : ℕ) (t : Top) (s : Shape) (ss : Sides) (u : Top) (r : Shape) (rs : Sides) → Covers (from_on from (rest i s)) (rest i r) 0 → rests i rs id ≡ rests i ss id → from ≤ id
    → rests i (side u r rs) id ≡ rests i (side t s ss) id
same_side i from id t s ss u r rs covers others le =
    let first : rest i r id ≡ rest i s id = covers_exactly (from_on from (rest i s) id) (rest i r id) (covers id) ∙ from_on-at from (rest i s) id le in
    ap (λ (xs : List (Option ℕ)). rest i r id ∷ xs) others ∙ ap (λ (o : Option ℕ). o ∷ rests i ss id) first

-- ---- what sides weigh at an id

pub weighed_light : (i : Indexed) (need at sum most : ℕ) (ss : Sides) → AreSound i ss → greatest_sum ss ≤ most → sum + most < need → AreWeighed i need at sum sum ss ss
weighed_light i need at sum most ss sound le lt = record {
  same = λ id up. refl;
  light = λ less. let bound = sum_bound i ss at sound in omega (arith, bound, le, lt);
  full = λ enough. absurd (omega (arith, enough, lt));
  below = λ enough. absurd (omega (arith, enough, lt));
}

either_sum : (a b : Option ℕ) → unwrap_or (either a b) 0 ≡ unwrap_or a 0 + unwrap_or b 0
either_sum None b = omega arith
either_sum (Some v) None = omega arith
either_sum (Some v) (Some w) = omega arith

pub weighed_more : (i : Indexed) (need at sum w total : ℕ) (t : Top) (s : Shape) (ss : Sides) (u : Top) (r : Shape) (rs : Sides) → IsTop i u r → at ≤ u.head → Covers (from_on at (rest i s)) (rest i r) 0
    → unwrap_or (rest i r at) 0 ≡ w → AreWeighed i need at (sum + w) total ss rs → AreWeighed i need at sum total (side t s ss) (side u r rs)
weighed_more i need at sum w total t s ss u r rs top le covers is others = record {
  same = λ id up. same_side i at id t s ss u r rs covers (others.same id up) up;
  light = λ less. let more = others.light less in omega (arith, more, is, either_sum (rest i r at) (sum_of_any (rests i rs at)));
  full = λ enough. let more = others.full enough in omega (arith, more, is, either_sum (rest i r at) (sum_of_any (rests i rs at)));
  below = λ enough id lt. either_none (rest i r id) (sum_of_any (rests i rs id)) (top.head.below id (omega (arith, lt, le))) (others.below enough id lt);
}

-- a side's weight at an id that it does not stand before
pub weight_there : (f : ℕ → Option ℕ) (head weight id : ℕ) → IsHead head weight f → head ≡ id → id < 2 ^ 32 → unwrap_or (f id) 0 ≡ weight
weight_there f head weight id h same lt = some (f id) (ap f (sym same) ∙ h.at (omega (arith, same, lt)))
  where
    some : (o : Option ℕ) → o ≡ Some weight → unwrap_or o 0 ≡ weight
    some None e = cc
    some (Some v) e = cc

pub weight_none : (f : ℕ → Option ℕ) (head weight id : ℕ) → IsHead head weight f → id < head → unwrap_or (f id) 0 ≡ 0
weight_none f head weight id h lt = none (f id) (h.below id lt)
  where
    none : (o : Option ℕ) → o ≡ None → unwrap_or o 0 ≡ 0
    none None e = refl
    none (Some v) e = cc

-- ---- sides that have ended

pub ended_sound : (i : Indexed) (ss : Sides) → AreEnded ss → AreSound i ss
ended_sound i no_sides h = tt
ended_sound i (side t s ss) h = record {
  top = subst (λ (u : Top). IsTop i u s) (sym h.0.0) (subst (λ (r : Shape). IsTop i (record { head = 2 ^ 32; weight = 0; greatest = 0 }) r) (sym h.0.1) (ended_top i));
  sound = subst (λ (r : Shape). Sound i r) (sym h.0.1) tt;
  others = ended_sound i ss h.1;
}

pub ended_none : (i : Indexed) (ss : Sides) (id : ℕ) → AreEnded ss → sum_of_any (rests i ss id) ≡ None
ended_none i no_sides id h = refl
ended_none i (side t s ss) id h = either_none (rest i s id) (sum_of_any (rests i ss id)) (ap (λ (r : Shape). rest i r id) h.0.1) (ended_none i ss id h.1)

pub ended_greatest : (ss : Sides) → AreEnded ss → greatest_sum ss ≡ 0
ended_greatest no_sides h = refl
ended_greatest (side t s ss) h = let more = ended_greatest ss h.1 in omega (arith, more, ap (λ (u : Top). u.greatest) h.0.0)

pub ended_unread : (i : Indexed) (ss : Sides) → AreEnded ss → unread_in i ss ≡ 0
ended_unread i no_sides h = refl
ended_unread i (side t s ss) h = let more = ended_unread i ss h.1 in omega (arith, more, ap (unread_of i) h.0.1)

ended_rooms : (i : Indexed) (point : ℕ) (ss : Sides) → AreEnded ss → rooms_to i point ss ≡ 0
ended_rooms i point no_sides h = refl
ended_rooms i point (side t s ss) h = let more = ended_rooms i point ss h.1 in omega (arith, more, ap (room_to i point) h.0.1)

ended_flat : (ss : Sides) → AreEnded ss → AreFlat ss
ended_flat no_sides h = tt
ended_flat (side t s ss) h = (subst (λ (r : Shape). IsFlat 0 r) (sym h.0.1) tt, ended_flat ss h.1)

pub size_some : (s : Shape) → 1 ≤ size_of s
size_some ended = omega arith
size_some _ = omega arith

-- ---- how far the sides have come

-- Nothing that weighs what is needed lies before; from here on all is left as it was.
pub record OrSoFar (i : Indexed) (target need from before after : ℕ) (ss0 ss : Sides) : Type 0 where
  pub sides : IsMany ss (AreSound i ss)
  pub same : (id : ℕ) → from ≤ id → rests i ss id ≡ rests i ss0 id
  pub light : (id : ℕ) → target ≤ id → id < from → WeighsBelow need (sum_of_any (rests i ss0 id))
  pub begun : target ≤ from
  pub falls : greatest_sum ss ≤ greatest_sum ss0
  pub smaller : sizes_in ss ≤ sizes_in ss0
  pub flat : AreFlat ss0 → AreFlat ss
  pub paid : (point : ℕ) → AreFlat ss0 → MayGo point target need (sum_of_any (rests i ss0 point)) → after + rooms_to i point ss ≤ before + rooms_to i point ss0

pub or_begun : (i : Indexed) (target need spent : ℕ) (ss : Sides) → IsMany ss (AreSound i ss) → OrSoFar i target need target spent spent ss ss
or_begun i target need spent ss sides = record {
  sides = sides;
  same = λ id up. refl;
  light = λ id up lt. absurd (omega (arith, up, lt));
  begun = le_refl target;
  falls = le_refl (greatest_sum ss);
  smaller = le_refl (sizes_in ss);
  flat = λ flat. flat;
  paid = λ point flat may. le_refl (spent + rooms_to i point ss);
}

module _ (i : Indexed) (target need : ℕ) (some_need : 0 < need) (before : ℕ) (ss0 : Sides) where
  -- they have not come behind a point to which the node may go
  or_near : (from after point : ℕ) (ss : Sides) → from ≤ 2 ^ 32 → OrSoFar i target need from before after ss0 ss → MayGo point target need (sum_of_any (rests i ss0 point)) → from ≤ point + 1
  or_near from after point ss small far (inl last) = omega (arith, small, last)
  or_near from after point ss small far (inr (inl h)) = absurd (omega (arith, some_need, h.0))
  or_near from after point ss small far (inr (inr h)) =
      elim (cases_lt point from) as (λ _. from ≤ point + 1) [
        | inl lt ↦ absurd (light_enough need (sum_of_any (rests i ss0 point)) (far.light point h.0 lt) h.1)
        | inr le ↦ omega (arith, le)
      ]

  -- some sides led
  pub or_led : (from head between after : ℕ) (ss rs : Sides) → from < 2 ^ 32 → OrSoFar i target need from before between ss0 ss → HaveLed i need from (2 ^ 32) head ss rs → AreSound i rs
      → greatest_sum rs ≤ greatest_sum ss → sizes_in rs ≤ sizes_in ss → AreKept i from between after ss rs → OrSoFar i target need head before after ss0 rs
  or_led from head between after ss rs small far led sound falls smaller kept = record {
    sides = record { sides = sound; fits = omega (arith, falls, far.sides.fits) };
    same = λ id up. led.same id (omega (arith, up, led.further)) ∙ far.same id (omega (arith, up, led.further));
    light = λ id up lt. elim (cases_lt id from) as (λ _. WeighsBelow need (sum_of_any (rests i ss0 id))) [
      | inl less ↦ far.light id up less
      | inr le ↦ subst (λ (xs : List (Option ℕ)). WeighsBelow need (sum_of_any xs)) (led.same id le ∙ far.same id le) (led.light id lt)
    ];
    begun = omega (arith, far.begun, led.further);
    falls = omega (arith, falls, far.falls);
    smaller = omega (arith, smaller, far.smaller);
    flat = λ flat. kept.flat (far.flat flat);
    paid = λ point flat may.
        let near = or_near from between point ss (omega (arith, small)) far may in
        let one = far.paid point flat may in
        let more = kept.paid point (far.flat flat) near in
        omega (arith, one, more);
  }

  -- all were sought to the first of them
  or_weighed : (head between after total : ℕ) (ss rs : Sides) → head < 2 ^ 32 → OrSoFar i target need head before between ss0 ss → AreWeighed i need head 0 total ss rs → AreSound i rs
      → greatest_sum rs ≤ greatest_sum ss → sizes_in rs ≤ sizes_in ss → AreKept i head between after ss rs → OrSoFar i target need head before after ss0 rs
  or_weighed head between after total ss rs small far weighed sound falls smaller kept = record {
    sides = record { sides = sound; fits = omega (arith, falls, far.sides.fits) };
    same = λ id up. weighed.same id up ∙ far.same id up;
    light = far.light;
    begun = far.begun;
    falls = omega (arith, falls, far.falls);
    smaller = omega (arith, smaller, far.smaller);
    flat = λ flat. kept.flat (far.flat flat);
    paid = λ point flat may.
        let near = or_near head between point ss (omega (arith, small)) far may in
        let one = far.paid point flat may in
        let more = kept.paid point (far.flat flat) near in
        omega (arith, one, more);
  }

  -- some led, and all were sought to the first of them
  pub or_round : (from head between mid after total : ℕ) (ss rs us : Sides) → from < 2 ^ 32 → head < 2 ^ 32 → OrSoFar i target need from before between ss0 ss → HaveLed i need from (2 ^ 32) head ss rs → AreMoved i from between mid ss rs
      → AreWeighed i need head 0 total rs us → AreMoved i head mid after rs us → OrSoFar i target need head before after ss0 us
  or_round from head between mid after total ss rs us small there far led lead weighed moved =
      or_weighed head mid after total rs us there (or_led from head between mid ss rs small far led lead.sound lead.falls lead.smaller lead.kept) weighed moved.sound moved.falls moved.smaller moved.kept

  -- what they weigh there is not enough
  pub or_on : (head after total : ℕ) (ss rs : Sides) → OrSoFar i target need head before after ss0 rs → AreWeighed i need head 0 total ss rs → total < need → OrSoFar i target need (head + 1) before after ss0 rs
  or_on head after total ss rs far weighed less = record {
    sides = far.sides;
    same = λ id up. far.same id (omega (arith, up));
    light = λ id up lt. elim (cases_lt id head) as (λ _. WeighsBelow need (sum_of_any (rests i ss0 id))) [
      | inl before ↦ far.light id up before
      | inr le ↦
          let there : head ≡ id = omega (arith, lt, le) in
          subst (λ n. WeighsBelow need (sum_of_any (rests i ss0 n))) there
          (subst (λ (xs : List (Option ℕ)). WeighsBelow need (sum_of_any xs)) (far.same head (le_refl head))
          (let light = weighed.light less in light_le need (unwrap_or (sum_of_any (rests i rs head)) 0) (sum_of_any (rests i rs head)) (omega arith) (omega (arith, light))))
    ];
    begun = omega (arith, far.begun);
    falls = far.falls;
    smaller = far.smaller;
    flat = far.flat;
    paid = far.paid;
  }

  pub or_matches : (head after total : ℕ) (ss rs : Sides) → head < 2 ^ 32 → OrSoFar i target need head before after ss0 rs → AreWeighed i need head 0 total ss rs → need ≤ total
      → IsHead head total (rest i (or_many rs))
  or_matches head after total ss rs small far weighed enough = record {
    within = omega (arith, small);
    below = λ id lt. weighed.below enough id lt;
    at = λ lt. given (rest i (or_many rs) head) (weighed.full enough);
    past = λ id le. sum_past i rs id far.sides.sides le;
    ended = λ same. absurd (omega (arith, small, same));
  }
    where
      given : (o : Option ℕ) → total ≡ 0 + unwrap_or o 0 → o ≡ Some total
      given None e = absurd (omega (arith, e, enough, some_need))
      given (Some v) e = ap Some (omega (arith, e))

  -- nothing is left that is needed
  pub or_gone : (from after : ℕ) (ss rs : Sides) → AreSound i ss0 → 2 ^ 32 ≤ from → OrSoFar i target need from before after ss0 ss → AreEnded rs
      → Covers (from_on target (rest i (or_many ss0))) (rest i (or_many rs)) need
  or_gone from after ss rs sound end far over = λ id.
      from_cases target (rest i (or_many ss0)) id (rest i (or_many rs) id) need
      (λ up. elim (cases_lt id from) as (λ _. CoversAt (rest i (or_many ss0) id) (rest i (or_many rs) id) need) [
        | inl lt ↦ light_covers need (rest i (or_many ss0) id) (rest i (or_many rs) id) (ended_none i rs id over) (far.light id up lt)
        | inr le ↦ light_covers need (rest i (or_many ss0) id) (rest i (or_many rs) id) (ended_none i rs id over) (subst (λ (o : Option ℕ). WeighsBelow need o) (sym (sum_past i ss0 id sound (omega (arith, end, le)))) tt)
      ])
      (λ lt. ended_none i rs id over)

  -- what they give covers what they gave
  pub or_found : (head after : ℕ) (rs : Sides) → OrSoFar i target need head before after ss0 rs → NoneBelow head (rest i (or_many rs)) → Covers (from_on target (rest i (or_many ss0))) (rest i (or_many rs)) need
  or_found head after rs far below = λ id.
      from_cases target (rest i (or_many ss0)) id (rest i (or_many rs) id) need
      (λ up. elim (cases_lt id head) as (λ _. CoversAt (rest i (or_many ss0) id) (rest i (or_many rs) id) need) [
        | inl lt ↦ light_covers need (rest i (or_many ss0) id) (rest i (or_many rs) id) (below id lt) (far.light id up lt)
        | inr le ↦ subst (λ (xs : List (Option ℕ)). CoversAt (rest i (or_many ss0) id) (sum_of_any xs) need) (sym (far.same id le)) (covers_itself (rest i (or_many ss0) id) need)
      ])
      (λ lt. below id (omega (arith, lt, far.begun)))

  -- the account of a node of these sides
  pub or_kept : (from after : ℕ) (ss : Sides) → OrSoFar i target need from before after ss0 ss → Accounts i target need before after (or_many ss0) (or_many ss)
  or_kept from after ss far = or_needed i target need before after ss0 ss some_need far.flat far.paid

  pub or_gone_kept : (from after : ℕ) (ss rs : Sides) → OrSoFar i target need from before after ss0 ss → AreEnded rs → Accounts i target need before after (or_many ss0) (or_many rs)
  or_gone_kept from after ss rs far over =
      or_needed i target need before after ss0 rs some_need (λ flat. ended_flat rs over) (λ point flat may. let paid = far.paid point flat may in omega (arith, paid, ended_rooms i point rs over))

-- the end of all
pub or_ended_top : (i : Indexed) (ss : Sides) → AreEnded ss → IsTop i (record { head = 2 ^ 32; weight = 0; greatest = 0 }) (or_many ss)
or_ended_top i ss over = record {
  head = record { within = le_refl (2 ^ 32); below = λ id lt. ended_none i ss id over; at = λ lt. absurd (omega (arith, lt)); past = λ id le. ended_none i ss id over; ended = λ same. refl };
  bound = λ id. none_bound (sum_of_any (rests i ss id)) 0 (ended_none i ss id over);
  summed = λ lt. absurd (omega (arith, lt));
  closed = λ same. refl;
}

pub or_ended_sound : (i : Indexed) (ss : Sides) → AreEnded ss → IsMany ss (AreSound i ss)
or_ended_sound i ss over = record { sides = ended_sound i ss over; fits = omega (arith, ended_greatest ss over) }

-- sides of which nothing is left, where what they gave weighs too little
pub ended_lands : (i : Indexed) (target need : ℕ) (before : Shape) (ss : Sides) (t : Top) → t ≡ record { head = 2 ^ 32; weight = 0; greatest = 0 } → AreEnded ss → target < 2 ^ 32
    → Covers (from_on target (rest i before)) (rest i (or_many ss)) need → Lands i target need before (or_many ss) t
ended_lands i target need before ss t is over lt covers = record {
  top = subst (λ (u : Top). IsTop i u (or_many ss)) (sym is) (or_ended_top i ss over);
  sound = or_ended_sound i ss over;
  covers = covers;
  reached = omega (arith, ap (λ (u : Top). u.head) is, lt);
}

-- sides that were moved on from 0 without a need
pub or_gives : (i : Indexed) (id : ℕ) (old new : Sides) → Covers (from_on 0 (rest i (or_many old))) (rest i (or_many new)) 0 → rest i (or_many new) id ≡ combined Form.Or (rests i old id)
or_gives i id old new covers = covers_exactly (from_on 0 (rest i (or_many old)) id) (rest i (or_many new) id) (covers id) ∙ from_on-at 0 (rest i (or_many old)) id (omega arith)
