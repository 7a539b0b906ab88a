-- What a node reads in which one list leads.
use Rattle.std.proofs.Common.{◌≡◌, ◌≤◌, ◌<◌, ◌+◌, ◌*◌, ◌^◌, ◌==◌, ℕ, min, Bool, true, false, if◌then◌else◌, inl, inr, refl, sym, subst, ap, ◌∙◌, arith, le_refl}
use Rattle.std.proofs.lemmas.Bool.{cases_lt}
use Rattle.std.proofs.lemmas.Bool.Decides.{nat_tests}
use Rattle.sk_query.specs.declared.form.Form.{Form}
use Rattle.sk_model.specs.Covers.{first_need, second_need}
use Rattle.sk_index.specs.Indexed.{Indexed}
use Rattle.sk_decay.specs.declared.change.Change.{Change}
use Rattle.sk_decay.specs.declared.meeting.Meeting.{Meeting}
use Rattle.sk_decay.specs.Changes.{change_of, LeadsByNeed}
use Rattle.sk_decay.specs.Heads.{MeetsAt}
use Rattle.sk_decay.specs.Sides.{is_led, second_target}
use Rattle.sk_nodes.specs.declared.top.Top.{Top}
use Rattle.sk_nodes.specs.Leaves.{entries_of, head_of, leaf_unread}
use Rattle.sk_nodes.specs.Shapes.{Shape, ended, leaf, pair, or_many, Sides, no_sides, side}
use Rattle.sk_nodes.specs.Decayed.{changed_pair, decayed}
use Rattle.sk_nodes.specs.Flat.{IsNest}
use Rattle.sk_nodes.specs.Led.{IsLone, lead_head, lead_unread, owed, follow_room, follow_rooms, led_room, IsAtLead, MayFollow, IsLed, Advances, IsFollowing}
use Rattle.sk_nodes.specs.Accounts.{Keeps}
use Rattle.sk_nodes.specs.Moved.{with_lead, lone_behind, nest_behind, account_of, Accounts}
use Rattle.sk_nodes.proofs.AccountLaws.{keeps_other}
use Rattle.sk_nodes.proofs.StopLaws.{decayed_leads}

-- ---- what a list that follows is owed

pub owed_le : (head own : ℕ) → owed head own ≤ 128
owed_le head own = grind (arith, nat_tests)

owed_none : (head own : ℕ) → head ≤ own → owed head own ≡ 0
owed_none head own le = grind (arith, nat_tests)

owed_end : (own : ℕ) → owed (2 ^ 32) own ≡ 0
owed_end own = grind (arith, nat_tests)

pub owed_past : (head own : ℕ) → 2 ^ 32 ≤ head → owed head own ≡ 0
owed_past head own up = grind (arith, nat_tests)

owed_some : (head own : ℕ) → own < head → head < 2 ^ 32 → owed head own ≡ 128
owed_some head own lt small = grind (arith, nat_tests)

-- once the leading list went on, no more than before
owed_on : (h u h2 u2 own : ℕ) → Advances h u h2 u2 → owed h2 own + 128 * u2 ≤ owed h own + 128 * u
owed_on h u h2 u2 own (inl less) = let le = owed_le h2 own in omega (arith, le, less)
owed_on h u h2 u2 own (inr (same, inl e)) = let owed_same : owed h2 own ≡ owed h own = ap (λ n. owed n own) e in omega (arith, owed_same, same)
owed_on h u h2 u2 own (inr (same, inr e)) = let none : owed h2 own ≡ 0 = ap (λ n. owed n own) e ∙ owed_end own in omega (arith, none, same)

min_le : (n a b : ℕ) → a ≤ b → min n a ≤ min n b
min_le n a b le = omega (arith, le)

mutual
  pub follow_on : (i : Indexed) (h u h2 u2 : ℕ) (s : Shape) → Advances h u h2 u2 → follow_room i h2 u2 s ≤ follow_room i h u s
  follow_on i h u h2 u2 (leaf l) on = min_le (leaf_unread i l) (owed h2 (head_of (entries_of i l)) + 128 * u2) (owed h (head_of (entries_of i l)) + 128 * u) (owed_on h u h2 u2 (head_of (entries_of i l)) on)
  follow_on i h u h2 u2 (pair form ta a tb b) on = let one = follow_on i h u h2 u2 a on in let two = follow_on i h u h2 u2 b on in omega (arith, one, two)
  follow_on i h u h2 u2 (or_many ss) on = follows_on i h u h2 u2 ss on
  follow_on i h u h2 u2 _ on = omega arith

  follows_on : (i : Indexed) (h u h2 u2 : ℕ) (ss : Sides) → Advances h u h2 u2 → follow_rooms i h2 u2 ss ≤ follow_rooms i h u ss
  follows_on i h u h2 u2 no_sides on = omega arith
  follows_on i h u h2 u2 (side t s ss) on = let one = follow_on i h u h2 u2 s on in let two = follows_on i h u h2 u2 ss on in omega (arith, one, two)

-- a list that follows was sought from the head of the one that leads, or from the beginning
pub sought_by : (target head u own own2 un un2 before after : ℕ) → IsFollowing target head → target < 2 ^ 32 → after + un2 ≤ before + un → after ≤ before + 128
    → (target ≤ own → (after ≡ before) × (own2 ≡ own)) → target ≤ own2
    → after + min un2 (owed head own2 + 128 * u) ≤ before + min un (owed head own + 128 * u)
sought_by target head u own own2 un un2 before after follows small paid few still reached =
    elim (cases_lt own target) as (λ _. after + min un2 (owed head own2 + 128 * u) ≤ before + min un (owed head own + 128 * u)) [
      | inl lt ↦ moved lt follows
      | inr le ↦
          let same = still le in
          let owed_same : owed head own2 ≡ owed head own = ap (owed head) same.1 in
          omega (arith, same.0, owed_same, paid)
    ]
  where
    moved : own < target → IsFollowing target head → after + min un2 (owed head own2 + 128 * u) ≤ before + min un (owed head own + 128 * u)
    moved lt (inl is) =
        let one : owed head own ≡ 128 = owed_some head own (omega (arith, lt, is)) (omega (arith, small, is)) in
        let two : owed head own2 ≡ 0 = owed_none head own2 (omega (arith, reached, is)) in
        omega (arith, one, two, paid, few)
    moved lt (inr none) = absurd (omega (arith, lt, none))

-- ---- advances

pub advances_same : (h u : ℕ) → Advances h u h u
advances_same h u = inr (refl, inl refl)

pub advances_gone : (h u : ℕ) → Advances h u (2 ^ 32) 0
advances_gone h u =
    elim (cases_lt 0 u) as (λ _. Advances h u (2 ^ 32) 0) [
      | inl lt ↦ inl lt
      | inr le ↦ inr (omega (arith, le), inr refl)
    ]

pub advances_then : (h u h2 u2 h3 u3 : ℕ) → Advances h u h2 u2 → Advances h2 u2 h3 u3 → Advances h u h3 u3
advances_then h u h2 u2 h3 u3 (inl one) (inl two) = inl (omega (arith, one, two))
advances_then h u h2 u2 h3 u3 (inl one) (inr two) = inl (omega (arith, one, two.0))
advances_then h u h2 u2 h3 u3 (inr one) (inl two) = inl (omega (arith, one.0, two))
advances_then h u h2 u2 h3 u3 (inr (same, inl e)) (inr (more, inl f)) = inr (more ∙ same, inl (f ∙ e))
advances_then h u h2 u2 h3 u3 (inr (same, inr e)) (inr (more, inl f)) = inr (more ∙ same, inr (f ∙ e))
advances_then h u h2 u2 h3 u3 (inr one) (inr (more, inr f)) = inr (more ∙ one.0, inr f)

-- ---- what is put in a node's place

changed_led : (i : Indexed) (change : Change) (form : Form) (ta : Top) (a : Shape) (tb : Top) (b : Shape) (need : ℕ) → LeadsByNeed change form need → IsLed i (pair form ta a tb b) → IsLed i (changed_pair change form ta a tb b)
changed_led i Change.Keep form ta a tb b need leads led = led
changed_led i Change.Nothing form ta a tb b need leads led = tt
changed_led i Change.First form ta a tb b need leads led = led.1.1
changed_led i Change.Second form ta a tb b need leads led = absurd (by form leads led.0)
  where
    by : (form : Form) → is_led form ≡ false → MayFollow form b → ⊥
    by Form.Or e h = h
    by Form.Xor e h = h
    by Form.Max e h = h
    by Form.And e h = cc
    by Form.AndMaybe e h = cc
    by Form.AndNot e h = cc
    by Form.Filter e h = cc
changed_led i Change.Maybe form ta a tb b need leads led = absurd (by form leads led.0)
  where
    by : (form : Form) → LeadsByNeed Change.Maybe form need → MayFollow form b → ⊥
    by Form.Or leads h = h
    by _ leads h = leads
changed_led i Change.MaybeSwap form ta a tb b need leads led = absurd (by form leads led.0)
  where
    by : (form : Form) → LeadsByNeed Change.MaybeSwap form need → MayFollow form b → ⊥
    by Form.Or leads h = h
    by _ leads h = leads
changed_led i Change.Both form ta a tb b need leads led = (by form leads led.0, led.1)
  where
    by : (form : Form) → LeadsByNeed Change.Both form need → MayFollow form b → IsLone b
    by Form.Or leads h = absurd h
    by Form.AndMaybe leads h = h
    by _ leads h = absurd leads
changed_led i Change.Not form ta a tb b need leads led = absurd (by form leads led.0)
  where
    by : (form : Form) → LeadsByNeed Change.Not form need → MayFollow form b → ⊥
    by Form.Xor leads h = h
    by _ leads h = leads
changed_led i Change.NotSwap form ta a tb b need leads led = absurd (by form leads led.0)
  where
    by : (form : Form) → LeadsByNeed Change.NotSwap form need → MayFollow form b → ⊥
    by Form.Xor leads h = h
    by _ leads h = leads

-- under a form that is led the leading leaf stays, or nothing is left
changed_lead : (i : Indexed) (change : Change) (form : Form) (ta : Top) (a : Shape) (tb : Top) (b : Shape) (need : ℕ) → LeadsByNeed change form need → IsLed i (pair form ta a tb b)
    → (led_room i (changed_pair change form ta a tb b) ≤ led_room i (pair form ta a tb b)) × Advances (lead_head i a) (lead_unread i a) (lead_head i (changed_pair change form ta a tb b)) (lead_unread i (changed_pair change form ta a tb b))
changed_lead i Change.Keep form ta a tb b need leads led = (omega arith, advances_same (lead_head i a) (lead_unread i a))
changed_lead i Change.Nothing form ta a tb b need leads led = (omega arith, advances_gone (lead_head i a) (lead_unread i a))
changed_lead i Change.First form ta a tb b need leads led = (omega arith, advances_same (lead_head i a) (lead_unread i a))
changed_lead i Change.Both form ta a tb b need leads led = (omega arith, advances_same (lead_head i a) (lead_unread i a))
changed_lead i Change.Maybe form ta a tb b need leads led = (omega arith, advances_same (lead_head i a) (lead_unread i a))
changed_lead i Change.Not form ta a tb b need leads led = (omega arith, advances_same (lead_head i a) (lead_unread i a))
changed_lead i Change.Second form ta a tb b need leads led = absurd (unled form leads led.0)
  where
    unled : (form : Form) → is_led form ≡ false → MayFollow form b → ⊥
    unled Form.Or e h = h
    unled Form.Xor e h = h
    unled Form.Max e h = h
    unled Form.And e h = cc
    unled Form.AndMaybe e h = cc
    unled Form.AndNot e h = cc
    unled Form.Filter e h = cc
changed_lead i Change.MaybeSwap form ta a tb b need leads led = absurd (by form leads led.0)
  where
    by : (form : Form) → LeadsByNeed Change.MaybeSwap form need → MayFollow form b → ⊥
    by Form.Or leads h = h
    by _ leads h = leads
changed_lead i Change.NotSwap form ta a tb b need leads led = absurd (by form leads led.0)
  where
    by : (form : Form) → LeadsByNeed Change.NotSwap form need → MayFollow form b → ⊥
    by Form.Xor leads h = h
    by _ leads h = leads

-- an or without a need
changed_nest : (change : Change) (form : Form) (ta : Top) (a : Shape) (tb : Top) (b : Shape) (need : ℕ) → need ≡ 0 → LeadsByNeed change form need → IsNest Form.Or (pair form ta a tb b) → IsNest Form.Or (changed_pair change form ta a tb b)
changed_nest Change.Keep form ta a tb b need none leads nest = nest
changed_nest Change.Nothing form ta a tb b need none leads nest = tt
changed_nest Change.First form ta a tb b need none leads nest = nest.1.0
changed_nest Change.Second form ta a tb b need none leads nest = nest.1.1
changed_nest Change.Maybe form ta a tb b need none leads nest = absurd (omega (arith, none, subst (λ (f : Form). LeadsByNeed Change.Maybe f need) nest.0 leads))
changed_nest Change.MaybeSwap form ta a tb b need none leads nest = absurd (omega (arith, none, subst (λ (f : Form). LeadsByNeed Change.MaybeSwap f need) nest.0 leads))
changed_nest Change.Both form ta a tb b need none leads nest = absurd (omega (arith, none, subst (λ (f : Form). LeadsByNeed Change.Both f need) nest.0 leads))
changed_nest Change.Not form ta a tb b need none leads nest = absurd (subst (λ (f : Form). LeadsByNeed Change.Not f need) nest.0 leads)
changed_nest Change.NotSwap form ta a tb b need none leads nest = absurd (subst (λ (f : Form). LeadsByNeed Change.NotSwap f need) nest.0 leads)

changed_follow : (i : Indexed) (h u : ℕ) (change : Change) (form : Form) (ta : Top) (a : Shape) (tb : Top) (b : Shape) → follow_room i h u (changed_pair change form ta a tb b) ≤ follow_room i h u (pair form ta a tb b)
changed_follow i h u Change.Keep form ta a tb b = omega arith
changed_follow i h u Change.Nothing form ta a tb b = omega arith
changed_follow i h u Change.First form ta a tb b = omega arith
changed_follow i h u Change.Second form ta a tb b = omega arith
changed_follow i h u Change.Maybe form ta a tb b = omega arith
changed_follow i h u Change.MaybeSwap form ta a tb b = omega arith
changed_follow i h u Change.Both form ta a tb b = omega arith
changed_follow i h u Change.Not form ta a tb b = omega arith
changed_follow i h u Change.NotSwap form ta a tb b = omega arith

change_in : ℕ → Form → Top → Top → Change
change_in need form ta tb = change_of form ta.greatest tb.greatest (ta.head == 2 ^ 32) (tb.head == 2 ^ 32) need

pub decayed_led : (i : Indexed) (s : Shape) (need : ℕ) → IsLed i s → IsLed i (decayed need s)
decayed_led i ended need led = tt
decayed_led i (leaf l) need led = tt
decayed_led i (pair form ta a tb b) need led = changed_led i _ form ta a tb b need (decayed_leads form ta.greatest tb.greatest (ta.head == 2 ^ 32) (tb.head == 2 ^ 32) need) led
decayed_led i _ need led = led

pub decayed_lead : (i : Indexed) (s : Shape) (need : ℕ) → IsLed i s
    → (led_room i (decayed need s) ≤ led_room i s) × Advances (lead_head i s) (lead_unread i s) (lead_head i (decayed need s)) (lead_unread i (decayed need s))
decayed_lead i ended need led = (omega arith, advances_same (2 ^ 32) 0)
decayed_lead i (leaf l) need led = (omega arith, advances_same (lead_head i (leaf l)) (lead_unread i (leaf l)))
decayed_lead i (pair form ta a tb b) need led = changed_lead i _ form ta a tb b need (decayed_leads form ta.greatest tb.greatest (ta.head == 2 ^ 32) (tb.head == 2 ^ 32) need) led
decayed_lead i _ need led = absurd led

pub decayed_lone : (s : Shape) (need : ℕ) → IsLone s → IsLone (decayed need s)
decayed_lone ended need lone = tt
decayed_lone (leaf l) need lone = tt
decayed_lone _ need lone = absurd lone

pub decayed_nest : (s : Shape) (need : ℕ) → need ≡ 0 → IsNest Form.Or s → IsNest Form.Or (decayed need s)
decayed_nest ended need none nest = tt
decayed_nest (leaf l) need none nest = tt
decayed_nest (pair form ta a tb b) need none nest = changed_nest _ form ta a tb b need none (decayed_leads form ta.greatest tb.greatest (ta.head == 2 ^ 32) (tb.head == 2 ^ 32) need) nest
decayed_nest _ need none nest = nest

pub decayed_follow : (i : Indexed) (h u : ℕ) (s : Shape) (need : ℕ) → follow_room i h u (decayed need s) ≤ follow_room i h u s
decayed_follow i h u (leaf l) need = le_refl (follow_room i h u (leaf l))
decayed_follow i h u (pair form ta a tb b) need = changed_follow i h u (change_of form ta.greatest tb.greatest (ta.head == 2 ^ 32) (tb.head == 2 ^ 32) need) form ta a tb b
decayed_follow i h u (or_many ss) need = le_refl (follow_rooms i h u ss)
decayed_follow i h u _ need = omega arith

-- ---- two sides

-- a form under which a side follows is led
follow_led : (form : Form) (b : Shape) → MayFollow form b → is_led form ≡ true
follow_led Form.And b h = refl
follow_led Form.AndMaybe b h = refl
follow_led Form.Filter b h = refl
follow_led Form.AndNot b h = refl
follow_led Form.Or b h = absurd h
follow_led Form.Xor b h = absurd h
follow_led Form.Max b h = absurd h

-- the side that follows was sought from the head of the leading list
followed : (i : Indexed) (form : Form) (next need greatest before after head unread : ℕ) (b d : Shape) → Accounts i next (second_need form need greatest) before after b d → next ≡ head → MayFollow form b
    → MayFollow form d × (after + follow_room i head unread d ≤ before + follow_room i head unread b)
followed i Form.And next need greatest before after head unread b d two is h = let keeps = two.keeps (lone_behind head unread) in (keeps.kind h, keeps.paid h (inl is))
followed i Form.AndMaybe next need greatest before after head unread b d two is h = let keeps = two.keeps (lone_behind head unread) in (keeps.kind h, keeps.paid h (inl is))
followed i Form.Filter next need greatest before after head unread b d two is h = let keeps = two.keeps (lone_behind head unread) in (keeps.kind h, keeps.paid h (inl is))
followed i Form.AndNot next need greatest before after head unread b d two is h = let keeps = two.keeps (nest_behind head unread) in ((keeps.kind (refl, h)).1, keeps.paid (refl, h) (inl is))
followed i Form.Or next need greatest before after head unread b d two is h = absurd h
followed i Form.Xor next need greatest before after head unread b d two is h = absurd h
followed i Form.Max next need greatest before after head unread b d two is h = absurd h

led_target : (form : Form) (from head : ℕ) → is_led form ≡ true → second_target form from head ≡ head
led_target form from head led = ap (λ (t : Bool). if t then head else from) led

module _ (i : Indexed) (form : Form) (from need before between after : ℕ) (ta : Top) (a : Shape) (tb : Top) (b : Shape) (ua : Top) (c : Shape) (ub : Top) (d : Shape)
    (one : Accounts i from (first_need form need tb.greatest) before between a c) (at : IsLed i a → IsAtLead i ta a → IsAtLead i ua c) where
  -- the first alone
  leads_first : IsLed i (pair form ta a tb b) → IsLed i (pair form ua c tb b)
  leads_first h = (h.0, (at h.1.1 h.1.0, (one.keeps with_lead).kind h.1.1))

  paid_lead : IsLed i (pair form ta a tb b) → between + (led_room i c + follow_room i (lead_head i c) (lead_unread i c) b) ≤ before + (led_room i a + follow_room i (lead_head i a) (lead_unread i a) b)
  paid_lead h =
      let paid : between + led_room i c ≤ before + led_room i a = (one.keeps with_lead).paid h.1.1 tt in
      let on = follow_on i (lead_head i a) (lead_unread i a) (lead_head i c) (lead_unread i c) b (one.advances h.1.1) in
      omega (arith, paid, on)

  no_or_led : is_led form ≡ true → form ≡ Form.Or → ⊥
  no_or_led led is = other (ap is_led (sym is) ∙ led)
    where
      other : is_led Form.Or ≡ true → ⊥
      other e = cc

  pub led_ended : Keeps (account_of i need with_lead) from before between (pair form ta a tb b) (pair form ua c tb b)
  led_ended = record { kind = λ h. leads_first h; paid = λ h may. paid_lead h }

  pub nest_ended : (head unread : ℕ) → is_led form ≡ true → Keeps (account_of i need (nest_behind head unread)) from before between (pair form ta a tb b) (pair form ua c tb b)
  nest_ended head unread led = keeps_other (account_of i need (nest_behind head unread)) from before between (pair form ta a tb b) (pair form ua c tb b) (λ h. no_or_led led h.1.0)

  module _ (next : ℕ) (is : next ≡ second_target form from ua.head) (two : Accounts i next (second_need form need ua.greatest) between after b d) where
    at_lead : next < 2 ^ 32 → IsLed i (pair form ta a tb b) → next ≡ lead_head i c
    at_lead small h = by (at h.1.1 h.1.0)
      where
        there : next ≡ ua.head
        there = is ∙ led_target form from ua.head (follow_led form b h.0)

        by : IsAtLead i ua c → next ≡ lead_head i c
        by (inl e) = there ∙ e
        by (inr e) = absurd (omega (arith, small, there, e))

    follower : next < 2 ^ 32 → IsLed i (pair form ta a tb b) → MayFollow form d × (after + follow_room i (lead_head i c) (lead_unread i c) d ≤ between + follow_room i (lead_head i c) (lead_unread i c) b)
    follower small h = followed i form next need ua.greatest between after (lead_head i c) (lead_unread i c) b d two (at_lead small h) h.0

    pub led_round : next < 2 ^ 32 → Keeps (account_of i need with_lead) from before after (pair form ta a tb b) (pair form ua c ub d)
    led_round small = record {
      kind = λ h. ((follower small h).0, (at h.1.1 h.1.0, (one.keeps with_lead).kind h.1.1));
      paid = λ h may. let first = paid_lead h in let second = (follower small h).1 in omega (arith, first, second);
    }

    or_nest : (h : (need ≡ 0) × IsNest Form.Or (pair form ta a tb b)) → (first_need form need tb.greatest ≡ 0) × ((second_need form need ua.greatest ≡ 0) × (next ≡ from))
    or_nest h = (ap (λ f. first_need f need tb.greatest) h.1.0 ∙ omega (arith, h.0), (ap (λ f. second_need f need ua.greatest) h.1.0 ∙ omega (arith, h.0), is ∙ ap (λ f. second_target f from ua.head) h.1.0))

    pub nest_round : (head unread : ℕ) → Keeps (account_of i need (nest_behind head unread)) from before after (pair form ta a tb b) (pair form ua c ub d)
    nest_round head unread = record {
      kind = λ h.
          let needs = or_nest h in
          (h.0, (h.1.0, (((one.keeps (nest_behind head unread)).kind (needs.0, h.1.1.0)).1, ((two.keeps (nest_behind head unread)).kind (needs.1.0, h.1.1.1)).1)));
      paid = λ h follows.
          let needs = or_nest h in
          let first : between + follow_room i head unread c ≤ before + follow_room i head unread a = (one.keeps (nest_behind head unread)).paid (needs.0, h.1.1.0) follows in
          let second : after + follow_room i head unread d ≤ between + follow_room i head unread b = (two.keeps (nest_behind head unread)).paid (needs.1.0, h.1.1.1) (subst (λ n. IsFollowing n head) (sym needs.1.1) follows) in
          omega (arith, first, second);
    }

-- where two sides meet
pub meets_lead : (i : Indexed) (form : Form) (ta0 : Top) (a0 : Shape) (tb0 : Top) (b0 : Shape) (top ua : Top) (c : Shape) (ub : Top) (d : Shape) (head weight : ℕ) → IsLed i (pair form ta0 a0 tb0 b0) → IsAtLead i ua c
    → (is_led form ≡ true → MeetsAt ua.head (Meeting.At head weight)) → top.head ≡ head → IsAtLead i top (pair form ua c ub d)
meets_lead i form ta0 a0 tb0 b0 top ua c ub d head weight led at meets is = by (meets (follow_led form b0 led.0)) at
  where
    by : MeetsAt ua.head (Meeting.At head weight) → IsAtLead i ua c → IsAtLead i top (pair form ua c ub d)
    by (inl e) (inl f) = inl (is ∙ e ∙ f)
    by (inl e) (inr f) = inr (is ∙ e ∙ f)
    by (inr e) h = inr (is ∙ e)
