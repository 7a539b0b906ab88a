-- What nodes keep of their accounts, as they are replaced and moved on.
use Rattle.std.proofs.Common.{◌≡◌, ◌≤◌, ◌<◌, ◌+◌, ◌^◌, ℕ, Bool, true, inl, inr, refl, sym, subst, arith}
use Rattle.sk_query.specs.declared.form.Form.{Form}
use Rattle.sk_model.specs.Covers.{CoversAt, Covers, first_need, second_need}
use Rattle.sk_index.specs.Indexed.{Indexed}
use Rattle.sk_lists.specs.Seeks.{count_to}
use Rattle.sk_decay.specs.declared.meeting.Meeting.{Meeting}
use Rattle.sk_decay.specs.Heads.{NoneBelow, GoesOnOnly}
use Rattle.sk_decay.specs.Sides.{paired, is_led, second_target}
use Rattle.sk_nodes.specs.declared.top.Top.{Top}
use Rattle.sk_nodes.specs.declared.leaf.Leaf.{Leaf}
use Rattle.sk_nodes.specs.Leaves.{entries_of, head_of, leaf_unread, AtMost}
use Rattle.sk_nodes.specs.Shapes.{Shape, ended, leaf, pair}
use Rattle.sk_nodes.specs.Left.{rest, from_on}
use Rattle.sk_nodes.specs.Sound.{IsTop, Sound}
use Rattle.sk_nodes.specs.Decayed.{decayed}
use Rattle.sk_nodes.specs.Accounts.{Keeps}
use Rattle.sk_nodes.specs.Flat.{IsFlat, IsPlain, IsNest}
use Rattle.sk_nodes.specs.Led.{IsLone, lead_head, lead_unread, IsAtLead, IsLed, Advances, Walks}
use Rattle.sk_nodes.specs.Fading.{IsFading}
use Rattle.sk_nodes.specs.Moved.{Kind, flat_to, plain_to, with_lead, lone_behind, nest_behind, account_of, fading_account, Accounts, SeekAccounts, ReachAccounts}
use Rattle.sk_nodes.proofs.LeafLaws.{from_on-at}
use Rattle.sk_nodes.proofs.AccountLaws.{SoFar, keeps_same, keeps_gone, keeps_other, keeps_placed, far_begun, keeps_then, far_on}
use Rattle.sk_nodes.proofs.StopLaws.{may_target, still_goes, goes_on, decayed_flat, decayed_plain, decayed_room, plain_sides, flat_ended, plain_ended, flat_round, plain_round, no_or, no_max}
use Rattle.sk_nodes.proofs.RareLaws.{sought_by, advances_same, advances_gone, advances_then, decayed_led, decayed_lead, decayed_lone, decayed_nest, decayed_follow, led_ended, nest_ended, led_round, nest_round}
use Rattle.sk_nodes.proofs.FadingLaws.{moves_same, moves_gone, moves_ended, moves_decayed, moves_leaf, fades_leaf, under_same, under_gone, under_leaf, under_moved}

-- ---- of each kind

pub accounts_same : (i : Indexed) (target need spent : ℕ) (s : Shape) → Accounts i target need spent spent s s
accounts_same i target need spent s = record { keeps = λ kind. keeps_same (account_of i need kind) target spent s; advances = λ h. advances_same (lead_head i s) (lead_unread i s) }

pub accounts_gone : (i : Indexed) (target need spent : ℕ) (s : Shape) → Accounts i target need spent spent s ended
accounts_gone i target need spent s = record { keeps = by; advances = λ h. advances_gone (lead_head i s) (lead_unread i s) }
  where
    by : (kind : Kind) → Keeps (account_of i need kind) target spent spent s ended
    by (flat_to point) = keeps_gone (account_of i need (flat_to point)) target spent s tt refl
    by (plain_to point) = keeps_gone (account_of i need (plain_to point)) target spent s tt refl
    by with_lead = keeps_gone (account_of i need with_lead) target spent s tt refl
    by (lone_behind head unread) = keeps_gone (account_of i need (lone_behind head unread)) target spent s tt refl
    by (nest_behind head unread) = record { kind = λ h. (h.0, tt); paid = λ h may. omega arith }

-- a node of no kind
pub accounts_other : (i : Indexed) (target need before after : ℕ) (old new : Shape) → (IsFlat need old → ⊥) → (IsPlain old → ⊥) → (IsLed i old → ⊥) → (IsLone old → ⊥) → (IsNest Form.Or old → ⊥) → Accounts i target need before after old new
accounts_other i target need before after old new flat plain led lone nest = record { keeps = λ kind. keeps_other (account_of i need kind) target before after old new (by kind); advances = λ h. absurd (led h) }
  where
    by : (kind : Kind) → (account_of i need kind).holds old → ⊥
    by (flat_to point) h = flat h
    by (plain_to point) h = plain h
    by with_lead h = led h
    by (lone_behind head unread) h = lone h
    by (nest_behind head unread) h = nest h.1

-- a leaf
pub accounts_leaf : (i : Indexed) (target need before after : ℕ) (old new : Leaf) → target < 2 ^ 32 → Walks i target before after old new
    → ((point : ℕ) → target ≤ point + 1 → after + count_to point (entries_of i new) ≤ before + count_to point (entries_of i old)) → after + leaf_unread i new ≤ before + leaf_unread i old
    → Accounts i target need before after (leaf old) (leaf new)
accounts_leaf i target need before after old new small walks moves paid = record { keeps = by; advances = λ h. walks.advances }
  where
    by : (kind : Kind) → Keeps (account_of i need kind) target before after (leaf old) (leaf new)
    by (flat_to point) = record { kind = λ h. tt; paid = λ h may. moves point (may_target point target need (rest i (leaf old) point) small may) }
    by (plain_to point) = record { kind = λ h. tt; paid = λ h le. moves point le }
    by with_lead = record { kind = λ h. tt; paid = λ h may. paid }
    by (lone_behind head unread) = record {
      kind = λ h. tt;
      paid = λ h from. sought_by target head unread (head_of (entries_of i old)) (head_of (entries_of i new)) (leaf_unread i old) (leaf_unread i new) before after from small paid walks.few walks.still walks.reached;
    }
    by (nest_behind head unread) = record {
      kind = λ h. (h.0, tt);
      paid = λ h from. sought_by target head unread (head_of (entries_of i old)) (head_of (entries_of i new)) (leaf_unread i old) (leaf_unread i new) before after from small paid walks.few walks.still walks.reached;
    }

-- another was put in its place before
pub accounts_decayed : (i : Indexed) (target need before after : ℕ) (s new : Shape) → Covers (rest i s) (rest i (decayed need s)) need → Accounts i target need before after (decayed need s) new → Accounts i target need before after s new
accounts_decayed i target need before after s new covers accounts = record {
  keeps = λ kind. by kind (accounts.keeps kind);
  advances = λ h.
      advances_then (lead_head i s) (lead_unread i s) (lead_head i (decayed need s)) (lead_unread i (decayed need s)) (lead_head i new) (lead_unread i new)
      (decayed_lead i s need h).1 (accounts.advances (decayed_led i s need h));
}
  where
    by : (kind : Kind) → Keeps (account_of i need kind) target before after (decayed need s) new → Keeps (account_of i need kind) target before after s new
    by (flat_to point) =
        keeps_placed (account_of i need (flat_to point)) target before after s (decayed need s) new (λ h. decayed_flat s need h) (λ h may. still_goes point target need (rest i s point) (rest i (decayed need s) point) (covers point) may)
        (λ h. decayed_room i point s need)
    by (plain_to point) = keeps_placed (account_of i need (plain_to point)) target before after s (decayed need s) new (λ h. decayed_plain s need h) (λ h may. may) (λ h. decayed_room i point s need)
    by with_lead = keeps_placed (account_of i need with_lead) target before after s (decayed need s) new (λ h. decayed_led i s need h) (λ h may. may) (λ h. (decayed_lead i s need h).0)
    by (lone_behind head unread) =
        keeps_placed (account_of i need (lone_behind head unread)) target before after s (decayed need s) new (λ h. decayed_lone s need h) (λ h may. may) (λ h. decayed_follow i head unread s need)
    by (nest_behind head unread) =
        keeps_placed (account_of i need (nest_behind head unread)) target before after s (decayed need s) new (λ h. (h.0, decayed_nest s need h.0 h.1)) (λ h may. may) (λ h. decayed_follow i head unread s need)

-- ---- a node that was sought

pub seek_ended : (i : Indexed) (target need spent : ℕ) (top : Top) → target < 2 ^ 32 → top.head ≡ 2 ^ 32 → SeekAccounts i target need spent spent ended ended top
seek_ended i target need spent top small end = record {
  all = accounts_same i target need spent ended;
  at = λ h. inr end;
  moves = λ h. moves_ended i target spent top small end;
  fades = λ point greatest first. keeps_same (fading_account i point greatest first) target spent ended;
}

pub seek_leaf : (i : Indexed) (target need before after : ℕ) (old new : Leaf) (top : Top) → target < 2 ^ 32 → top.head ≡ head_of (entries_of i new) → Walks i target before after old new
    → ((point : ℕ) → target ≤ point + 1 → after + count_to point (entries_of i new) ≤ before + count_to point (entries_of i old)) → after + leaf_unread i new ≤ before + leaf_unread i old → new.greatest ≡ old.greatest
    → SeekAccounts i target need before after (leaf old) (leaf new) top
seek_leaf i target need before after old new top small at walks moves paid own = record {
  all = accounts_leaf i target need before after old new small walks moves paid;
  at = λ h. inl at;
  moves = λ h. moves_leaf i target before after old new top at walks moves paid own;
  fades = fades_leaf i target before after old new moves paid own;
}

-- one in which no list leads and none fades
pub seek_some : (i : Indexed) (target need before after : ℕ) (old new : Shape) (top : Top) → (IsLed i old → ⊥) → (IsLone old → ⊥) → ((greatest : ℕ) (first : Bool) → IsFading i greatest first old → ⊥) → Accounts i target need before after old new
    → SeekAccounts i target need before after old new top
seek_some i target need before after old new top led lone fading accounts = record {
  all = accounts;
  at = λ h. absurd (led h);
  moves = λ h. absurd (lone h);
  fades = λ point greatest first. keeps_other (fading_account i point greatest first) target before after old new (fading greatest first);
}

pub seek_other : (i : Indexed) (target need before after : ℕ) (old new : Shape) (top : Top) → (IsFlat need old → ⊥) → (IsPlain old → ⊥) → (IsLed i old → ⊥) → (IsLone old → ⊥) → (IsNest Form.Or old → ⊥)
    → ((greatest : ℕ) (first : Bool) → IsFading i greatest first old → ⊥) → SeekAccounts i target need before after old new top
seek_other i target need before after old new top flat plain led lone nest fading = seek_some i target need before after old new top led lone fading (accounts_other i target need before after old new flat plain led lone nest)

-- the same by what the shapes are
pub seek_along : (i : Indexed) (target need before after : ℕ) (old new s t : Shape) (top : Top) → old ≡ s → new ≡ t → SeekAccounts i target need before after s t top → SeekAccounts i target need before after old new top
seek_along i target need before after old new s t top e f h =
    subst (λ (o : Shape). SeekAccounts i target need before after o new top) (sym e) (subst (λ (n : Shape). SeekAccounts i target need before after s n top) (sym f) h)

-- ---- a node that was reached

pub reach_same : (i : Indexed) (target need spent : ℕ) (s : Shape) (top : Top) → target ≤ top.head → ReachAccounts i target need spent spent s s top top
reach_same i target need spent s top up = record {
  all = accounts_same i target need spent s;
  at = λ h at. at;
  moves = λ stands. moves_same i target spent top s up stands;
  fades = under_same i target need spent s;
}

-- nothing of it is wanted
pub reach_gone : (i : Indexed) (target need spent : ℕ) (s new : Shape) (was top : Top) → new ≡ ended → top.head ≡ 2 ^ 32 → was.head < target → target < 2 ^ 32 → ReachAccounts i target need spent spent s new was top
reach_gone i target need spent s new was top e end before small = subst (λ (n : Shape). ReachAccounts i target need spent spent s n was top) (sym e) by
  where
    by : ReachAccounts i target need spent spent s ended was top
    by = record {
      all = accounts_gone i target need spent s;
      at = λ h at. inr end;
      moves = λ stands. moves_gone i target spent was top s before small stands end;
      fades = under_gone i target need spent s;
    }

-- a leaf went on that can weigh what is needed
pub reach_leaf : (i : Indexed) (target need before after : ℕ) (old new : Leaf) (s n : Shape) (was top : Top) → s ≡ leaf old → n ≡ leaf new → IsTop i was s → was.head < 2 ^ 32 → need ≤ was.greatest → target < 2 ^ 32
    → top.head ≡ head_of (entries_of i new) → Walks i target before after old new
    → ((point : ℕ) → target ≤ point + 1 → after + count_to point (entries_of i new) ≤ before + count_to point (entries_of i old)) → after + leaf_unread i new ≤ before + leaf_unread i old → new.greatest ≡ old.greatest
    → ReachAccounts i target need before after s n was top
reach_leaf i target need before after old new s n was top e f is opened enough small at walks moves paid own =
    let sought = seek_along i target need before after s n (leaf old) (leaf new) top e f (seek_leaf i target need before after old new top small at walks moves paid own) in
    record {
      all = sought.all;
      at = λ h at. sought.at h;
      moves = λ stands. sought.moves stands.lone;
      fades = under_leaf i target need before after old new was s n e f is opened enough own paid moves;
    }

-- another was put in its place, and was sought
pub reach_moved : (i : Indexed) (target need before after greatest : ℕ) (s mid new : Shape) (was top : Top) → IsTop i was s → Sound i s → was.head < 2 ^ 32 → need ≤ was.greatest → mid ≡ decayed need s → Covers (rest i s) (rest i mid) need
    → SeekAccounts i target need before after mid new top → ReachAccounts i target need before after s new was (record top { greatest = greatest })
reach_moved i target need before after greatest s mid new was top is sound opened enough e covers accounts =
    let sought = subst (λ (o : Shape). SeekAccounts i target need before after o new top) e accounts in
    record {
      all = accounts_decayed i target need before after s new (subst (λ (o : Shape). Covers (rest i s) (rest i o) need) e covers) sought.all;
      at = λ h at. sought.at (decayed_led i s need h);
      moves = λ stands. moves_decayed i target need before after s top (record top { greatest = greatest }) new stands.lone refl sought.moves;
      fades = under_moved i target need before after was s mid new is sound opened enough e accounts.fades;
    }

-- ---- two sides, how far they have come

pub record AccountsSoFar (i : Indexed) (form : Form) (target need from before spent : ℕ) (ta0 : Top) (a0 : Shape) (tb0 : Top) (b0 : Shape) (ta : Top) (a : Shape) (tb : Top) (b : Shape) : Type 0 where
  pub far : (kind : Kind) → SoFar (account_of i need kind) target from before spent (pair form ta0 a0 tb0 b0) (pair form ta a tb b)
  pub advances : IsLed i (pair form ta0 a0 tb0 b0) → Advances (lead_head i a0) (lead_unread i a0) (lead_head i a) (lead_unread i a)

pub accounts_begun : (i : Indexed) (form : Form) (target need spent : ℕ) (ta : Top) (a : Shape) (tb : Top) (b : Shape) → AccountsSoFar i form target need target spent spent ta a tb b ta a tb b
accounts_begun i form target need spent ta a tb b = record { far = λ kind. far_begun (account_of i need kind) target spent (pair form ta a tb b); advances = λ h. advances_same (lead_head i a) (lead_unread i a) }

module _ (i : Indexed) (form : Form) (target need from before spent after : ℕ) (ta0 : Top) (a0 : Shape) (tb0 : Top) (b0 : Shape) (ta : Top) (a : Shape) (tb : Top) (b : Shape) (ua : Top) (c : Shape) (ub : Top) (d : Shape)
    (so : AccountsSoFar i form target need from before spent ta0 a0 tb0 b0 ta a tb b) (round : Accounts i from need spent after (pair form ta a tb b) (pair form ua c ub d)) where
  on_from : IsLed i (pair form ta0 a0 tb0 b0) → Advances (lead_head i a0) (lead_unread i a0) (lead_head i c) (lead_unread i c)
  on_from h = advances_then (lead_head i a0) (lead_unread i a0) (lead_head i a) (lead_unread i a) (lead_head i c) (lead_unread i c) (so.advances h) (round.advances ((so.far with_lead).keeps.kind h))

  -- one move after another
  pub accounts_then : Accounts i target need before after (pair form ta0 a0 tb0 b0) (pair form ua c ub d)
  accounts_then = record {
    keeps = λ kind. keeps_then (account_of i need kind) target from before spent after (pair form ta0 a0 tb0 b0) (pair form ta a tb b) (pair form ua c ub d) (so.far kind) (round.keeps kind);
    advances = on_from;
  }

  -- sides that go on; those of an or and of a max do not
  pub accounts_on : (further : ℕ) → Covers (from_on from (λ id. paired form (rest i a id) (rest i b id))) (λ id. paired form (rest i c id) (rest i d id)) need
      → GoesOnOnly form (Meeting.Behind further) → NoneBelow further (λ id. paired form (rest i c id) (rest i d id)) → AccountsSoFar i form target need further before after ta0 a0 tb0 b0 ua c ub d
  accounts_on further covers on below = record {
    far = λ kind. far_on (account_of i need kind) target from further before spent after (pair form ta0 a0 tb0 b0) (pair form ta a tb b) (pair form ua c ub d) (so.far kind) (round.keeps kind) (goes kind);
    advances = on_from;
  }
    where
      goes : (kind : Kind) → (account_of i need kind).holds (pair form ta a tb b) → (account_of i need kind).may from (pair form ta a tb b) → (account_of i need kind).may further (pair form ua c ub d)
      goes (flat_to point) h may =
          goes_on form (paired form (rest i a point) (rest i b point)) (paired form (rest i c point) (rest i d point)) point from further need h.0 (no_or form further on)
          (λ near. subst (λ o. CoversAt o (paired form (rest i c point) (rest i d point)) need) (from_on-at from (λ id. paired form (rest i a id) (rest i b id)) point near) (covers point))
          (λ lt. below point lt) may
      goes (plain_to point) h may = absurd (no_max form further on (plain_sides form ta a tb b h).0)
      goes with_lead h may = tt
      goes (lone_behind head unread) h may = absurd h
      goes (nest_behind head unread) h may = absurd (no_or form further on h.1.0)

-- both sides are moved on, from where they have come
module _ (i : Indexed) (form : Form) (from need before between after : ℕ) (ta : Top) (a : Shape) (tb : Top) (b : Shape) (ua : Top) (c : Shape) (ub : Top) (d : Shape)
    (bound : AtMost tb.greatest (rest i b)) (moved : IsTop i ua c) (first_falls : ua.greatest ≤ ta.greatest)
    (covers : Covers (from_on from (rest i a)) (rest i c) (first_need form need tb.greatest))
    (one : Accounts i from (first_need form need tb.greatest) before between a c) (at : IsLed i a → IsAtLead i ta a → IsAtLead i ua c) where
  -- the first alone, where the form is led and it has ended
  pub round_ended : is_led form ≡ true → Accounts i from need before between (pair form ta a tb b) (pair form ua c tb b)
  round_ended led = record { keeps = by; advances = λ h. one.advances h.1.1 }
    where
      by : (kind : Kind) → Keeps (account_of i need kind) from before between (pair form ta a tb b) (pair form ua c tb b)
      by (flat_to point) = flat_ended i form from need before between after ta a tb b ua c ub d bound moved first_falls covers one point
      by (plain_to point) = plain_ended i form from need before between after ta a tb b ua c ub d bound moved first_falls covers one point led
      by with_lead = led_ended i form from need before between after ta a tb b ua c ub d one at
      by (lone_behind head unread) = keeps_other (account_of i need (lone_behind head unread)) from before between (pair form ta a tb b) (pair form ua c tb b) (λ h. h)
      by (nest_behind head unread) = nest_ended i form from need before between after ta a tb b ua c ub d one at head unread led

  pub round_both : (next : ℕ) → next ≡ second_target form from ua.head → next < 2 ^ 32 → ub.greatest ≤ tb.greatest → Accounts i next (second_need form need ua.greatest) between after b d
      → Accounts i from need before after (pair form ta a tb b) (pair form ua c ub d)
  round_both next is small second_falls two = record { keeps = by; advances = λ h. one.advances h.1.1 }
    where
      by : (kind : Kind) → Keeps (account_of i need kind) from before after (pair form ta a tb b) (pair form ua c ub d)
      by (flat_to point) = flat_round i form from need before between after ta a tb b ua c ub d bound moved first_falls covers one next is second_falls two point
      by (plain_to point) = plain_round i form from need before between after ta a tb b ua c ub d bound moved first_falls covers one next is second_falls two point
      by with_lead = led_round i form from need before between after ta a tb b ua c ub d one at next is two small
      by (lone_behind head unread) = keeps_other (account_of i need (lone_behind head unread)) from before after (pair form ta a tb b) (pair form ua c ub d) (λ h. h)
      by (nest_behind head unread) = nest_round i form from need before between after ta a tb b ua c ub d one at next is two head unread
