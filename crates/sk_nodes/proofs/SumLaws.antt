-- Sums of wdfs, and what they weigh.
use Rattle.std.proofs.Common.{◌≡◌, ◌≤◌, ◌<◌, ◌^◌, ℕ, Option, None, Some, unwrap_or, inl, inr, refl, sym, subst, ap, ◌∙◌, arith, le_refl}
use Rattle.std.specs.Option.{option_map}
use Rattle.std.proofs.lemmas.Bool.{cases_lt}
use Rattle.sk_base.specs.declared.find.Scheme.{Scheme}
use Rattle.sk_model.specs.Weights.{weigh_by}
use Rattle.sk_model.specs.Covers.{CoversAt, Covers}
use Rattle.sk_index.specs.Indexed.{Indexed}
use Rattle.sk_decay.specs.Heads.{IsHead}
use Rattle.sk_nodes.specs.declared.top.Top.{Top}
use Rattle.sk_nodes.specs.Shapes.{Shape, ended, synonym}
use Rattle.sk_nodes.specs.Left.{rest, from_on}
use Rattle.sk_nodes.specs.Sound.{IsTop, IsSynonym, Sound}
use Rattle.sk_nodes.specs.Flat.{MayGo}
use Rattle.sk_nodes.specs.Accounts.{Keeps}
use Rattle.sk_nodes.specs.Moved.{Kind, flat_to, plain_to, with_lead, lone_behind, nest_behind, account_of, Accounts}
use Rattle.sk_nodes.proofs.LeafLaws.{from_on-at, from_on-below, from_cases, covers_none}
use Rattle.sk_nodes.proofs.NodeLaws.{IsHead-none, ended_top}
use Rattle.sk_nodes.proofs.ListLaws.{weigh_more}
use Rattle.sk_nodes.proofs.AccountLaws.{keeps_other}
use Rattle.sk_nodes.proofs.StopLaws.{flat-mono}

-- ---- the top of the weights

sums_le : (factor : ℕ) (scheme : Scheme) (o : Option ℕ) (n : ℕ) → unwrap_or o 0 ≤ n → unwrap_or (option_map (weigh_by factor scheme) o) 0 ≤ weigh_by factor scheme n
sums_le factor scheme None n le = omega arith
sums_le factor scheme (Some w) n le = weigh_more factor scheme w n le

pub sums_top : (i : Indexed) (scheme : Scheme) (factor : ℕ) (below top : Top) (s : Shape) → IsTop i below s → below.head < 2 ^ 32 → top.head ≡ below.head → top.weight ≡ weigh_by factor scheme below.weight
    → top.greatest ≡ weigh_by factor scheme below.greatest → IsTop i top (synonym scheme factor below s)
sums_top i scheme factor below top s is some e f g = record {
  head = record {
    within = omega (arith, e, is.head.within);
    below = λ id lt. ap (option_map (weigh_by factor scheme)) (is.head.below id (omega (arith, e, lt)));
    at = λ lt. ap (λ id. option_map (weigh_by factor scheme) (rest i s id)) e ∙ ap (option_map (weigh_by factor scheme)) (is.head.at some) ∙ ap Some (sym f);
    past = λ id le. ap (option_map (weigh_by factor scheme)) (is.head.past id le);
    ended = λ end. absurd (omega (arith, e, end, some));
  };
  bound = λ id. subst (λ n. unwrap_or (rest i (synonym scheme factor below s) id) 0 ≤ n) (sym g) (sums_le factor scheme (rest i s id) below.greatest (is.bound id));
  summed = λ lt. omega (arith, g);
  closed = λ end. absurd (omega (arith, e, end, some));
}

pub sums_ended : (i : Indexed) (scheme : Scheme) (factor : ℕ) (below : Top) (s : Shape) → IsTop i below s → 2 ^ 32 ≤ below.head → IsTop i (record { head = 2 ^ 32; weight = 0; greatest = 0 }) (synonym scheme factor below s)
sums_ended i scheme factor below s is end = record {
  head = record { within = le_refl (2 ^ 32); below = λ id lt. gone id; at = λ lt. absurd (omega (arith, lt)); past = λ id le. gone id; ended = λ same. refl };
  bound = λ id. subst (λ (o : Option ℕ). unwrap_or o 0 ≤ 0) (sym (gone id)) (omega arith);
  summed = λ lt. absurd (omega (arith, lt));
  closed = λ same. refl;
}
  where
    at_end : 2 ^ 32 ≤ below.head → below.head ≤ 2 ^ 32 → below.head ≡ 2 ^ 32
    at_end p q = omega (arith, p, q)

    gone : (id : ℕ) → rest i (synonym scheme factor below s) id ≡ None
    gone id = ap (option_map (weigh_by factor scheme)) (IsHead-none below.weight id (rest i s) (subst (λ n. IsHead n below.weight (rest i s)) (at_end end is.head.within) is.head))

-- ---- where no wdf weighs what is needed

module _ (i : Indexed) (scheme : Scheme) (factor need : ℕ) (none : (w : ℕ) → w < 2 ^ 29 → need ≤ weigh_by factor scheme w → ⊥) where
  light_at : (o : Option ℕ) → unwrap_or o 0 < 2 ^ 29 → CoversAt (option_map (weigh_by factor scheme) o) None need
  light_at None small = tt
  light_at (Some w) small = elim (cases_lt (weigh_by factor scheme w) need) as (λ _. weigh_by factor scheme w < need) [ inl lt ↦ lt | inr le ↦ absurd (none w small le) ]

  -- nothing of it is wanted
  pub sums_light : (target : ℕ) (t u : Top) (s r : Shape) → IsSynonym i factor t s (Sound i s) → r ≡ ended → Covers (from_on target (rest i (synonym scheme factor t s))) (rest i (synonym scheme factor u r)) need
  sums_light target t u s r sound is = subst (λ (r : Shape). Covers (from_on target (rest i (synonym scheme factor t s))) (rest i (synonym scheme factor u r)) need) (sym is)
      (λ id. from_cases target (rest i (synonym scheme factor t s)) id None need (λ le. light_at (rest i s id) (omega (arith, sound.top.bound id, sound.small))) (λ lt. refl))

-- where nothing is left below, nothing is left of it
pub sums_none : (i : Indexed) (scheme : Scheme) (factor : ℕ) (below top : Top) (r : Shape) → factor ≤ 65536 → r ≡ ended → below ≡ record { head = 2 ^ 32; weight = 0; greatest = 0 } → top ≡ record { head = 2 ^ 32; weight = 0; greatest = 0 }
    → IsTop i top (synonym scheme factor below r) × IsSynonym i factor below r (Sound i r)
sums_none i scheme factor below top r fits gone is end = (
  subst (λ (u : Top). IsTop i u (synonym scheme factor below r)) (sym end) (sums_ended i scheme factor below r at_end (omega (arith, ap (λ (u : Top). u.head) is))),
  record { top = at_end; sound = subst (λ (s : Shape). Sound i s) (sym gone) tt; bounded = fits; small = omega (arith, ap (λ (u : Top). u.greatest) is) },
)
  where
    at_end : IsTop i below r
    at_end = subst (λ (s : Shape). IsTop i below s) (sym gone) (subst (λ (u : Top). IsTop i u ended) (sym is) (ended_top i))

-- one of which nothing is left
pub sums_gone : (i : Indexed) (target need spent : ℕ) (scheme : Scheme) (factor : ℕ) (t u : Top) (s r : Shape) → r ≡ ended → Accounts i target need spent spent (synonym scheme factor t s) (synonym scheme factor u r)
sums_gone i target need spent scheme factor t u s r is = subst (λ (r : Shape). Accounts i target need spent spent (synonym scheme factor t s) (synonym scheme factor u r)) (sym is) (record { keeps = by; advances = λ h. absurd h })
  where
    by : (kind : Kind) → Keeps (account_of i need kind) target spent spent (synonym scheme factor t s) (synonym scheme factor u ended)
    by (flat_to point) = record { kind = λ flat wdf enough. tt; paid = λ flat may. omega arith }
    by (plain_to point) = keeps_other (account_of i need (plain_to point)) target spent spent (synonym scheme factor t s) (synonym scheme factor u ended) (λ h. h)
    by with_lead = keeps_other (account_of i need with_lead) target spent spent (synonym scheme factor t s) (synonym scheme factor u ended) (λ h. h)
    by (lone_behind head unread) = keeps_other (account_of i need (lone_behind head unread)) target spent spent (synonym scheme factor t s) (synonym scheme factor u ended) (λ h. h)
    by (nest_behind head unread) = keeps_other (account_of i need (nest_behind head unread)) target spent spent (synonym scheme factor t s) (synonym scheme factor u ended) (λ h. h.1)

-- ---- asked for the least wdf that weighs what is needed

module _ (scheme : Scheme) (factor need wdf : ℕ) (least : (w : ℕ) → w < 2 ^ 29 → need ≤ weigh_by factor scheme w → wdf ≤ w) where
  sums_at : (a b : Option ℕ) → unwrap_or a 0 < 2 ^ 29 → CoversAt a b wdf → CoversAt (option_map (weigh_by factor scheme) a) (option_map (weigh_by factor scheme) b) need
  sums_at None None small covers = tt
  sums_at None (Some w) small covers = absurd covers
  sums_at (Some v) None small covers = elim (cases_lt (weigh_by factor scheme v) need) as (λ _. weigh_by factor scheme v < need) [
    | inl lt ↦ lt
    | inr le ↦ let more = least v small le in absurd (omega (arith, covers, more))
  ]
  sums_at (Some v) (Some w) small covers = (weigh_more factor scheme w v covers.0, λ enough. ap (weigh_by factor scheme) (covers.1 (least v small enough)))

  -- what covers the sums does so weighed
  pub sums_covers : (i : Indexed) (target : ℕ) (t u : Top) (s r : Shape) → IsSynonym i factor t s (Sound i s) → Covers (from_on target (rest i s)) (rest i r) wdf
      → Covers (from_on target (rest i (synonym scheme factor t s))) (rest i (synonym scheme factor u r)) need
  sums_covers i target t u s r sound covers = λ id.
      from_cases target (rest i (synonym scheme factor t s)) id (rest i (synonym scheme factor u r) id) need
      (λ le. sums_at (rest i s id) (rest i r id) (omega (arith, sound.top.bound id, sound.small)) (subst (λ (o : Option ℕ). CoversAt o (rest i r id) wdf) (from_on-at target (rest i s) id le) (covers id)))
      (λ lt. ap (option_map (weigh_by factor scheme)) (covers_none (from_on target (rest i s) id) (rest i r id) wdf (from_on-below target (rest i s) id lt) (covers id)))

  -- where the weights may be moved on, the sums may
  sums_goes : (point target : ℕ) (o : Option ℕ) → unwrap_or o 0 < 2 ^ 29 → MayGo point target need (option_map (weigh_by factor scheme) o) → MayGo point target wdf o
  sums_goes point target o small (inl last) = inl last
  sums_goes point target o small (inr (inl near)) = let le = least 0 (omega arith) (omega (arith, near.0)) in inr (inl (omega (arith, le), near.1))
  sums_goes point target None small (inr (inr wanted)) = absurd wanted.1
  sums_goes point target (Some w) small (inr (inr wanted)) = inr (inr (wanted.0, least w small wanted.1))

  module _ (few : wdf < 2 ^ 29) (enough : need ≤ weigh_by factor scheme wdf) (i : Indexed) (target before after : ℕ) (t u : Top) (s r : Shape) (sound : IsSynonym i factor t s (Sound i s)) (accounts : Accounts i target wdf before after s r) where
    least_of : (w : ℕ) → need ≤ weigh_by factor scheme w → wdf ≤ w
    least_of w le = elim (cases_lt w (2 ^ 29)) as (λ _. wdf ≤ w) [ inl lt ↦ least w lt le | inr more ↦ omega (arith, few, more) ]

    pub sums_accounts : Accounts i target need before after (synonym scheme factor t s) (synonym scheme factor u r)
    sums_accounts = record { keeps = by; advances = λ h. absurd h }
      where
        by : (kind : Kind) → Keeps (account_of i need kind) target before after (synonym scheme factor t s) (synonym scheme factor u r)
        by (flat_to point) = record {
          kind = λ flat w le. flat-mono r wdf w (least_of w le) ((accounts.keeps (flat_to point)).kind (flat wdf enough));
          paid = λ flat may. (accounts.keeps (flat_to point)).paid (flat wdf enough) (sums_goes point target (rest i s point) (omega (arith, sound.top.bound point, sound.small)) may);
        }
        by (plain_to point) = keeps_other (account_of i need (plain_to point)) target before after (synonym scheme factor t s) (synonym scheme factor u r) (λ h. h)
        by with_lead = keeps_other (account_of i need with_lead) target before after (synonym scheme factor t s) (synonym scheme factor u r) (λ h. h)
        by (lone_behind head unread) = keeps_other (account_of i need (lone_behind head unread)) target before after (synonym scheme factor t s) (synonym scheme factor u r) (λ h. h)
        by (nest_behind head unread) = keeps_other (account_of i need (nest_behind head unread)) target before after (synonym scheme factor t s) (synonym scheme factor u r) (λ h. h.1)
