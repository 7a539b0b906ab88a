-- The walk that finds the first fault.
use Rattle.std.proofs.Common.{◌≡◌, ◌≤◌, ◌<◌, ℕ, suc, pred, ◌+◌, Bool, false, List, [], ◌∷◌, length, drop, get_or, Option, Some, None, refl, sym, ap, ◌∙◌, arith, add-one, drop-cons}
use Rattle.sk_base.specs.declared.schema.Schema.{Schema}
use Rattle.sk_grammar.specs.declared.fault.FaultKind.{FaultKind}
use Rattle.sk_grammar.specs.declared.token.Kind.{Kind}
use Rattle.sk_grammar.specs.declared.token.Token.{Token}
use Rattle.sk_grammar.specs.Faults.{is_unclosed, fault_at, fault_behind, fault_in, fault_or, kinds_of, depth_behind}
use Rattle.sk_faults.specs.declared.before.Before.{Before}
use Rattle.sk_faults.specs.Before.{Is, unclosed_from, is_at}
use Rattle.sk_faults.proofs.UnclosedLemmas.{at_unclosed, past_unclosed}

-- No token before this place has a fault.
pub record Reached (schema : Schema) (tokens : List Token) (unclosed : Option ℕ) (i : ℕ) (b : Before) : Type 0 where
  pub before : List Kind
  pub is : Is b before
  pub rest : fault_behind schema before (drop i tokens) ≡ fault_in schema tokens
  pub first : unclosed ≡ unclosed_from i (kinds_of (drop i tokens))
  pub few : b.leaves ≤ 1024
  pub deep : b.depth ≤ i

-- The next token of a list.
pub next_dropped : (ts : List Token) (i : ℕ) (t : Token) → i < length ts → t ≡ get_or ts i t → drop i ts ≡ t ∷ drop (i + 1) ts
next_dropped ts i t l e = rw add-one (drop-cons ts i t l ∙ ap (λ w. w ∷ drop (suc i) ts) (sym e))

-- Before the first token.
pub reached_start : (schema : Schema) (tokens : List Token) (unclosed : Option ℕ) (b : Before) → Is b [] → unclosed ≡ unclosed_from 0 (kinds_of tokens)
    → b.leaves ≡ 0 → b.depth ≡ 0 → Reached schema tokens unclosed 0 b
reached_start schema tokens unclosed b is first few deep =
    record { before = []; is = is; rest = refl; first = first; few = omega arith; deep = omega arith }

-- What is known of the token at a place.
module _ (schema : Schema) (tokens : List Token) (unclosed : Option ℕ) (i : ℕ) (b : Before) (t : Token) (behind : List Token) (flag : Bool) (fault : Option FaultKind)
    (r : Reached schema tokens unclosed i b) (cut : drop i tokens ≡ t ∷ behind) (at : flag ≡ is_at unclosed i)
    (value : (ks : List Kind) → Is b ks → flag ≡ is_unclosed ks t.kind (kinds_of behind) → fault ≡ fault_at schema ks t.kind (kinds_of behind)) where
  first_here : unclosed ≡ unclosed_from i (t.kind ∷ kinds_of behind)
  first_here = r.first ∙ ap (λ ts. unclosed_from i (kinds_of ts)) cut

  fault_here : fault ≡ fault_at schema r.before t.kind (kinds_of behind)
  fault_here = value r.before r.is (at ∙ at_unclosed r.before i t.kind (kinds_of behind) unclosed first_here)

  rest_here : fault_or fault t.from (fault_behind schema (t.kind ∷ r.before) behind) ≡ fault_in schema tokens
  rest_here =
      ap (λ o. fault_or o t.from (fault_behind schema (t.kind ∷ r.before) behind)) fault_here
      ∙ ap (fault_behind schema r.before) (sym cut) ∙ r.rest

  -- It has a fault.
  pub reached_fault : (kind : FaultKind) → fault ≡ Some kind → Some (kind, t.from) ≡ fault_in schema tokens
  reached_fault kind e = ap (λ o. fault_or o t.from (fault_behind schema (t.kind ∷ r.before) behind)) (sym e) ∙ rest_here

  -- It has none.
  pub reached_next : (c : Before) → fault ≡ None → flag ≡ false → behind ≡ drop (i + 1) tokens → ((ks : List Kind) → Is b ks → Is c (t.kind ∷ ks)) → c.leaves ≤ 1024 → c.depth ≤ i + 1
      → Reached schema tokens unclosed (i + 1) c
  reached_next c e none later kept few deep = record {
    before = t.kind ∷ r.before;
    is = kept r.before r.is;
    rest = ap (fault_behind schema (t.kind ∷ r.before)) (sym later) ∙ ap (λ o. fault_or o t.from (fault_behind schema (t.kind ∷ r.before) behind)) (sym e) ∙ rest_here;
    first = past_unclosed i t.kind (kinds_of behind) unclosed first_here (sym at ∙ none) ∙ (λ k. unclosed_from (sym (add-one i) k) (kinds_of (later k)));
    few = few;
    deep = deep;
  }

-- A token opens one bracket at the most.
pub depth_step : (d : ℕ) (k : Kind) → depth_behind d k ≤ d + 1
depth_step d (Kind.Open field) = let up : suc d ≤ d + 1 = omega arith in up
depth_step d Kind.Close = let down : pred d ≤ d + 1 = omega arith in down
depth_step d k = let same : d ≤ d + 1 = omega arith in same
