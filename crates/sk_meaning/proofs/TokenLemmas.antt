-- What the tokens of a text without a fault are.
use Rattle.std.proofs.Common.{◌≡◌, ◌≤◌, ◌<◌, ℕ, zero, suc, pred, ◌+◌, Bool, true, false, ◌&&◌, ◌||◌, not, nat_le, nat_lt, if◌then◌else◌, List, [], ◌∷◌, ◌++◌, take, drop, chars, Option, Some, None, refl, ap, arith}
use Rattle.std.proofs.lemmas.Bool.Decides.{nat_tests}
use Rattle.std.specs.List.{list_all}
use Rattle.std.proofs.lemmas.Bool.{and_from}
use Rattle.sk_base.specs.declared.schema.Schema.{Schema}
use Rattle.sk_base.specs.Fields.{is_field}
use Rattle.sk_grammar.specs.declared.fault.FaultKind.{FaultKind}
use Rattle.sk_grammar.specs.declared.token.Kind.{Kind}
use Rattle.sk_grammar.specs.declared.token.Token.{Token}
use Rattle.sk_grammar.specs.Pieces.{Piece, piece_at}
use Rattle.sk_grammar.specs.Cutting.{pieces_behind, pieces_of, token_at, byte_len, tokens_from, tokens_of}
use Rattle.sk_grammar.specs.Faults.{is_item, is_open, is_distance, is_between, depth_behind, brackets_at, leaves_by, leaves_among, is_stray, is_unclosed, lacks_operand, is_bad_near, is_bad_range, is_too_deep, is_too_many, fault_at, fault_or, fault_behind, fault_in, kinds_of, second_is, is_adj_sign, is_near_sign}
use Rattle.sk_meaning.proofs.PieceLemmas.{is_filled, KindFilled, PieceFilled, piece_filled}

-- The tokens of a text are filled.
abbrev AllFilled : Schema → List Piece → Type 0
AllFilled schema [] = Unit {0}
AllFilled schema (p ∷ ps) = PieceFilled schema p × AllFilled schema ps

behind_filled : (schema : Schema) (cs : List ℕ) (before : Option ℕ) (n : ℕ) → list_all is_field schema.fields ≡ true → AllFilled schema (pieces_behind schema before n cs)
behind_filled schema [] before n sound = tt
behind_filled schema (c ∷ cs) before (suc n) sound = behind_filled schema cs (Some c) n sound
behind_filled schema (c ∷ cs) before zero sound =
    (piece_filled schema before c cs sound, behind_filled schema cs (Some c) (pred (Piece.size (piece_at schema before c cs))) sound)

placed_filled : (schema : Schema) (o : Option Kind) (from to : ℕ) (ts : List Token) → KindFilled schema o → list_all (is_filled schema) (kinds_of ts) ≡ true
    → list_all (is_filled schema) (kinds_of (token_at o from to ++ ts)) ≡ true
placed_filled schema None from to ts f g = g
placed_filled schema (Some k) from to ts f g = and_from (is_filled schema k) (list_all (is_filled schema) (kinds_of ts)) f g

from_filled : (schema : Schema) (ps : List Piece) (at : ℕ) (left : List ℕ) → AllFilled schema ps → list_all (is_filled schema) (kinds_of (tokens_from at left ps)) ≡ true
from_filled schema [] at left h = refl
from_filled schema (p ∷ ps) at left h =
    placed_filled schema p.kind at (at + byte_len (take p.size left)) (tokens_from (at + byte_len (take p.size left)) (drop p.size left) ps) h.0
    (from_filled schema ps (at + byte_len (take p.size left)) (drop p.size left) h.1)

pub tokens_filled : (schema : Schema) (text : List ℕ) → list_all is_field schema.fields ≡ true → list_all (is_filled schema) (kinds_of (tokens_of schema text)) ≡ true
tokens_filled schema text sound = from_filled schema (pieces_of schema (chars text)) 0 (chars text) (behind_filled schema (chars text) None 0 sound)

-- The distance of NEAR and ADJ is one.
abbrev pub is_linkable : Kind → Bool
is_linkable (Kind.Near n) = is_distance n
is_linkable (Kind.Adj n) = is_distance n
is_linkable _ = true

-- No more than 100 brackets are open, where so many are open before these tokens.
abbrev pub IsShallow : ℕ → List Kind → Type 0
IsShallow depth [] = Unit {0}
IsShallow depth (k ∷ ks) = (is_open k ≡ true → depth < 100) × IsShallow (depth_behind depth k) ks

-- What a token without a fault is.
record IsFaultless (before : List Kind) (k : Kind) : Type 0 where
  link : is_linkable k ≡ true
  deep : is_open k ≡ true → brackets_at before < 100
  few : leaves_among before ≤ 1024 → leaves_among before + leaves_by k ≤ 1024

pub past : (b : Bool) (x : FaultKind) (o : Option FaultKind) → (if b then Some x else o) ≡ None → (b ≡ false) × (o ≡ None)
past true x o e = absurd (cc)
past false x o e = (refl, e)

pub or_none : (o : Option FaultKind) (p : ℕ) (later : Option (FaultKind × ℕ)) → fault_or o p later ≡ None → (o ≡ None) × (later ≡ None)
or_none None p later e = (refl, e)
or_none (Some x) p later e = absurd (cc)

middle : (a b c : Bool) → (not a || not b || c) ≡ false → b ≡ true
middle true true c e = refl
middle true false c e = absurd (cc)
middle false true c e = refl
middle false false c e = absurd (cc)

near_linkable : (before : List Kind) (k : Kind) (behind : List Kind) → is_bad_near before k behind ≡ false → is_linkable k ≡ true
near_linkable before (Kind.Near n) behind e = middle (is_between before behind) (is_distance n) (second_is is_adj_sign before) e
near_linkable before (Kind.Adj n) behind e = middle (is_between before behind) (is_distance n) (second_is is_near_sign before) e
near_linkable before k behind e = refl

deep_within : (b : Bool) (n : ℕ) → (b && nat_le 100 n) ≡ false → b ≡ true → n < 100
deep_within true n e f = grind (arith, nat_tests)
deep_within false n e f = absurd (cc)

-- What is no item has no leaves.
no_leaves : (k : Kind) → is_item k ≡ false → leaves_by k ≡ 0
no_leaves (Kind.Joined field ts) e = absurd (cc)
no_leaves (Kind.Quote field ts) e = absurd (cc)
no_leaves k e = ap (λ (b : Bool). if b then 1 else 0) e

few_within : (b : Bool) (n m : ℕ) → (b ≡ false → m ≡ 0) → (b && nat_le n 1024 && nat_lt 1024 (n + m)) ≡ false → n ≤ 1024 → n + m ≤ 1024
few_within true n m f e h = grind (arith, nat_tests)
few_within false n m f e h = let none = f refl in omega arith

faultless : (schema : Schema) (before : List Kind) (k : Kind) (behind : List Kind) → fault_at schema before k behind ≡ None → IsFaultless before k
faultless schema before k behind e =
    let a = past (is_stray before k) FaultKind.StrayBracket _ e in
    let b = past (is_unclosed before k behind) FaultKind.UnclosedBracket _ a.1 in
    let c = past (lacks_operand before k behind) FaultKind.MissingOperand _ b.1 in
    let d = past (is_bad_near before k behind) FaultKind.BadNear _ c.1 in
    let f = past (is_bad_range schema k) FaultKind.BadRange _ d.1 in
    let g = past (is_too_deep before k) FaultKind.TooDeep _ f.1 in
    let h = past (is_too_many before k) FaultKind.TooMany _ g.1 in
    record {
      link = near_linkable before k behind d.0;
      deep = deep_within (is_open k) (brackets_at before) g.0;
      few = few_within (is_item k) (leaves_among before) (leaves_by k) (no_leaves k) h.0;
    }

-- What tokens without a fault are, behind others.
pub record AreFaultless (before ks : List Kind) : Type 0 where
  pub links : list_all is_linkable ks ≡ true
  pub shallow : IsShallow (brackets_at before) ks
  pub few : leaves_among before ≤ 1024 → leaves_among before + leaves_among ks ≤ 1024

more_faultless : (before : List Kind) (k : Kind) (ks : List Kind) → IsFaultless before k → AreFaultless (k ∷ before) ks → AreFaultless before (k ∷ ks)
more_faultless before k ks one more = record {
  links = and_from (is_linkable k) (list_all is_linkable ks) one.link more.links;
  shallow = (one.deep, more.shallow);
  few = λ h. let first = one.few h in let rest = more.few (omega arith) in omega arith;
}

faultless_behind : (schema : Schema) (before : List Kind) (ts : List Token) → fault_behind schema before ts ≡ None → AreFaultless before (kinds_of ts)
faultless_behind schema before [] e = record { links = refl; shallow = tt; few = λ h. omega arith }
faultless_behind schema before (t ∷ ts) e =
    let parts = or_none (fault_at schema before (Token.kind t) (kinds_of ts)) (Token.from t) (fault_behind schema (Token.kind t ∷ before) ts) e in
    more_faultless before (Token.kind t) (kinds_of ts) (faultless schema before (Token.kind t) (kinds_of ts) parts.0) (faultless_behind schema (Token.kind t ∷ before) ts parts.1)

pub faultless_in : (schema : Schema) (ts : List Token) → fault_in schema ts ≡ None → AreFaultless [] (kinds_of ts)
faultless_in schema ts e = faultless_behind schema [] ts e
