-- The parts of brackets fit, and have no more leaves than their tokens.
use Rattle.std.proofs.Common.{◌≡◌, ◌≤◌, ◌<◌, ℕ, zero, suc, pred, ◌+◌, ◌*◌, max, Bool, true, false, ◌&&◌, nat_le, nat_lt, List, [], ◌∷◌, length, reverse, Option, Some, None, IfSome, refl, ap, ◌∙◌, arith}
use Rattle.std.proofs.lemmas.Bool.Decides.{nat_tests}
use Rattle.std.proofs.lemmas.List.{length-map}
use Rattle.std.specs.List.{list_all, slice_get}
use Rattle.std.proofs.lemmas.Bool.{and_from}
use Rattle.sk_base.proofs.Tests.{first_so, second_so}
use Rattle.sk_base.specs.declared.schema.Field.{Field}
use Rattle.sk_base.specs.declared.schema.Schema.{Schema}
use Rattle.sk_base.specs.declared.schema.FieldKind.{FieldKind}
use Rattle.sk_base.specs.declared.find.Join.{Join}
use Rattle.sk_base.specs.Fields.{is_field, is_kind}
use Rattle.sk_base.specs.Terms.{prefixed, is_given}
use Rattle.sk_query.specs.Fits.{is_slot, leaves_of as tree_leaves}
use Rattle.sk_grammar.specs.declared.token.Kind.{Kind}
use Rattle.sk_grammar.specs.Brackets.{Nest, single, bracket, Nests, no_nests, nest, Levels, opened, with_token, levels_of}
use Rattle.sk_grammar.specs.Faults.{is_open, is_distance, depth_behind, leaves_by, leaves_among}
use Rattle.sk_stem.specs.Stems.{stem}
use Rattle.sk_grammar.specs.Parts.{Part, prefix_of, prefix_in, side_by_side, slot_of, range_in, all_prefixed, stem_asked, single_part, chained}
use Rattle.sk_grammar.specs.Meaning.{closed_part, nest_part, nest_parts, tree_in}
use Rattle.sk_meaning.proofs.TermLemmas.{text_prefixed, prefix_prefixed}
use Rattle.sk_meaning.proofs.PieceLemmas.{is_filled, field_sound, kind_sound}
use Rattle.sk_meaning.proofs.TokenLemmas.{is_linkable, IsShallow}
use Rattle.sk_meaning.proofs.FitLemmas.{Fits, PartFits, PartsFit, part_deeper, parts_deeper, chained_fit, closed_fits, reverse_fit, parts_tree_fits}
use Rattle.sk_meaning.proofs.LeafLemmas.{part_leaves, parts_leaves, chained_leaves, closed_leaves, reverse_leaves, parts_tree_leaves}

-- A token that is as it is in a text without a fault.
abbrev pub IsGood : Schema → Kind → Type 0
IsGood schema k = (is_filled schema k ≡ true) × (is_linkable k ≡ true)

abbrev pub AreGood : Schema → List Kind → Type 0
AreGood schema [] = Unit {0}
AreGood schema (k ∷ ks) = IsGood schema k × AreGood schema ks

pub are_good : (schema : Schema) (ks : List Kind) → list_all (is_filled schema) ks ≡ true → list_all is_linkable ks ≡ true → AreGood schema ks
are_good schema [] e f = tt
are_good schema (k ∷ ks) e f = (
  (first_so (is_filled schema k) (list_all (is_filled schema) ks) e, first_so (is_linkable k) (list_all is_linkable ks) f),
  are_good schema ks (second_so (is_filled schema k) (list_all (is_filled schema) ks) e) (second_so (is_linkable k) (list_all is_linkable ks) f),
)

-- The terms of a token under a prefix.
all_given : (prefix : List ℕ) (ts : List (List ℕ)) → list_all is_given ts ≡ true → list_all is_given (all_prefixed prefix ts) ≡ true
all_given prefix [] e = refl
all_given prefix (t ∷ ts) e =
    and_from (is_given (prefixed prefix t)) (list_all is_given (all_prefixed prefix ts)) (text_prefixed prefix t (first_so (is_given t) (list_all is_given ts) e))
    (all_given prefix ts (second_so (is_given t) (list_all is_given ts) e))

-- Words side by side.
side_fits : (ts : List (List ℕ)) → list_all is_given ts ≡ true → Fits 1 (side_by_side ts)
side_fits [] e = record { sound = λ few. refl; deep = omega arith }
side_fits (t ∷ []) e = record { sound = λ few. first_so (is_given t) true e; deep = omega arith }
side_fits (t ∷ u ∷ ts) e = record {
  sound = λ few. and_from (nat_le 1 (suc (suc (length ts))) && nat_le (suc (suc (length ts))) 1048576) (nat_lt 0 (suc (suc (length ts))) && list_all is_given (t ∷ u ∷ ts)) (window (length ts) few)
      (and_from (nat_lt 0 (suc (suc (length ts)))) (list_all is_given (t ∷ u ∷ ts)) (grind (arith, nat_tests)) e);
  deep = omega arith;
}
  where
    window : (n : ℕ) → suc (suc n) ≤ 1024 → (nat_le 1 (suc (suc n)) && nat_le (suc (suc n)) 1048576) ≡ true
    window n h = grind (arith, nat_tests)

side_leaves : (ts : List (List ℕ)) → tree_leaves (side_by_side ts) ≡ length ts
side_leaves [] = refl
side_leaves (t ∷ []) = refl
side_leaves (t ∷ u ∷ ts) = refl

-- A range's slot is one of a field.
slot_sound : (kind : FieldKind) → is_kind kind ≡ true → is_slot (slot_of kind) ≡ true
slot_sound (FieldKind.Text prefix step) e = refl
slot_sound (FieldKind.Filter prefix) e = refl
slot_sound (FieldKind.Number slot) e = e
slot_sound (FieldKind.Word slot) e = e

range_fits : (o : Option Field) (text : List ℕ) → IfSome o (λ field. is_field field ≡ true) → Fits 1 (range_in o text)
range_fits None text e = record { sound = λ few. refl; deep = omega arith }
range_fits (Some field) text e = record { sound = λ few. slot_sound (Field.kind field) (kind_sound field e); deep = omega arith }

range_leaves : (o : Option Field) (text : List ℕ) → tree_leaves (range_in o text) ≤ 1
range_leaves None text = omega arith
range_leaves (Some field) text = omega arith

distance_within : (n : ℕ) → is_distance n ≡ true → n ≤ 10000
distance_within n e = grind (arith, nat_tests)

stem_fits : (stems capital : Bool) (prefix t : List ℕ) → IfSome (stem_asked stems capital prefix t) (λ s. is_given s ≡ true)
stem_fits true true prefix t = tt
stem_fits true false prefix t = one_more (length (prefixed prefix (stem t)))
  where
    one_more : (n : ℕ) → nat_lt 0 (suc n) ≡ true
    one_more n = grind (arith, nat_tests)
stem_fits false capital prefix t = tt

-- The part that a token is.
part_fits : (schema : Schema) (around : List ℕ) (k : Kind) → list_all is_field schema.fields ≡ true → IsGood schema k → PartFits 1 (single_part schema around k)
part_fits schema around (Kind.Word field t capital) sound h =
    (omega arith, and_from (is_given (prefixed (prefix_in schema around field) t)) true (text_prefixed (prefix_in schema around field) t h.0) refl, stem_fits schema.stem capital (prefix_in schema around field) t)
part_fits schema around (Kind.Wild field t) sound h = record { sound = λ few. text_prefixed (prefix_in schema around field) t h.0; deep = omega arith }
part_fits schema around (Kind.Joined field ts) sound h = side_fits (all_prefixed (prefix_in schema around field) ts) (all_given (prefix_in schema around field) ts h.0)
part_fits schema around (Kind.Quote field ts) sound h = side_fits (all_prefixed (prefix_in schema around field) ts) (all_given (prefix_in schema around field) ts h.0)
part_fits schema around (Kind.Filter f text) sound h = record { sound = λ few. prefix_prefixed (prefix_of (slice_get schema.fields f)) text h.0; deep = omega arith }
part_fits schema around (Kind.Range f text) sound h = range_fits (slice_get schema.fields f) text (field_sound schema.fields f sound)
part_fits schema around (Kind.Near n) sound h = distance_within n h.1
part_fits schema around (Kind.Adj n) sound h = distance_within n h.1
part_fits schema around k sound h = tt

part_few : (schema : Schema) (around : List ℕ) (k : Kind) → part_leaves (single_part schema around k) ≤ leaves_by k
part_few schema around (Kind.Word field t capital) = omega arith
part_few schema around (Kind.Wild field t) = omega arith
part_few schema around (Kind.Joined field ts) =
    let a = side_leaves (all_prefixed (prefix_in schema around field) ts) in let b = length-map ts (prefixed (prefix_in schema around field)) in omega (arith, a, b)
part_few schema around (Kind.Quote field ts) =
    let a = side_leaves (all_prefixed (prefix_in schema around field) ts) in let b = length-map ts (prefixed (prefix_in schema around field)) in omega (arith, a, b)
part_few schema around (Kind.Filter f text) = omega arith
part_few schema around (Kind.Range f text) = range_leaves (slice_get schema.fields f) text
part_few schema around k = omega arith

-- What brackets hold.
abbrev mutual
  NestGood : Schema → Nest → Type 0
  NestGood schema (single k) = IsGood schema k
  NestGood schema (bracket field ns) = NestsGood schema ns

  NestsGood : Schema → Nests → Type 0
  NestsGood schema no_nests = Unit {0}
  NestsGood schema (nest n ns) = NestGood schema n × NestsGood schema ns

abbrev mutual
  nest_leaves : Nest → ℕ
  nest_leaves (single k) = leaves_by k
  nest_leaves (bracket field ns) = nests_leaves ns

  nests_leaves : Nests → ℕ
  nests_leaves no_nests = 0
  nests_leaves (nest n ns) = nest_leaves n + nests_leaves ns

-- How many brackets stand one inside another.
abbrev mutual
  nest_depth : Nest → ℕ
  nest_depth (single k) = 0
  nest_depth (bracket field ns) = suc (nests_depth ns)

  nests_depth : Nests → ℕ
  nests_depth no_nests = 0
  nests_depth (nest n ns) = max (nest_depth n) (nests_depth ns)

mutual
  nest_fits : (schema : Schema) (join : Join) (around : List ℕ) (n : Nest) → list_all is_field schema.fields ≡ true → NestGood schema n
      → PartFits (1 + 8 * nest_depth n) (nest_part schema join around n)
  nest_fits schema join around (single k) sound h = part_fits schema around k sound h
  nest_fits schema join around (bracket field ns) sound h =
      part_deeper (1 + 8 * nests_depth ns + 8) (1 + 8 * suc (nests_depth ns)) (closed_part join (chained [] (nest_parts schema join (prefix_in schema around field) ns))) (omega arith)
      (closed_fits (1 + 8 * nests_depth ns) join (chained [] (nest_parts schema join (prefix_in schema around field) ns)) (omega arith)
      (chained_fit (1 + 8 * nests_depth ns) [] (nest_parts schema join (prefix_in schema around field) ns) tt (nests_fit schema join (prefix_in schema around field) ns sound h)))

  nests_fit : (schema : Schema) (join : Join) (around : List ℕ) (ns : Nests) → list_all is_field schema.fields ≡ true → NestsGood schema ns
      → PartsFit (1 + 8 * nests_depth ns) (nest_parts schema join around ns)
  nests_fit schema join around no_nests sound h = tt
  nests_fit schema join around (nest n ns) sound h = (
    part_deeper (1 + 8 * nest_depth n) (1 + 8 * max (nest_depth n) (nests_depth ns)) (nest_part schema join around n) (omega arith) (nest_fits schema join around n sound h.0),
    parts_deeper (1 + 8 * nests_depth ns) (1 + 8 * max (nest_depth n) (nests_depth ns)) (nest_parts schema join around ns) (omega arith) (nests_fit schema join around ns sound h.1),
  )

mutual
  nest_few : (schema : Schema) (join : Join) (around : List ℕ) (n : Nest) → part_leaves (nest_part schema join around n) ≤ nest_leaves n
  nest_few schema join around (single k) = part_few schema around k
  nest_few schema join around (bracket field ns) =
      let a = closed_leaves join (chained [] (nest_parts schema join (prefix_in schema around field) ns)) in
      let b = chained_leaves [] (nest_parts schema join (prefix_in schema around field) ns) in
      let c = nests_few schema join (prefix_in schema around field) ns in
      omega (arith, a, b, c)

  nests_few : (schema : Schema) (join : Join) (around : List ℕ) (ns : Nests) → parts_leaves (nest_parts schema join around ns) ≤ nests_leaves ns
  nests_few schema join around no_nests = omega arith
  nests_few schema join around (nest n ns) = let a = nest_few schema join around n in let b = nests_few schema join around ns in omega (arith, a, b)

-- What stands behind a place: no bracket there stands inside more than 100, where so many are open before it.
abbrev BehindShallow : ℕ → List Nests → Type 0
BehindShallow depth [] = Unit {0}
BehindShallow depth (next ∷ more) = (pred depth + nests_depth next ≤ 100) × BehindShallow (pred depth) more

record LevelsShallow (depth : ℕ) (behind : Levels) : Type 0 where
  here : depth + nests_depth (Levels.here behind) ≤ 100
  outside : BehindShallow depth (Levels.outside behind)

opened_shallow : (depth : ℕ) (field : Option ℕ) (here : Nests) (outside : List Nests) → suc depth + nests_depth here ≤ 100 → BehindShallow (suc depth) outside → LevelsShallow depth (opened field here outside)
opened_shallow depth field here [] h f = record { here = omega arith; outside = tt }
opened_shallow depth field here (next ∷ more) h f = let first = f.0 in record { here = omega arith; outside = f.1 }

token_shallow : (depth : ℕ) (k : Kind) (behind : Levels) → depth ≤ 100 → LevelsShallow (depth_behind depth k) behind → LevelsShallow depth (with_token k behind)
token_shallow depth (Kind.Open field) behind h f = opened_shallow depth field (Levels.here behind) (Levels.outside behind) f.here f.outside
token_shallow depth Kind.Close behind h f = record { here = omega arith; outside = (f.here, f.outside) }
token_shallow depth k behind h f = record { here = let deep = f.here in omega arith; outside = f.outside }

step_within : (depth : ℕ) (k : Kind) → depth ≤ 100 → (is_open k ≡ true → depth < 100) → depth_behind depth k ≤ 100
step_within depth (Kind.Open field) h f = let more = f refl in omega arith
step_within zero Kind.Close h f = h
step_within (suc depth) Kind.Close h f = omega arith
step_within depth k h f = h

levels_shallow : (ks : List Kind) (depth : ℕ) → depth ≤ 100 → IsShallow depth ks → LevelsShallow depth (levels_of ks)
levels_shallow [] depth h f = record { here = omega arith; outside = tt }
levels_shallow (k ∷ ks) depth h f = token_shallow depth k (levels_of ks) h (levels_shallow ks (depth_behind depth k) (step_within depth k h f.0) f.1)

-- The tokens behind a place, by their brackets.
abbrev AllNestsGood : Schema → List Nests → Type 0
AllNestsGood schema [] = Unit {0}
AllNestsGood schema (ns ∷ more) = NestsGood schema ns × AllNestsGood schema more

record LevelsGood (schema : Schema) (behind : Levels) : Type 0 where
  here : NestsGood schema (Levels.here behind)
  outside : AllNestsGood schema (Levels.outside behind)

opened_good : (schema : Schema) (field : Option ℕ) (here : Nests) (outside : List Nests) → NestsGood schema here → AllNestsGood schema outside → LevelsGood schema (opened field here outside)
opened_good schema field here [] f g = record { here = (f, tt); outside = tt }
opened_good schema field here (next ∷ more) f g = record { here = (f, g.0); outside = g.1 }

token_good : (schema : Schema) (k : Kind) (behind : Levels) → IsGood schema k → LevelsGood schema behind → LevelsGood schema (with_token k behind)
token_good schema (Kind.Open field) behind h f = opened_good schema field (Levels.here behind) (Levels.outside behind) f.here f.outside
token_good schema Kind.Close behind h f = record { here = tt; outside = (f.here, f.outside) }
token_good schema k behind h f = record { here = (h, f.here); outside = f.outside }

levels_good : (schema : Schema) (ks : List Kind) → AreGood schema ks → LevelsGood schema (levels_of ks)
levels_good schema [] h = record { here = tt; outside = tt }
levels_good schema (k ∷ ks) h = token_good schema k (levels_of ks) h.0 (levels_good schema ks h.1)

abbrev outside_leaves : List Nests → ℕ
outside_leaves [] = 0
outside_leaves (ns ∷ more) = nests_leaves ns + outside_leaves more

abbrev levels_leaves : Levels → ℕ
levels_leaves behind = nests_leaves (Levels.here behind) + outside_leaves (Levels.outside behind)

opened_leaves : (field : Option ℕ) (here : Nests) (outside : List Nests) → levels_leaves (opened field here outside) ≡ nests_leaves here + outside_leaves outside
opened_leaves field here [] = omega arith
opened_leaves field here (next ∷ more) = omega arith

token_leaves : (k : Kind) (behind : Levels) → levels_leaves (with_token k behind) ≡ leaves_by k + levels_leaves behind
token_leaves (Kind.Open field) behind = opened_leaves field (Levels.here behind) (Levels.outside behind) ∙ omega arith
token_leaves Kind.Close behind = omega arith
token_leaves k behind = omega arith

all_leaves : (ks : List Kind) → levels_leaves (levels_of ks) ≡ leaves_among ks
all_leaves [] = refl
all_leaves (k ∷ ks) = token_leaves k (levels_of ks) ∙ ap (λ n. leaves_by k + n) (all_leaves ks)

-- The query of tokens.
pub tree_in_fits : (schema : Schema) (join : Join) (ks : List Kind) → list_all is_field schema.fields ≡ true → AreGood schema ks → IsShallow 0 ks → Fits 809 (tree_in schema join ks)
tree_in_fits schema join ks sound good shallow =
    let here : Nests = Levels.here (levels_of ks) in
    let deep : 0 + nests_depth here ≤ 100 = (levels_shallow ks 0 (omega arith) shallow).here in
    let made : PartsFit (1 + 8 * nests_depth here) (nest_parts schema join [] here) = nests_fit schema join [] here sound (levels_good schema ks good).here in
    let turned : PartsFit 801 (reverse (chained [] (nest_parts schema join [] here))) =
    reverse_fit 801 (chained [] (nest_parts schema join [] here))
    (chained_fit 801 [] (nest_parts schema join [] here) tt (parts_deeper (1 + 8 * nests_depth here) 801 (nest_parts schema join [] here) (omega arith) made)) in
    parts_tree_fits 801 join (reverse (chained [] (nest_parts schema join [] here))) (omega arith) turned

pub tree_in_leaves : (schema : Schema) (join : Join) (ks : List Kind) → tree_leaves (tree_in schema join ks) ≤ leaves_among ks
tree_in_leaves schema join ks =
    let here : Nests = Levels.here (levels_of ks) in
    let parts : List Part = nest_parts schema join [] here in
    let a = parts_tree_leaves join (reverse (chained [] parts)) in
    let b = reverse_leaves (chained [] parts) in
    let c = chained_leaves [] parts in
    let d = nests_few schema join [] here in
    let e = all_leaves ks in
    omega (arith, a, b, c, d, e)
