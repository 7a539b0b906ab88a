-- What a nest of two-sided nodes makes of the scores of parts.
use Rattle.std.proofs.Common.{◌≡◌, ◌≤◌, ◌<◌, ◌+◌, ◌^◌, ◌&&◌, ℕ, max, nat_le, true, false, List, [], ◌∷◌, ◌++◌, length, take, drop, Option, None, Some, All, is_some, is_none, unwrap_or, refl, sym, subst, ap, ◌∙◌, arith}
use Rattle.std.proofs.lemmas.Bool.Decides.{nat_tests}
use Rattle.std.proofs.lemmas.List.{take-append-drop}
use Rattle.std.proofs.lemmas.Bool.{and_from, and_parts}
use Rattle.sk_base.specs.declared.find.Scheme.{Scheme}
use Rattle.sk_base.specs.Loads.{IsLight}
use Rattle.sk_base.specs.Numbers.{Docs}
use Rattle.sk_query.specs.declared.form.Form.{Form}
use Rattle.sk_query.specs.declared.query.Query.{Query}
use Rattle.sk_query.specs.Trees as Trees
use Rattle.sk_query.specs.Trees.{query_view, queries_view, parts, no_trees, tree}
use Rattle.sk_query.specs.Fits.{is_sound, are_sound, has_parts, leaves_of, leaves_in, depth_of, fits_tree}
use Rattle.sk_model.specs.Documents.{Document}
use Rattle.sk_model.specs.Combining.{both, either, sum_of_all, sum_of_any, where_so, with_more, combined}
use Rattle.sk_model.specs.Scores.{score, scores}
use Rattle.sk_model.specs.Bounds.{sum_in, greatest_in, first_in, ceil_of, ceil, ceils}
use Rattle.sk_model.specs.Allowance.{leaves_readings}
use Rattle.sk_model.proofs.CombiningLaws.{both-end, either-end, greater-end, sum_of_all-append, sum_of_any-append, greatest_score-append, not_others}
use Rattle.sk_model.proofs.CoverLaws.{two_xor}
use Rattle.sk_model.proofs.WeightLaws.{ceil_small}
use Rattle.sk_decay.specs.Sides.{paired, greatest_under}
use Rattle.sk_decay.proofs.SideLaws.{paired-none}
use Rattle.sk_nodes.proofs.ManyLaws.{none_xor}
use Rattle.sk_tree.specs.Opened.{part_count, joint_score_of, others_of, query_size, parts_size, is_nest, part_scores, score_of, AreParts}

-- ---- parts, one behind the other

abbrev pub joined : Trees.Trees → Trees.Trees → Trees.Trees
joined no_trees us = us
joined (tree t ts) us = tree t (joined ts us)

pub queries_view-append : (xs ys : List Query) → queries_view (xs ++ ys) ≡ joined (queries_view xs) (queries_view ys)
queries_view-append [] ys = refl
queries_view-append (x ∷ xs) ys = ap (tree (query_view x)) (queries_view-append xs ys)

pub scores-joined : (ts us : Trees.Trees) (scheme : Scheme) (factor : ℕ) (d : Document) → scores (joined ts us) scheme factor d ≡ scores ts scheme factor d ++ scores us scheme factor d
scores-joined no_trees us scheme factor d = refl
scores-joined (tree t ts) us scheme factor d = ap (λ (ss : List (Option ℕ)). score t scheme factor d ∷ ss) (scores-joined ts us scheme factor d)

pub ceils-joined : (ts us : Trees.Trees) (scheme : Scheme) (factor : ℕ) (docs : Docs) → ceils (joined ts us) scheme factor docs ≡ ceils ts scheme factor docs ++ ceils us scheme factor docs
ceils-joined no_trees us scheme factor docs = refl
ceils-joined (tree t ts) us scheme factor docs = ap (λ (bs : List ℕ). ceil t scheme factor docs ∷ bs) (ceils-joined ts us scheme factor docs)

pub leaves_in-joined : (ts us : Trees.Trees) → leaves_in (joined ts us) ≡ leaves_in ts + leaves_in us
leaves_in-joined no_trees us = omega arith
leaves_in-joined (tree t ts) us = let rest = leaves_in-joined ts us in omega (arith, rest)

pub readings-joined : (ts us : Trees.Trees) (docs : Docs) → leaves_readings (joined ts us) docs ≡ leaves_readings ts docs + leaves_readings us docs
readings-joined no_trees us docs = omega arith
readings-joined (tree t ts) us docs = let rest = readings-joined ts us docs in omega (arith, rest)

pub are_sound-joined : (ts us : Trees.Trees) (factor : ℕ) → are_sound factor (joined ts us) ≡ true → (are_sound factor ts ≡ true) × (are_sound factor us ≡ true)
are_sound-joined no_trees us factor e = (refl, e)
are_sound-joined (tree t ts) us factor e =
    let here = and_parts (is_sound factor t) (are_sound factor (joined ts us)) e in
    let rest = are_sound-joined ts us factor here.1 in
    (and_from (is_sound factor t) (are_sound factor ts) here.0 rest.0, rest.1)

-- ---- scores put together in two pieces

-- an xor is of two alone
abbrev pub IsTwo : Form → ℕ → ℕ → Type 0
IsTwo Form.And m n = Unit {0}
IsTwo Form.Or m n = Unit {0}
IsTwo Form.Xor m n = (m ≡ 1) × (n ≡ 1)
IsTwo Form.Max m n = Unit {0}
IsTwo Form.AndNot m n = Unit {0}
IsTwo Form.AndMaybe m n = Unit {0}
IsTwo Form.Filter m n = Unit {0}

pub combined-one : (form : Form) (s : Option ℕ) → combined form (s ∷ []) ≡ s
combined-one Form.And s = both-end s
combined-one Form.Or s = either-end s
combined-one Form.Xor None = refl
combined-one Form.Xor (Some v) = refl
combined-one Form.Max s = greater-end s
combined-one Form.AndNot s = refl
combined-one Form.AndMaybe None = refl
combined-one Form.AndMaybe (Some v) = let e : v + 0 ≡ v = omega arith in ap Some e
combined-one Form.Filter s = refl

not_split : (x y s : Option ℕ) → where_so (is_none (either x y)) s ≡ where_so (is_none y) (where_so (is_none x) s)
not_split None None s = refl
not_split None (Some w) s = refl
not_split (Some v) None s = refl
not_split (Some v) (Some w) s = refl

maybe_split : (x y s : Option ℕ) → with_more s (either x y) ≡ with_more (with_more s x) y
maybe_split x y None = refl
maybe_split None y (Some u) = let e : u + unwrap_or y 0 ≡ (u + 0) + unwrap_or y 0 = omega arith in ap Some e
maybe_split (Some v) None (Some u) = let e : u + v ≡ (u + v) + 0 = omega arith in ap Some e
maybe_split (Some v) (Some w) (Some u) = let e : u + (v + w) ≡ (u + v) + w = omega arith in ap Some e

filter_split : (x y s : Option ℕ) → where_so (is_some (both x y)) s ≡ where_so (is_some y) (where_so (is_some x) s)
filter_split None None s = refl
filter_split None (Some w) s = refl
filter_split (Some v) None s = refl
filter_split (Some v) (Some w) s = refl

pub combined-split : (form : Form) (xs ys : List (Option ℕ)) → 0 < length xs → IsTwo form (length xs) (length ys)
    → combined form (xs ++ ys) ≡ paired form (combined form xs) (combined (others_of form) ys)
combined-split Form.And xs ys some two = sum_of_all-append xs ys
combined-split Form.Or xs ys some two = sum_of_any-append xs ys
combined-split Form.Xor [] ys some two = absurd (omega (arith, some))
combined-split Form.Xor (x ∷ []) [] some two = absurd (omega (arith, two.1))
combined-split Form.Xor (x ∷ []) (y ∷ []) some two = two_xor x y ∙ (λ i. paired Form.Xor (sym (combined-one Form.Xor x) i) (sym (combined-one Form.Xor y) i))
combined-split Form.Xor (x ∷ []) (y ∷ z ∷ ys) some two = absurd (omega (arith, two.1))
combined-split Form.Xor (x ∷ z ∷ xs) ys some two = absurd (omega (arith, two.0))
combined-split Form.Max xs ys some two = greatest_score-append xs ys
combined-split Form.AndNot [] ys some two = absurd (omega (arith, some))
combined-split Form.AndNot (s ∷ xs) ys some two =
    not_others s (xs ++ ys) ∙ ap (λ o. where_so (is_none o) s) (sum_of_any-append xs ys) ∙ not_split (sum_of_any xs) (sum_of_any ys) s
    ∙ ap (where_so (is_none (sum_of_any ys))) (sym (not_others s xs))
combined-split Form.AndMaybe [] ys some two = absurd (omega (arith, some))
combined-split Form.AndMaybe (s ∷ xs) ys some two = ap (with_more s) (sum_of_any-append xs ys) ∙ maybe_split (sum_of_any xs) (sum_of_any ys) s
combined-split Form.Filter [] ys some two = absurd (omega (arith, some))
combined-split Form.Filter (s ∷ xs) ys some two = ap (λ o. where_so (is_some o) s) (sum_of_all-append xs ys) ∙ filter_split (sum_of_all xs) (sum_of_all ys) s

-- ---- bounds put together

sum_in-append : (bs cs : List ℕ) → sum_in (bs ++ cs) ≡ sum_in bs + sum_in cs
sum_in-append [] cs = omega arith
sum_in-append (b ∷ bs) cs = let rest = sum_in-append bs cs in omega (arith, rest)

greatest_in-append : (bs cs : List ℕ) → greatest_in (bs ++ cs) ≡ max (greatest_in bs) (greatest_in cs)
greatest_in-append [] cs = omega arith
greatest_in-append (b ∷ bs) cs = let rest = greatest_in-append bs cs in omega (arith, rest)

first_in-append : (bs cs : List ℕ) → 0 < length bs → first_in (bs ++ cs) ≡ first_in bs
first_in-append [] cs some = absurd (omega (arith, some))
first_in-append (b ∷ bs) cs some = refl

pub ceil_of-split : (form : Form) (bs cs : List ℕ) → 0 < length bs → greatest_under form (ceil_of form bs) (ceil_of (others_of form) cs) ≤ ceil_of form (bs ++ cs)
ceil_of-split Form.And bs cs some = omega (arith, sum_in-append bs cs)
ceil_of-split Form.Or bs cs some = omega (arith, sum_in-append bs cs)
ceil_of-split Form.Xor bs cs some = omega (arith, sum_in-append bs cs)
ceil_of-split Form.Max bs cs some = omega (arith, greatest_in-append bs cs)
ceil_of-split Form.AndNot bs cs some = omega (arith, first_in-append bs cs some)
ceil_of-split Form.AndMaybe bs cs some = omega (arith, sum_in-append bs cs)
ceil_of-split Form.Filter bs cs some = omega (arith, first_in-append bs cs some)

-- ---- parts, and the parts that are put together first

length-scores : (ts : Trees.Trees) (scheme : Scheme) (factor : ℕ) (d : Document) → length (scores ts scheme factor d) ≡ part_count ts
length-scores no_trees scheme factor d = refl
length-scores (tree t ts) scheme factor d = let rest = length-scores ts scheme factor d in omega (arith, rest)

length-ceils : (ts : Trees.Trees) (scheme : Scheme) (factor : ℕ) (docs : Docs) → length (ceils ts scheme factor docs) ≡ part_count ts
length-ceils no_trees scheme factor docs = refl
length-ceils (tree t ts) scheme factor docs = let rest = length-ceils ts scheme factor docs in omega (arith, rest)

count_in-joined : (ts us : Trees.Trees) → part_count (joined ts us) ≡ part_count ts + part_count us
count_in-joined no_trees us = omega arith
count_in-joined (tree t ts) us = let rest = count_in-joined ts us in omega (arith, rest)

query_size-some : (t : Trees.Tree) → 1 ≤ query_size t
query_size-some Trees.nothing = omega arith
query_size-some Trees.all = omega arith
query_size-some (Trees.term t) = omega arith
query_size-some (Trees.wildcard prefix) = omega arith
query_size-some (parts form ts) = omega arith
query_size-some (Trees.near window ts) = omega arith
query_size-some (Trees.phrase window ts) = omega arith
query_size-some (Trees.synonym ts) = omega arith
query_size-some (Trees.scale f t) = omega arith
query_size-some (Trees.range slot lo hi) = omega arith

parts_size-some : (ts : Trees.Trees) → part_count ts ≤ parts_size ts
parts_size-some no_trees = omega arith
parts_size-some (tree t ts) = let rest = parts_size-some ts in omega (arith, rest, query_size-some t)

parts_size-joined : (ts us : Trees.Trees) → parts_size (joined ts us) ≡ parts_size ts + parts_size us
parts_size-joined no_trees us = omega arith
parts_size-joined (tree t ts) us = let rest = parts_size-joined ts us in omega (arith, rest)

has_parts-some : (ts : Trees.Trees) → 0 < part_count ts → has_parts ts ≡ true
has_parts-some no_trees some = absurd (omega (arith, some))
has_parts-some (tree t ts) some = refl

is_two : (form : Form) (m n : ℕ) → 0 < m → 0 < n → is_nest form (m + n) ≡ true → IsTwo form m n
is_two Form.And m n p q e = tt
is_two Form.Or m n p q e = tt
is_two Form.Xor m n p q e = let le : m + n ≤ 2 = at_most e in (omega (arith, p, q, le), omega (arith, p, q, le))
  where
    at_most : nat_le (m + n) 2 ≡ true → m + n ≤ 2
    at_most e = grind (arith, nat_tests)
is_two Form.Max m n p q e = tt
is_two Form.AndNot m n p q e = tt
is_two Form.AndMaybe m n p q e = tt
is_two Form.Filter m n p q e = tt

pub parts_joined : (ps fs bs : List Query) (n : ℕ) → fs ≡ take n ps → bs ≡ drop n ps → queries_view ps ≡ joined (queries_view fs) (queries_view bs)
parts_joined ps fs bs n e f =
    ap queries_view (sym (take-append-drop n ps)) ∙ (λ i. queries_view (sym e i ++ sym f i)) ∙ queries_view-append fs bs

module _ (form : Form) (factor : ℕ) (ts fs bs : Trees.Trees) (e : ts ≡ joined fs bs) (are : AreParts form factor ts) (front_some : 0 < part_count fs) (back_some : 0 < part_count bs) where
  counts : part_count ts ≡ part_count fs + part_count bs
  counts = ap part_count e ∙ count_in-joined fs bs

  leaves : leaves_in ts ≡ leaves_in fs + leaves_in bs
  leaves = ap leaves_in e ∙ leaves_in-joined fs bs

  sounds : (are_sound factor fs ≡ true) × (are_sound factor bs ≡ true)
  sounds = are_sound-joined fs bs factor (ap (are_sound factor) (sym e) ∙ are.sound)

  pub split_front : AreParts form factor fs
  split_front = record {
    some = front_some;
    sound = sounds.0;
    leaves = omega (arith, leaves, are.leaves);
  }

  pub split_back : AreParts (others_of form) factor bs
  split_back = record {
    some = back_some;
    sound = sounds.1;
    leaves = omega (arith, leaves, are.leaves);
  }

  pub split_front_size : parts_size fs < parts_size ts
  split_front_size = omega (arith, ap parts_size e, parts_size-joined fs bs, parts_size-some bs, back_some)

  pub split_back_size : parts_size bs < parts_size ts
  split_back_size = omega (arith, ap parts_size e, parts_size-joined fs bs, parts_size-some fs, front_some)

  pub split_scores : is_nest form (part_count ts) ≡ true → (scheme : Scheme) (o : Option Document) → joint_score_of form ts scheme factor o ≡ paired form (joint_score_of form fs scheme factor o) (joint_score_of (others_of form) bs scheme factor o)
  split_scores nest scheme None = sym (paired-none form)
  split_scores nest scheme (Some d) =
      ap (λ us. combined form (scores us scheme factor d)) e ∙ ap (combined form) (scores-joined fs bs scheme factor d)
      ∙ combined-split form (scores fs scheme factor d) (scores bs scheme factor d) (omega (arith, length-scores fs scheme factor d, front_some))
      (subst (λ m. IsTwo form m (length (scores bs scheme factor d))) (sym (length-scores fs scheme factor d))
      (subst (λ n. IsTwo form (part_count fs) n) (sym (length-scores bs scheme factor d))
      (is_two form (part_count fs) (part_count bs) front_some back_some (ap (is_nest form) (sym counts) ∙ nest))))

  pub split_ceiling : (scheme : Scheme) (docs : Docs) → greatest_under form (ceil_of form (ceils fs scheme factor docs)) (ceil_of (others_of form) (ceils bs scheme factor docs)) ≤ ceil_of form (ceils ts scheme factor docs)
  split_ceiling scheme docs =
      subst (λ (cs : List ℕ). greatest_under form (ceil_of form (ceils fs scheme factor docs)) (ceil_of (others_of form) (ceils bs scheme factor docs)) ≤ ceil_of form cs)
      (sym (ap (λ us. ceils us scheme factor docs) e ∙ ceils-joined fs bs scheme factor docs))
      (ceil_of-split form (ceils fs scheme factor docs) (ceils bs scheme factor docs) (omega (arith, length-ceils fs scheme factor docs, front_some)))

  pub split_readings : (docs : Docs) → leaves_readings ts docs ≡ leaves_readings fs docs + leaves_readings bs docs
  split_readings docs = ap (λ us. leaves_readings us docs) e ∙ readings-joined fs bs docs

  pub split_fits : factor ≤ 65536 → (scheme : Scheme) (docs : Docs) → All IsLight docs → ceil_of form (ceils fs scheme factor docs) + ceil_of (others_of form) (ceils bs scheme factor docs) < 2 ^ 127
  split_fits small scheme docs light =
      let first = ceil_small scheme docs light (parts form fs) factor (and_from (has_parts fs) (are_sound factor fs) (has_parts-some fs front_some) sounds.0) small split_front.leaves in
      let second = ceil_small scheme docs light (parts (others_of form) bs) factor (and_from (has_parts bs) (are_sound factor bs) (has_parts-some bs back_some) sounds.1) small split_back.leaves in
      omega (arith, first, second)

-- ---- an and whose first part is put behind the others

module _ (factor : ℕ) (ts fs bs : Trees.Trees) (e : ts ≡ joined bs fs) (are : AreParts Form.And factor ts) (front_some : 0 < part_count fs) (back_some : 0 < part_count bs) where
  pub turned_fits : factor ≤ 65536 → (scheme : Scheme) (docs : Docs) → All IsLight docs → ceil_of Form.And (ceils fs scheme factor docs) + ceil_of Form.And (ceils bs scheme factor docs) < 2 ^ 127
  turned_fits small scheme docs light = omega (arith, split_fits Form.And factor ts bs fs e are back_some front_some small scheme docs light)

-- ---- an xor of three parts or more

pub is_xor : (form : Form) (n : ℕ) → is_nest form n ≡ false → form ≡ Form.Xor
is_xor Form.And n e = cc
is_xor Form.Or n e = cc
is_xor Form.Xor n e = refl
is_xor Form.Max n e = cc
is_xor Form.AndNot n e = cc
is_xor Form.AndMaybe n e = cc
is_xor Form.Filter n e = cc

pub part_scores-joined : (ts us : Trees.Trees) (scheme : Scheme) (factor : ℕ) (o : Option Document) → part_scores (joined ts us) scheme factor o ≡ part_scores ts scheme factor o ++ part_scores us scheme factor o
part_scores-joined no_trees us scheme factor o = refl
part_scores-joined (tree t ts) us scheme factor o = ap (λ (ss : List (Option ℕ)). score_of t scheme factor o ∷ ss) (part_scores-joined ts us scheme factor o)

part_scores-some : (ts : Trees.Trees) (scheme : Scheme) (factor : ℕ) (d : Document) → part_scores ts scheme factor (Some d) ≡ scores ts scheme factor d
part_scores-some no_trees scheme factor d = refl
part_scores-some (tree t ts) scheme factor d = ap (λ (ss : List (Option ℕ)). score t scheme factor d ∷ ss) (part_scores-some ts scheme factor d)

part_scores-none : (ts : Trees.Trees) (scheme : Scheme) (factor : ℕ) → sum_of_any (part_scores ts scheme factor None) ≡ None
part_scores-none no_trees scheme factor = refl
part_scores-none (tree t ts) scheme factor = part_scores-none ts scheme factor

pub joint-xor : (ts : Trees.Trees) (scheme : Scheme) (factor : ℕ) (o : Option Document) → combined Form.Xor (part_scores ts scheme factor o) ≡ joint_score_of Form.Xor ts scheme factor o
joint-xor ts scheme factor None = none_xor (part_scores ts scheme factor None) (part_scores-none ts scheme factor)
joint-xor ts scheme factor (Some d) = ap (combined Form.Xor) (part_scores-some ts scheme factor d)

module _ (form : Form) (factor : ℕ) (ts : Trees.Trees) (n : ℕ) (e : is_nest form n ≡ false) where
  pub xor_are : AreParts form factor ts → AreParts Form.Xor factor ts
  xor_are are = record { some = are.some; sound = are.sound; leaves = are.leaves }

  pub xor_scores : (scheme : Scheme) (o : Option Document) → joint_score_of form ts scheme factor o ≡ combined Form.Xor (part_scores ts scheme factor o)
  xor_scores scheme o = ap (λ (f : Form). joint_score_of f ts scheme factor o) (is_xor form n e) ∙ sym (joint-xor ts scheme factor o)

  pub xor_ceiling : (scheme : Scheme) (docs : Docs) → ceil_of form (ceils ts scheme factor docs) ≡ sum_in (ceils ts scheme factor docs)
  xor_ceiling scheme docs = ap (λ (f : Form). ceil_of f (ceils ts scheme factor docs)) (is_xor form n e)

  pub xor_fits : AreParts form factor ts → factor ≤ 65536 → (scheme : Scheme) (docs : Docs) → All IsLight docs → sum_in (ceils ts scheme factor docs) < 2 ^ 127
  xor_fits are small scheme docs light =
      let whole = ceil_small scheme docs light (parts Form.Xor ts) factor (and_from (has_parts ts) (are_sound factor ts) (has_parts-some ts are.some) are.sound) small are.leaves in
      omega (arith, whole)

-- ---- an or of several parts

joint-or : (ts : Trees.Trees) (scheme : Scheme) (factor : ℕ) (o : Option Document) → combined Form.Or (part_scores ts scheme factor o) ≡ joint_score_of Form.Or ts scheme factor o
joint-or ts scheme factor None = part_scores-none ts scheme factor
joint-or ts scheme factor (Some d) = ap (combined Form.Or) (part_scores-some ts scheme factor d)

module _ (form : Form) (factor : ℕ) (ts : Trees.Trees) (e : form ≡ Form.Or) where
  pub or_are : AreParts form factor ts → AreParts Form.Xor factor ts
  or_are are = record { some = are.some; sound = are.sound; leaves = are.leaves }

  pub or_scores : (scheme : Scheme) (o : Option Document) → joint_score_of form ts scheme factor o ≡ combined Form.Or (part_scores ts scheme factor o)
  or_scores scheme o = ap (λ (f : Form). joint_score_of f ts scheme factor o) e ∙ sym (joint-or ts scheme factor o)

  pub or_ceiling : (scheme : Scheme) (docs : Docs) → ceil_of form (ceils ts scheme factor docs) ≡ sum_in (ceils ts scheme factor docs)
  or_ceiling scheme docs = ap (λ (f : Form). ceil_of f (ceils ts scheme factor docs)) e

  pub or_fits : AreParts form factor ts → factor ≤ 65536 → (scheme : Scheme) (docs : Docs) → All IsLight docs → sum_in (ceils ts scheme factor docs) < 2 ^ 127
  or_fits are small scheme docs light =
      let whole = ceil_small scheme docs light (parts Form.Or ts) factor (and_from (has_parts ts) (are_sound factor ts) (has_parts-some ts are.some) are.sound) small are.leaves in
      omega (arith, whole)

-- ---- the whole query

pub fits_ceil : (t : Trees.Tree) (scheme : Scheme) (docs : Docs) → fits_tree t ≡ true → All IsLight docs → ceil t scheme 1 docs ≤ 2 ^ 84
fits_ceil t scheme docs fits light =
    let front = and_parts (is_sound 1 t && nat_le (leaves_of t) 1024) (nat_le (depth_of t) 1000) fits in
    let sounds = and_parts (is_sound 1 t) (nat_le (leaves_of t) 1024) front.0 in
    ceil_small scheme docs light t 1 sounds.0 (omega arith) (at_most (leaves_of t) 1024 sounds.1)
  where
    at_most : (m n : ℕ) → nat_le m n ≡ true → m ≤ n
    at_most m n e = grind (arith, nat_tests)

-- ---- the two halves of the parts of an xor

module _ (factor : ℕ) (ts fs bs : Trees.Trees) (e : ts ≡ joined fs bs) where
  pub halves_scores : (scheme : Scheme) (o : Option Document) → part_scores ts scheme factor o ≡ part_scores fs scheme factor o ++ part_scores bs scheme factor o
  halves_scores scheme o = ap (λ us. part_scores us scheme factor o) e ∙ part_scores-joined fs bs scheme factor o

  pub halves_ceiling : (scheme : Scheme) (docs : Docs) → sum_in (ceils ts scheme factor docs) ≡ sum_in (ceils fs scheme factor docs) + sum_in (ceils bs scheme factor docs)
  halves_ceiling scheme docs =
      ap (λ us. sum_in (ceils us scheme factor docs)) e ∙ ap sum_in (ceils-joined fs bs scheme factor docs) ∙ sum_in-append (ceils fs scheme factor docs) (ceils bs scheme factor docs)
