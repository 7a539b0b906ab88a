-- Weights fit: nothing weighs more than 2^74 a leaf.
use Rattle.std.proofs.Common.{◌≡◌, ◌<◌, ◌≤◌, ◌+◌, ◌-◌, ◌*◌, ◌^◌, ℕ, suc, min, nat_lt, Bool, true, false, ◌&&◌, List, [], ◌∷◌, length, All, Option, Some, None, sym, arith, true≢false, if◌then◌else◌, le_refl}
use Rattle.std.proofs.lemmas.Bool.Decides.{nat_tests}
use Rattle.std.proofs.lemmas.Nat.{mul-le}
use Rattle.sk_base.proofs.Tests.{first_so, second_so}
use Rattle.sk_base.specs.declared.doc.Doc.{Doc}
use Rattle.sk_base.specs.declared.find.Scheme.{Scheme}
use Rattle.sk_base.specs.Documents.{wdf_of}
use Rattle.sk_base.specs.Loads.{load_of, IsLight}
use Rattle.sk_base.specs.Numbers.{Docs, length_of, greatest_of, wild_length_of, wild_greatest_of}
use Rattle.sk_query.specs.declared.form.Form.{Form}
use Rattle.sk_query.specs.Trees.{Tree, nothing, all, term, wildcard, parts, near, phrase, synonym, scale, range, Trees, no_trees, tree}
use Rattle.sk_query.specs.Fits.{is_sound, are_sound, has_parts, are_given, are_different, is_factor, leaves_of, leaves_in}
use Rattle.sk_model.specs.Combining.{combined}
use Rattle.sk_model.specs.Weights.{weigh_by}
use Rattle.sk_model.specs.Scores.{terms_weight, wdf_sum, wild_wdf, score, scores}
use Rattle.sk_model.specs.Bounds.{term_ceil, terms_ceil, lengths_of, greatests_of, joint_ceil, sum_in, greatest_in, first_in, ceil_of, ceil, ceils}
use Rattle.sk_model.proofs.HeldLaws.{wdf_within, wild_within, sum_within}
use Rattle.sk_model.proofs.CeilLaws.{AtMost, AllAtMost, weight_le, combined_le, third_so}

-- what each part weighs at most, by its leaves
abbrev pub fits_in : Trees → List ℕ
fits_in no_trees = []
fits_in (tree t ts) = leaves_of t * 2 ^ 74 ∷ fits_in ts

fits_sum : (ts : Trees) → sum_in (fits_in ts) ≤ leaves_in ts * 2 ^ 74
fits_sum no_trees = omega arith
fits_sum (tree t ts) = let rest : sum_in (fits_in ts) ≤ leaves_in ts * 2 ^ 74 = fits_sum ts in omega (arith, rest)

at_most_more : (o : Option ℕ) (m n : ℕ) → AtMost o m → m ≤ n → AtMost o n
at_most_more None m n h g = tt
at_most_more (Some w) m n h g = omega (arith, h, g)

le_trans : {a b c : ℕ} → a ≤ b → b ≤ c → a ≤ c
le_trans h g = omega (arith, h, g)

-- ---- one weight

-- the weight of a wdf below 2^29
pub weigh_fits : (factor : ℕ) (scheme : Scheme) (wdf : ℕ) → factor ≤ 65536 → wdf < 2 ^ 29 → weigh_by factor scheme wdf ≤ 2 ^ 74
weigh_fits factor Scheme.Bool wdf f w = omega arith
weigh_fits factor Scheme.Coord wdf f w = omega arith
weigh_fits factor Scheme.Nnn wdf f w =
    let most : wdf ≤ 536870911 = omega arith in
    let both : wdf * factor ≤ 536870911 * 65536 = mul-le wdf factor 536870911 65536 most f in
    omega (arith, both)
weigh_fits factor Scheme.Bnn wdf f w =
    let most : min 1 wdf ≤ 1 = omega arith in
    let both : min 1 wdf * factor ≤ 1 * 65536 = mul-le (min 1 wdf) factor 1 65536 most f in
    omega (arith, both)
weigh_fits factor Scheme.Snn wdf f w =
    let most : wdf ≤ 536870911 = omega arith in
    let square : wdf * wdf ≤ 536870911 * 536870911 = mul-le wdf wdf 536870911 536870911 most most in
    let both : wdf * wdf * factor ≤ 536870911 * 536870911 * 65536 = mul-le (wdf * wdf) factor (536870911 * 536870911) 65536 square f in
    omega (arith, both)

none_fits : (test : Bool) (w n : ℕ) → w ≤ n → (if test then w else 0) ≤ n
none_fits true w n h = h
none_fits false w n h = omega arith

-- ---- bounds

-- of light documents no wdf is great
pub greatest_light : (t : List ℕ) (docs : Docs) → All IsLight docs → greatest_of t docs < 2 ^ 29
greatest_light t [] h = omega arith
greatest_light t (one ∷ more) h =
    let first : load_of one.1.terms < 2 ^ 29 = h 0 one (omega arith) in
    let rest : greatest_of t more < 2 ^ 29 = greatest_light t more (λ k d l. h (suc k) d (omega arith)) in
    omega (arith, first, rest, wdf_within t one.1.terms)

pub joint_fits : (scheme : Scheme) (factor long greatest : ℕ) → factor ≤ 65536 → joint_ceil scheme factor long greatest ≤ 2 ^ 74
joint_fits scheme factor long greatest f =
    none_fits (nat_lt 0 long) (weigh_by factor scheme (min (2 ^ 29 - 1) greatest)) (2 ^ 74) (weigh_fits factor scheme (min (2 ^ 29 - 1) greatest) f (omega arith))

some_leaves : (ts : List (List ℕ)) → are_given ts ≡ true → 1 ≤ length ts
some_leaves [] e = absurd (true≢false (sym e))
some_leaves (t ∷ ts) e = omega arith

-- a form makes no more of bounds than their sum
greatest_in_sum : (bs : List ℕ) → greatest_in bs ≤ sum_in bs
greatest_in_sum [] = omega arith
greatest_in_sum (b ∷ bs) = let rest : greatest_in bs ≤ sum_in bs = greatest_in_sum bs in omega (arith, rest)

first_in_sum : (bs : List ℕ) → first_in bs ≤ sum_in bs
first_in_sum [] = omega arith
first_in_sum (b ∷ bs) = omega arith

pub ceil_of_sum : (form : Form) (bs : List ℕ) → ceil_of form bs ≤ sum_in bs
ceil_of_sum Form.And bs = le_refl (sum_in bs)
ceil_of_sum Form.Or bs = le_refl (sum_in bs)
ceil_of_sum Form.Xor bs = le_refl (sum_in bs)
ceil_of_sum Form.Max bs = greatest_in_sum bs
ceil_of_sum Form.AndNot bs = first_in_sum bs
ceil_of_sum Form.AndMaybe bs = le_refl (sum_in bs)
ceil_of_sum Form.Filter bs = first_in_sum bs

one_leaf : (n : ℕ) → n ≤ 2 ^ 74 → n ≤ 1 * 2 ^ 74
one_leaf n h = omega (arith, h)

one_more : (a b m n : ℕ) → a ≤ m * 2 ^ 74 → b ≤ n * 2 ^ 74 → a + b ≤ (m + n) * 2 ^ 74
one_more a b m n h g = omega (arith, h, g)

more_leaves : (a n : ℕ) → a ≤ 2 ^ 74 → 1 ≤ n → a ≤ n * 2 ^ 74
more_leaves a n h some = omega (arith, h, some)

factor_fits : (f : ℕ) → is_factor f ≡ true → f ≤ 65536
factor_fits f e = grind (arith, nat_tests)

module _ (scheme : Scheme) where
  module _ (docs : Docs) (light : All IsLight docs) where
    term_fits : (factor : ℕ) (t : List ℕ) → factor ≤ 65536 → term_ceil scheme factor t docs ≤ 2 ^ 74
    term_fits factor t f = none_fits (nat_lt 0 (length_of t docs)) (weigh_by factor scheme (greatest_of t docs)) (2 ^ 74) (weigh_fits factor scheme (greatest_of t docs) f (greatest_light t docs light))

    terms_fit : (factor : ℕ) (ts : List (List ℕ)) → factor ≤ 65536 → terms_ceil scheme factor ts docs ≤ length ts * 2 ^ 74
    terms_fit factor [] f = omega arith
    terms_fit factor (t ∷ ts) f =
        let first = term_fits factor t f in
        let rest = terms_fit factor ts f in
        omega (arith, first, rest)

    mutual
      pub ceil_fits : (q : Tree) (factor : ℕ) → is_sound factor q ≡ true → factor ≤ 65536 → ceil q scheme factor docs ≤ leaves_of q * 2 ^ 74
      ceil_fits nothing factor e f = omega arith
      ceil_fits all factor e f = omega arith
      ceil_fits (term t) factor e f = one_leaf _ (term_fits factor t f)
      ceil_fits (wildcard prefix) factor e f = one_leaf _ (joint_fits scheme factor (wild_length_of prefix docs) (wild_greatest_of prefix docs) f)
      ceil_fits (parts form ts) factor e f =
          let each : sum_in (ceils ts scheme factor docs) ≤ leaves_in ts * 2 ^ 74 = ceils_fit ts factor (second_so (has_parts ts) (are_sound factor ts) e) f in
          omega (arith, each, ceil_of_sum form (ceils ts scheme factor docs))
      ceil_fits (near window ts) factor e f = terms_fit factor ts f
      ceil_fits (phrase window ts) factor e f = terms_fit factor ts f
      ceil_fits (synonym ts) factor e f =
          more_leaves _ (length ts) (joint_fits scheme factor (lengths_of ts docs) (greatests_of ts docs) f) (some_leaves ts (first_so (are_given ts) (are_different ts) e))
      ceil_fits (scale g t) factor e f =
          let whole : is_factor (factor * g) ≡ true = second_so (is_factor g) (is_factor (factor * g)) (first_so (is_factor g && is_factor (factor * g)) (is_sound (factor * g) t) e) in
          ceil_fits t (factor * g) (third_so (is_factor g) (is_factor (factor * g)) (is_sound (factor * g) t) e) (factor_fits (factor * g) whole)
      ceil_fits (range slot lo hi) factor e f = omega arith

      pub ceils_fit : (ts : Trees) (factor : ℕ) → are_sound factor ts ≡ true → factor ≤ 65536 → sum_in (ceils ts scheme factor docs) ≤ leaves_in ts * 2 ^ 74
      ceils_fit no_trees factor e f = omega arith
      ceils_fit (tree t ts) factor e f =
          one_more _ _ (leaves_of t) (leaves_in ts) (ceil_fits t factor (first_so (is_sound factor t) (are_sound factor ts) e) f) (ceils_fit ts factor (second_so (is_sound factor t) (are_sound factor ts) e) f)

    pub ceil_small : (q : Tree) (factor : ℕ) → is_sound factor q ≡ true → factor ≤ 65536 → leaves_of q ≤ 1024 → ceil q scheme factor docs ≤ 2 ^ 84
    ceil_small q factor e f few = let each : ceil q scheme factor docs ≤ leaves_of q * 2 ^ 74 = ceil_fits q factor e f in omega (arith, each, few)

  -- ---- scores

  module _ (d : Doc) (light : load_of d.terms < 2 ^ 29) where
    own_fits : (factor : ℕ) (t : List ℕ) → factor ≤ 65536 → weigh_by factor scheme (wdf_of t d.terms) ≤ 2 ^ 74
    own_fits factor t f = weigh_fits factor scheme (wdf_of t d.terms) f (omega (arith, light, wdf_within t d.terms))

    owns_fit : (factor : ℕ) (ts : List (List ℕ)) → factor ≤ 65536 → terms_weight scheme factor ts d.terms ≤ length ts * 2 ^ 74
    owns_fit factor [] f = omega arith
    owns_fit factor (t ∷ ts) f =
        let first = own_fits factor t f in
        let rest = owns_fit factor ts f in
        omega (arith, first, rest)

    mutual
      pub score_fits : (q : Tree) (factor : ℕ) → is_sound factor q ≡ true → factor ≤ 65536 → AtMost (score q scheme factor d) (leaves_of q * 2 ^ 74)
      score_fits nothing factor e f = tt
      score_fits all factor e f = omega arith
      score_fits (term t) factor e f = weight_le _ _ _ (λ h. one_leaf _ (own_fits factor t f))
      score_fits (wildcard prefix) factor e f = weight_le _ _ _ (λ h. one_leaf _ (weigh_fits factor scheme (wild_wdf prefix d.terms) f (omega (arith, light, wild_within prefix d.terms))))
      score_fits (parts form ts) factor e f =
          let each = combined_le form (scores ts scheme factor d) (fits_in ts) (scores_fit ts factor (second_so (has_parts ts) (are_sound factor ts) e) f) in
          at_most_more _ _ _ each (le_trans (ceil_of_sum form (fits_in ts)) (fits_sum ts))
      score_fits (near window ts) factor e f = weight_le _ _ _ (λ h. owns_fit factor ts f)
      score_fits (phrase window ts) factor e f = weight_le _ _ _ (λ h. owns_fit factor ts f)
      score_fits (synonym ts) factor e f =
          weight_le _ _ _ (λ h. more_leaves _ (length ts)
          (weigh_fits factor scheme (wdf_sum ts d.terms) f (omega (arith, light, sum_within ts d.terms (second_so (are_given ts) (are_different ts) e))))
          (some_leaves ts (first_so (are_given ts) (are_different ts) e)))
      score_fits (scale g t) factor e f =
          let whole : is_factor (factor * g) ≡ true = second_so (is_factor g) (is_factor (factor * g)) (first_so (is_factor g && is_factor (factor * g)) (is_sound (factor * g) t) e) in
          score_fits t (factor * g) (third_so (is_factor g) (is_factor (factor * g)) (is_sound (factor * g) t) e) (factor_fits (factor * g) whole)
      score_fits (range slot lo hi) factor e f = weight_le _ 0 _ (λ h. omega arith)

      pub scores_fit : (ts : Trees) (factor : ℕ) → are_sound factor ts ≡ true → factor ≤ 65536 → AllAtMost (scores ts scheme factor d) (fits_in ts)
      scores_fit no_trees factor e f = tt
      scores_fit (tree t ts) factor e f = (score_fits t factor (first_so (is_sound factor t) (are_sound factor ts) e) f, scores_fit ts factor (second_so (is_sound factor t) (are_sound factor ts) e) f)

    -- parts in any form, whose weights 128 bits hold
    pub parts_small : (form : Form) (ts : Trees) (factor : ℕ) → are_sound factor ts ≡ true → factor ≤ 65536 → leaves_in ts ≤ 1024 → AtMost (combined form (scores ts scheme factor d)) (2 ^ 128 - 1)
    parts_small form ts factor e f few =
        let each = combined_le form (scores ts scheme factor d) (fits_in ts) (scores_fit ts factor e f) in
        let sum : sum_in (fits_in ts) ≤ leaves_in ts * 2 ^ 74 = fits_sum ts in
        at_most_more _ _ (2 ^ 128 - 1) each (omega (arith, ceil_of_sum form (fits_in ts), sum, few))
