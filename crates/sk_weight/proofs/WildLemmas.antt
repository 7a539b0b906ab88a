-- Terms whose lists are empty have no wdf above 0.
use Rattle.std.proofs.Common.{◌≡◌, ◌<◌, ◌+◌, ◌-◌, ◌^◌, ◌||◌, ℕ, nat_lt, min, true, false, cond, List, [], ◌∷◌, sum_by, bytes_eq, if◌then◌else◌, inl, inr, refl, sym, ap, ◌∙◌, arith, true≢false}
use Rattle.std.proofs.lemmas.Bool.{cases_lt}
use Rattle.std.proofs.lemmas.Bool.Decides.{nat_tests}
use Rattle.std.proofs.lemmas.List.Sums.{sum_by-cons}
use Rattle.sk_base.specs.declared.find.Scheme.{Scheme}
use Rattle.sk_base.specs.declared.doc.Doc.{Doc}
use Rattle.sk_base.specs.declared.doc_entry.DocTerm.{DocTerm}
use Rattle.sk_base.specs.Documents.{has_term, wdf_of}
use Rattle.sk_base.specs.Numbers.{Docs, length_of, greatest_of, terms_with, wild_length_of, wild_greatest_of}
use Rattle.sk_model.specs.Weights.{weigh_by}
use Rattle.sk_model.specs.Bounds.{joint_ceil}

no_wdf : (t : List ℕ) (terms : List DocTerm) → has_term t terms ≡ false → wdf_of t terms ≡ 0
no_wdf t [] e = refl
no_wdf t (one ∷ more) e =
    elim (bytes_eq one.term t) as (λ b. (b || has_term t more) ≡ false → (if b then one.wdf else wdf_of t more) ≡ 0) [
      | true ↦ λ h. absurd (true≢false h)
      | false ↦ λ h. no_wdf t more h
    ] e

none_greater : (t : List ℕ) (docs : Docs) → length_of t docs ≡ 0 → greatest_of t docs ≡ 0
none_greater t [] e = refl
none_greater t (one ∷ more) e =
    elim (has_term t one.1.terms) as (λ b. has_term t one.1.terms ≡ b → cond b 1 0 + length_of t more ≡ 0 → greatest_of t (one ∷ more) ≡ 0) [
      | true ↦ λ has n. absurd (omega (arith, n))
      | false ↦ λ has n.
          let here = no_wdf t one.1.terms has in
          let rest = none_greater t more (omega (arith, n)) in
          omega (arith, here, rest)
    ] refl (sym (sum_by-cons (λ (d : ℕ × Doc). cond (has_term t d.1.terms) 1 0) one more) ∙ e)

all_none : (ts : List (List ℕ)) (docs : Docs) → sum_by (λ t. length_of t docs) ts ≡ 0 → sum_by (λ t. greatest_of t docs) ts ≡ 0
all_none [] docs e = refl
all_none (t ∷ ts) docs e =
    let long = sum_by-cons (λ t. length_of t docs) t ts in
    let great = sum_by-cons (λ t. greatest_of t docs) t ts in
    let here = none_greater t docs (omega (arith, e, long)) in
    let rest = all_none ts docs (omega (arith, e, long)) in
    omega (arith, great, here, rest)

wild_none : (prefix : List ℕ) (docs : Docs) → wild_length_of prefix docs ≡ 0 → wild_greatest_of prefix docs ≡ 0
wild_none prefix [] e = refl
wild_none prefix (one ∷ more) e = let none = all_none (terms_with prefix (one ∷ more)) (one ∷ more) (omega (arith, e)) in omega (arith, none)

is_more : (n : ℕ) → 0 < n → nat_lt 0 n ≡ true
is_more n h = grind (arith, nat_tests)

some_long : (prefix : List ℕ) (docs : Docs) → 0 < wild_greatest_of prefix docs → 0 < wild_length_of prefix docs
some_long prefix docs some =
    elim (cases_lt 0 (wild_length_of prefix docs)) as (λ _. 0 < wild_length_of prefix docs) [
      | inl lt ↦ lt
      | inr none ↦ let zero_too = wild_none prefix docs (omega (arith, none)) in absurd (omega (arith, some, zero_too))
    ]

-- lists that are not empty weigh what their greatest wdfs weigh
pub wild_some : (scheme : Scheme) (factor : ℕ) (prefix : List ℕ) (docs : Docs) → 0 < wild_greatest_of prefix docs
    → weigh_by factor scheme (wild_greatest_of prefix docs) ≡ joint_ceil scheme factor (wild_length_of prefix docs) (wild_greatest_of prefix docs)
wild_some scheme factor prefix docs some =
    let greatest = wild_greatest_of prefix docs in
    let is : min (2 ^ 29 - 1) greatest ≡ greatest = omega arith in
    sym (ap (λ b. if b then weigh_by factor scheme (min (2 ^ 29 - 1) greatest) else 0) (is_more (wild_length_of prefix docs) (some_long prefix docs some)) ∙ ap (weigh_by factor scheme) is)
