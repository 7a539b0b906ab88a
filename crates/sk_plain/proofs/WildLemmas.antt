-- What is added document by document is the sum over the terms that begin with the prefix.
use Rattle.std.proofs.Common.{◌≡◌, ◌+◌, ◌&&◌, ◌≤◌, min, ℕ, Bool, true, false, not, cond, List, [], ◌∷◌, map, filter, sum_by, refl, sym, ap, ◌∙◌, arith}
use Rattle.std.proofs.lemmas.List.Sums.{sum_by-cons, sum_by-append}
use Rattle.sk_base.specs.declared.doc.Doc.{Doc}
use Rattle.sk_base.specs.declared.doc_entry.DocTerm.{DocTerm}
use Rattle.sk_base.specs.Documents.{begins_with}
use Rattle.sk_base.specs.Numbers.{Docs, some_has, term_in, terms_with}
use Rattle.sk_plain.specs.Wilds.{new_sum, wild_sum}

capped_more : (cap sum next a b whole : ℕ) → next ≡ min cap (sum + a) → min cap (sum + (a + b)) ≡ whole → min cap (next + b) ≡ whole
capped_more cap sum next a b whole grown h = omega (arith, grown, h)

capped_end : (cap sum all : ℕ) → min cap (sum + 0) ≡ min cap all → sum ≤ cap → sum ≡ min cap all
capped_end cap sum all h l = omega (arith, h, l)

capped_le : (cap n next : ℕ) → next ≡ min cap n → next ≤ cap
capped_le cap n next grown = omega (arith, grown)

module _ (number : List ℕ → ℕ) (prefix : List ℕ) where
  new_step : (b : Bool) (t : List ℕ) (ts : List (List ℕ)) (n : ℕ) → sum_by number ts ≡ n → sum_by number (cond b (t ∷ ts) ts) ≡ cond b (number t) 0 + n
  new_step true t ts n h = sum_by-cons number t ts ∙ ap (λ m. number t + m) h
  new_step false t ts n h = omega (arith, h)

  new_is : (more : Docs) (ones : List DocTerm) → sum_by number (filter (λ t. begins_with t prefix && not (some_has t more)) (map term_in ones)) ≡ new_sum number prefix more ones
  new_is more [] = refl
  new_is more (one ∷ ones) =
      new_step (begins_with one.term prefix && not (some_has one.term more)) one.term
      (filter (λ t. begins_with t prefix && not (some_has t more)) (map term_in ones)) (new_sum number prefix more ones) (new_is more ones)

  pub wild_is : (docs : Docs) → sum_by number (terms_with prefix docs) ≡ wild_sum number prefix docs
  wild_is [] = refl
  wild_is (one ∷ more) =
      sum_by-append number (filter (λ t. begins_with t prefix && not (some_has t more)) (map term_in one.1.terms)) (terms_with prefix more)
      ∙ (λ i. new_is more one.1.terms i + wild_is more i)

  -- a document more
  pub wild_step : (cap sum next whole : ℕ) (one : ℕ × Doc) (left rest : Docs) → left ≡ one ∷ rest
      → next ≡ min cap (sum + new_sum number prefix rest one.1.terms)
      → (min cap (sum + wild_sum number prefix left) ≡ whole) × (sum ≤ cap)
      → (min cap (next + wild_sum number prefix rest) ≡ whole) × (next ≤ cap)
  wild_step cap sum next whole one left rest is grown h = (
    capped_more cap sum next (new_sum number prefix rest one.1.terms) (wild_sum number prefix rest) whole grown
        (ap (λ d. min cap (sum + wild_sum number prefix d)) (sym is) ∙ h.0),
    capped_le cap (sum + new_sum number prefix rest one.1.terms) next grown,
  )

  -- all documents
  pub wild_end : (cap sum : ℕ) (left docs : Docs) → left ≡ []
      → (min cap (sum + wild_sum number prefix left) ≡ min cap (wild_sum number prefix docs)) × (sum ≤ cap)
      → sum ≡ min cap (sum_by number (terms_with prefix docs))
  wild_end cap sum left docs is h =
      capped_end cap sum (wild_sum number prefix docs) (ap (λ d. min cap (sum + wild_sum number prefix d)) (sym is) ∙ h.0) h.1
      ∙ ap (λ n. min cap n) (sym (wild_is docs))

  -- a term of a document more
  pub new_more : (cap sum live n next whole : ℕ) (more : Docs) (one : DocTerm) (left rest : List DocTerm) → left ≡ one ∷ rest
      → n ≡ cond (begins_with one.term prefix && not (some_has one.term more)) (number one.term) 0
      → live ≡ cap → next ≡ min (sum + n) live
      → (min cap (sum + new_sum number prefix more left) ≡ whole) × (sum ≤ cap)
      → (min cap (next + new_sum number prefix more rest) ≡ whole) × (next ≤ cap)
  new_more cap sum live n next whole more one left rest is own same grown h =
      let cut_there : next ≡ min cap (sum + n) = omega (arith, grown, same) in (
        capped_more cap sum next n (new_sum number prefix more rest) whole cut_there
            (ap (λ m. min cap (sum + (m + new_sum number prefix more rest))) own ∙ ap (λ d. min cap (sum + new_sum number prefix more d)) (sym is) ∙ h.0),
        capped_le cap (sum + n) next cut_there,
      )
