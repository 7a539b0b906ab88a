-- The first of what is counted, when the others are not in order.
use Rattle.std.proofs.Common.{◌≡◌, ◌<◌, ◌≤◌, ◌+◌, ℕ, zero, suc, List, [], ◌∷◌, ◌++◌, length, take, get_or, IsPermutation, refl, sym, ap, ◌∙◌, subst, arith}
use Rattle.std.proofs.Math.Seq.{take-append_seam}
use Rattle.std.proofs.lemmas.List.{length-append, length-map, map-append, take_all}
use Rattle.std.proofs.lemmas.List.MinMax.{ranks_by}
use Rattle.std.proofs.lemmas.List.Sorted.{IsPermutation-map, length_permutation}
use Rattle.std.specs.Cmp.{IsStrictWeakOrder}
use Rattle.std.specs.List.Sorted.{IsSortedBy, IsSplitAroundBy}
use Rattle.sk_base.specs.declared.facets.Facet.{Facet}
use Rattle.sk_model.specs.Counting.{is_first}
use Rattle.sk_model.specs.Laws.{AreTallied}
use Rattle.sk_model.proofs.FacetLaws.{facet_total, sorted_counted}
use Rattle.sk_model.proofs.TallyLaws.{behind, front_counted, in_order_permutation}
use Rattle.sk_facets.specs.Tallied.{Entry, facet_in, facets_in, is_before, AreChosen, AreOrdered, AreFirst}

pub before_order : IsStrictWeakOrder is_before
before_order = ranks_by facet_total facet_in

facet_at : (es : List Entry) (k : ℕ) (d : Facet) (e : Entry) → k < length es → get_or (facets_in es) k d ≡ facet_in (get_or es k e)
facet_at [] k d e l = absurd (omega (arith, l))
facet_at (x ∷ es) zero d e l = refl
facet_at (x ∷ es) (suc k) d e l = facet_at es k d e (omega (arith, l))

-- ---- entries as values with their counts

sorted_facets : (es : List Entry) → IsSortedBy is_before es → IsSortedBy is_first (facets_in es)
sorted_facets [] h k d l m = absurd (omega (arith, m))
sorted_facets (x ∷ es) h k d l m =
    let within : k + 1 < length (x ∷ es) = omega (arith, m, length-map (x ∷ es) facet_in) in
    (λ i. is_first (facet_at (x ∷ es) (k + 1) d x within i) (facet_at (x ∷ es) k d x (omega (arith, within)) i)) ∙ h k x l within

split_facets : (front : List Entry) (x : Entry) (back : List Entry) → IsSplitAroundBy is_before front x back → IsSplitAroundBy is_first (facets_in front) (facet_in x) (facets_in back)
split_facets front x back split = (
  λ k d l. let within : k < length front = omega (arith, l, length-map front facet_in) in
      ap (λ f. is_first (facet_in x) f) (facet_at front k d x within) ∙ split.0 k x within,
  λ k d l. let within : k < length back = omega (arith, l, length-map back facet_in) in
      ap (λ f. is_first f (facet_in x)) (facet_at back k d x within) ∙ split.1 k x within,
)

-- ---- the first so many

module _ (values : List (List ℕ)) (size : ℕ) where
  -- all of them
  pub first_of_few : (old new : List Entry) → length old ≤ size → IsPermutation old new → IsSortedBy is_before new → AreTallied values (facets_in old) → AreFirst values size (facets_in new) (length old)
  first_of_few old new few same sorted t = record {
    all = facets_in new;
    counted = sorted_counted values (facets_in old) (facets_in new) (IsPermutation-map facet_in old new same) (sorted_facets new sorted) t;
    first = sym (take_all size (facets_in new) (omega (arith, few, length-map new facet_in, length_permutation old new same)));
    distinct = omega (arith, length-map new facet_in, length_permutation old new same);
  }

  -- the front of them
  pub first_of_many : (old front new : List Entry) → AreChosen old front size → IsPermutation front new → IsSortedBy is_before new → AreTallied values (facets_in old) → AreFirst values size (facets_in new) (length old)
  first_of_many old front new chosen same sorted t =
      let others = behind values (facets_in old) (facets_in front) (facet_in chosen.next) (facets_in chosen.others) (facets_in new) in
      let parts : IsPermutation (facets_in old) (facets_in front ++ facet_in chosen.next ∷ facets_in chosen.others) =
      subst (IsPermutation (facets_in old)) (map-append facet_in front (chosen.next ∷ chosen.others)) (IsPermutation-map facet_in old (front ++ chosen.next ∷ chosen.others) chosen.same) in
      let long : length (facets_in new) ≡ size = omega (arith, length-map new facet_in, length_permutation front new same, chosen.many) in
      record {
        all = facets_in new ++ others;
        counted = front_counted values (facets_in old) (facets_in front) (facet_in chosen.next) (facets_in chosen.others) (facets_in new) parts
            (split_facets front chosen.next chosen.others chosen.split) (IsPermutation-map facet_in front new same) (sorted_facets new sorted) t;
        first = sym (take-append_seam (facets_in new) others) ∙ ap (λ n. take n (facets_in new ++ others)) long;
        distinct = omega (
          arith,
          long,
          chosen.many,
          length-map old facet_in,
          length_permutation _ _ parts,
          length-append (facets_in front) (facet_in chosen.next ∷ facets_in chosen.others),
          length-append (facets_in new) others,
          length-map front facet_in,
          length_permutation (facet_in chosen.next ∷ facets_in chosen.others) others (in_order_permutation (facet_in chosen.next ∷ facets_in chosen.others)),
        );
      }

-- the same of what is told in order
module _ (values : List (List ℕ)) (size : ℕ) (entries : List Entry) (told : List Facet) where
  pub few_first : length entries ≤ size → AreOrdered entries told → AreTallied values (facets_in entries) → AreFirst values size told (length entries)
  few_first few o t = subst (λ fs. AreFirst values size fs (length entries)) (sym o.copies) (first_of_few values size entries o.ordered few o.same o.sorted t)

  pub many_first : (front : List Entry) → AreChosen entries front size → AreOrdered front told → AreTallied values (facets_in entries) → AreFirst values size told (length entries)
  many_first front chosen o t = subst (λ fs. AreFirst values size fs (length entries)) (sym o.copies) (first_of_many values size entries front o.ordered chosen o.same o.sorted t)
