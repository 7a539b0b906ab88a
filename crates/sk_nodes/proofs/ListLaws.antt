-- What the list of a leaf says of a document.
use Rattle.std.proofs.Common.{◌≡◌, ◌≢◌, ◌≤◌, ℕ, suc, nat_lt, Bool, true, false, List, [], ◌∷◌, length, Option, None, Some, unwrap_or, if◌then◌else◌, inl, inr, refl, sym, subst, ap, ◌∙◌, arith}
use Rattle.std.specs.List.{cons_option}
use Rattle.std.specs.Option.{option_map}
use Rattle.std.proofs.lemmas.Bool.{cases_eq}
use Rattle.std.proofs.lemmas.Bool.Decides.{nat_tests}
use Rattle.sk_base.specs.declared.find.Scheme.{Scheme}
use Rattle.sk_base.specs.Documents.{has_term, wdf_of}
use Rattle.sk_base.specs.Numbers.{Docs}
use Rattle.sk_sorted.specs.Entries.{RiseAbove, AreSorted, found}
use Rattle.sk_sorted.proofs.EntryLaws.{found-here, found-other, found-below}
use Rattle.sk_chunks.specs.Postings.{Postings, greatest_wdf}
use Rattle.sk_dict.specs.Terms.{term_at}
use Rattle.sk_model.specs.Documents.{Document}
use Rattle.sk_model.specs.Edits.{document_at}
use Rattle.sk_model.specs.Weights.{weigh_by}
use Rattle.sk_model.proofs.HeldLaws.{weigh_up}
use Rattle.sk_index.specs.Indexed.{Indexed, postings, all_postings}
use Rattle.sk_sorted.specs.Runs.{AreRuns}
use Rattle.sk_lists.specs.Cursor.{IsOn}
use Rattle.sk_nodes.specs.declared.leaf.Leaf.{Leaf}
use Rattle.sk_nodes.specs.declared.leaf.ListOf.{ListOf}
use Rattle.sk_nodes.specs.Leaves.{runs_of, list_in, entries_of, IsThere, weighed, leaf_greatest, AtMost, IsLeafOn}
use Rattle.sk_nodes.proofs.LeafLaws.{weighed-none}

-- ---- what stands with an id

-- the wdf of a term in a document, if both are there
abbrev pub wdf_at : List ℕ → Option Document → Option ℕ
wdf_at t None = None
wdf_at t (Some d) = if has_term t d.terms then Some (wdf_of t d.terms) else None

pub found_cons : (id : ℕ) (one : ℕ × Document) (w : ℕ) (b : Bool) (es : Postings) → found id es ≡ None → one.0 ≡ id
    → found id (cons_option (if b then Some (one.0, w) else None) es) ≡ (if b then Some w else None)
found_cons id one w true es none same = found-here id (one.0, w) es same
found_cons id one w false es none same = none

pub found_skip : (id : ℕ) (one : ℕ × Document) (w : ℕ) (b : Bool) (es : Postings) → one.0 ≢ id → found id (cons_option (if b then Some (one.0, w) else None) es) ≡ found id es
found_skip id one w true es other = found-other id (one.0, w) es other
found_skip id one w false es other = refl

pub found-postings : (t : List ℕ) (low id : ℕ) (docs : Docs) → RiseAbove low docs → found id (postings t docs) ≡ wdf_at t (document_at id docs)
found-postings t low id [] up = refl
found-postings t low id (one ∷ more) up =
    elim (cases_eq one.0 id) as (λ _. found id (postings t (one ∷ more)) ≡ wdf_at t (document_at id (one ∷ more))) [
      | inl same ↦
          found_cons id one (wdf_of t one.1.terms) (has_term t one.1.terms) (postings t more)
          (found-postings t one.0 id more up.1 ∙ ap (wdf_at t) (found-below one.0 id more (omega (arith, same)) up.1)) same
          ∙ sym (ap (wdf_at t) (found-here id one more same))
      | inr other ↦
          found_skip id one (wdf_of t one.1.terms) (has_term t one.1.terms) (postings t more) other
          ∙ found-postings t one.0 id more up.1 ∙ sym (ap (wdf_at t) (found-other id one more other))
    ]

-- each document stands with the wdf 0
abbrev pub zero_at : Option Document → Option ℕ
zero_at None = None
zero_at (Some d) = Some 0

pub found-all : (id : ℕ) (docs : Docs) → found id (all_postings docs) ≡ zero_at (document_at id docs)
found-all id [] = refl
found-all id (one ∷ more) =
    elim (cases_eq one.0 id) as (λ _. found id (all_postings (one ∷ more)) ≡ zero_at (document_at id (one ∷ more))) [
      | inl same ↦ found-here id (one.0, 0) (all_postings more) same ∙ sym (ap zero_at (found-here id one more same))
      | inr other ↦ found-other id (one.0, 0) (all_postings more) other ∙ found-all id more ∙ sym (ap zero_at (found-other id one more other))
    ]

-- a document that is not live stands in no list
pub list-live : (i : Indexed) (source : ListOf) (id : ℕ) → AreSorted i.live.documents → document_at id i.live.documents ≡ None → found id (list_in i source) ≡ None
list-live i ListOf.All id sorted none = found-all id i.live.documents ∙ ap zero_at none
list-live i (ListOf.Term n) id sorted none = found-postings (term_at i.terms n) 0 id i.live.documents sorted.rise ∙ ap (wdf_at (term_at i.terms n)) none

pub weigh_more : (factor : ℕ) (scheme : Scheme) (v w : ℕ) → v ≤ w → weigh_by factor scheme v ≤ weigh_by factor scheme w
weigh_more factor scheme v w le = weigh_up scheme factor v w le

found_within : (id : ℕ) (es : Postings) (w : ℕ) → found id es ≡ Some w → w ≤ greatest_wdf es
found_within id [] w e = cc
found_within id (p ∷ ps) w e =
    elim (cases_eq p.0 id) as (λ _. w ≤ greatest_wdf (p ∷ ps)) [
      | inl same ↦ let is : p.1 ≡ w = one (sym (found-here id p ps same) ∙ e) in omega (arith, is)
      | inr other ↦ let rest = found_within id ps w (sym (found-other id p ps other) ∙ e) in omega (arith, rest)
    ]
  where
    one : {v w : ℕ} → Some v ≡ Some w → v ≡ w
    one e = cc

-- no entry weighs more than the greatest
pub leaf_bound : (factor : ℕ) (scheme : Scheme) (es : Postings) → AtMost (leaf_greatest factor scheme es) (weighed factor scheme es)
leaf_bound factor scheme [] id = omega arith
leaf_bound factor scheme (p ∷ ps) id = by (found id (p ∷ ps)) refl
  where
    by : (o : Option ℕ) → found id (p ∷ ps) ≡ o → unwrap_or (option_map (weigh_by factor scheme) o) 0 ≤ leaf_greatest factor scheme (p ∷ ps)
    by None e = omega arith
    by (Some w) e = subst (λ n. weigh_by factor scheme w ≤ n) (sym (some_entries p ps)) (weigh_more factor scheme w (greatest_wdf (p ∷ ps)) (found_within id (p ∷ ps) w e))
      where
        some_entries : (p : ℕ × ℕ) (ps : Postings) → leaf_greatest factor scheme (p ∷ ps) ≡ weigh_by factor scheme (greatest_wdf (p ∷ ps))
        some_entries p ps = there (length ps)
          where
            there : (n : ℕ) → (if nat_lt 0 (suc n) then weigh_by factor scheme (greatest_wdf (p ∷ ps)) else 0) ≡ weigh_by factor scheme (greatest_wdf (p ∷ ps))
            there n = grind (arith, nat_tests)

-- ---- a leaf

pub leaf_opened : (i : Indexed) (l : Leaf) → IsThere l.source i.terms → l.factor ≤ 65536 → IsOn l.cursor (runs_of i l.source) → AreRuns (runs_of i l.source) → l.need_wdf ≡ 0
    → entries_of i l ≡ list_in i l.source → l.greatest ≡ leaf_greatest l.factor l.scheme (list_in i l.source) → AreSorted i.live.documents → IsLeafOn i l
leaf_opened i l there factor on runs light whole greatest documents = record {
  there = there;
  factor = factor;
  on = on;
  runs = runs;
  light = λ w lt. absurd (omega (arith, lt, light));
  bound = λ id. subst (λ (es : Postings). unwrap_or (weighed l.factor l.scheme es id) 0 ≤ l.greatest) (sym whole)
      (subst (λ n. unwrap_or (weighed l.factor l.scheme (list_in i l.source) id) 0 ≤ n) (sym greatest) (leaf_bound l.factor l.scheme (list_in i l.source) id));
  live = λ id none. weighed-none l.factor l.scheme id (entries_of i l) (ap (found id) whole ∙ list-live i l.source id documents none);
}
