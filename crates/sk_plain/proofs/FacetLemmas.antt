-- Values are counted one after the other, each where it stands first.
use Rattle.std.proofs.Common.{◌≡◌, ◌<◌, ◌≤◌, ◌+◌, ℕ, Bool, true, false, cond, ◌||◌, ◌==◌, List, [], ◌∷◌, ◌++◌, length, map, take, drop, get_or, bytes_eq, is_some, All, refl, sym, ap, ◌∙◌, subst, arith, true≢false}
use Rattle.std.proofs.lemmas.Bool.Decides.{nat_tests}
use Rattle.std.proofs.Math.Seq.{take-append_seam}
use Rattle.std.proofs.lemmas.List.{length-map, take_all}
use Rattle.std.proofs.lemmas.List.Elements.{All-nil, All-push}
use Rattle.std.proofs.lemmas.List.Folds.{list_any-append}
use Rattle.std.proofs.lemmas.List.Sums.{sum_by_more, sum_by_push, get_or-le-sum_by, length-filter, count_by-le-length}
use Rattle.std.specs.Cmp.Lexicographic.{bytes_decides}
use Rattle.std.specs.List.{list_any}
use Rattle.sk_base.specs.declared.doc.Doc.{Doc}
use Rattle.sk_base.specs.declared.facets.Facet.{Facet}
use Rattle.sk_base.specs.declared.find.Scheme.{Scheme}
use Rattle.sk_base.specs.Documents.{value_in}
use Rattle.sk_base.specs.Loads.{IsLight}
use Rattle.sk_base.specs.Numbers.{Docs}
use Rattle.sk_query.specs.Trees.{Tree}
use Rattle.sk_model.specs.Facets.{matching, values_found, times}
use Rattle.sk_model.specs.Laws.{AreTallied}
use Rattle.sk_model.specs.Scores.{score}
use Rattle.sk_model.proofs.FacetLaws.{bit, held, one_itself, not_none, IsOf}
use Rattle.sk_model.proofs.TallyLaws.{none_held}
use Rattle.sk_plain.proofs.FoundLemmas.{one_more, rest_light}

-- no more values than documents
pub few_values : (query : Tree) (slot : ℕ) (docs : Docs) → length (values_found query slot docs) ≤ length docs
few_values query slot docs =
    omega (
      arith,
      length-map (matching query docs) (λ one. value_in slot one.1.values),
      length-filter (λ (one : ℕ × Doc). is_some (score query Scheme.Bool 1 one.1)) docs,
      count_by-le-length (λ (one : ℕ × Doc). is_some (score query Scheme.Bool 1 one.1)) docs,
    )

-- a value more, and a document that is no match
pub value_step : (query : Tree) (slot : ℕ) (xs next whole : List (List ℕ)) (v : List ℕ) (one : ℕ × Doc) (left rest : Docs)
    → left ≡ one ∷ rest → is_some (score query Scheme.Bool 1 one.1) ≡ true → next ≡ xs ++ v ∷ [] → v ≡ value_in slot one.1.values
    → (xs ++ values_found query slot left ≡ whole) × All IsLight left → (next ++ values_found query slot rest ≡ whole) × All IsLight rest
value_step query slot xs next whole v one left rest is found grown at h = (
  ap (λ ys. ys ++ values_found query slot rest) (grown ∙ ap (λ u. xs ++ u ∷ []) at)
      ∙ one_more xs (values_found query slot rest) (value_in slot one.1.values)
      ∙ ap (λ b. xs ++ map (λ (p : ℕ × Doc). value_in slot p.1.values) (cond b (one ∷ matching query rest) (matching query rest))) (sym found)
      ∙ ap (λ b. xs ++ values_found query slot b) (sym is)
      ∙ h.0,
  rest_light one rest (subst (All IsLight) is h.1),
)

pub no_value_step : (query : Tree) (slot : ℕ) (xs whole : List (List ℕ)) (one : ℕ × Doc) (left rest : Docs)
    → left ≡ one ∷ rest → is_some (score query Scheme.Bool 1 one.1) ≡ false
    → (xs ++ values_found query slot left ≡ whole) × All IsLight left → (xs ++ values_found query slot rest ≡ whole) × All IsLight rest
no_value_step query slot xs whole one left rest is found h = (
  ap (λ b. xs ++ map (λ (p : ℕ × Doc). value_in slot p.1.values) (cond b (one ∷ matching query rest) (matching query rest))) (sym found)
      ∙ ap (λ b. xs ++ values_found query slot b) (sym is)
      ∙ h.0,
  rest_light one rest (subst (All IsLight) is h.1),
)

pub no_value : (v s : List ℕ) → s ≡ v → true ≡ (length s == 0) → 0 < length v → ⊥
no_value v s e h some = omega (arith, some, ap length e, none (length s) (sym h))
  where
    none : (n : ℕ) → (n == 0) ≡ true → n ≡ 0
    none n e = grind (arith, nat_tests)

pub some_value : (v s : List ℕ) → s ≡ v → false ≡ (length s == 0) → 0 < length v
some_value v s e h = subst (λ u. 0 < length u) e (not_none (length s) (sym h))

-- what was put in the place of all
pub put_whole : {X : Type 0} (n : ℕ) (xs ys : List X) → length ys ≡ n → ys ≡ take n (ys ++ drop (length ys) xs)
put_whole n xs ys e = sym (take-append_seam ys (drop (length ys) xs)) ∙ ap (λ k. take k (ys ++ drop (length ys) xs)) e

-- the first so many of the values stand there, each with how many of all it is
pub record AreTalliedTo (values : List (List ℕ)) (i : ℕ) (facets : List Facet) : Type 0 where
  pub counts : All (IsOf values) facets
  pub whole : (v : List ℕ) → 0 < length v → 0 < times v (take i values) → list_any (λ f. bytes_eq f.value v) facets ≡ true
  pub once : (v : List ℕ) → held v facets ≤ 1

pub tallied_none : (values : List (List ℕ)) → AreTalliedTo values 0 []
tallied_none values = record { counts = All-nil (IsOf values); whole = λ v some there. absurd (omega (arith, there)); once = λ v. omega arith }

pub tallied_all : (values : List (List ℕ)) (facets : List Facet) → AreTalliedTo values (length values) facets → AreTallied values facets
tallied_all values facets t = record {
  counts = t.counts;
  whole = λ v some there. t.whole v some (subst (λ vs. 0 < times v vs) (sym (take_all (length values) values (omega arith))) there);
  once = t.once;
}

module _ (values : List (List ℕ)) (i : ℕ) (facets : List Facet) (v : List ℕ) (within : i < length values) (at : v ≡ get_or values i v) where
  times_more : (w : List ℕ) → times w (take (i + 1) values) ≡ times w (take i values) + bit (bytes_eq w v)
  times_more w = sum_by_more (λ u. cond (bytes_eq w u) 1 0) values i v within ∙ ap (λ u. times w (take i values) + bit (bytes_eq w u)) (sym at)

  -- one that is empty, or that stands there already
  pub passed : (0 < length v → list_any (λ f. bytes_eq f.value v) facets ≡ true) → AreTalliedTo values i facets → AreTalliedTo values (i + 1) facets
  passed there t = record { counts = t.counts; whole = whole; once = t.once }
    where
      whole : (w : List ℕ) → 0 < length w → 0 < times w (take (i + 1) values) → list_any (λ f. bytes_eq f.value w) facets ≡ true
      whole w some more =
          elim (bytes_eq w v) as (λ r. bytes_eq w v ≡ r → list_any (λ f. bytes_eq f.value w) facets ≡ true) [
            | true ↦ λ e. subst (λ u. list_any (λ f. bytes_eq f.value u) facets ≡ true) (sym ((bytes_decides w v).0 e)) (there (subst (λ u. 0 < length u) ((bytes_decides w v).0 e) some))
            | false ↦ λ e. t.whole w some (omega (arith, more, times_more w, ap bit e))
          ] refl

  -- a new one
  pub put_last : 0 < length v → list_any (λ f. bytes_eq f.value v) facets ≡ false → AreTalliedTo values i facets
      → AreTalliedTo values (i + 1) (facets ++ record { value = v; count = times v values } ∷ [])
  put_last given new t = record {
    counts = All-push (IsOf values) facets one t.counts (given, there, refl);
    whole = whole;
    once = once;
  }
    where
      one : Facet
      one = record { value = v; count = times v values }

      there : 0 < times v values
      there = omega (arith, get_or-le-sum_by (λ u. cond (bytes_eq v u) 1 0) values i v within, ap (λ u. bit (bytes_eq v u)) (sym at), one_itself v)

      either : (a b : Bool) → a ≡ true → (a || b) ≡ true
      either true b e = refl
      either false b e = absurd (true≢false (sym e))

      or_last : (a b : Bool) → b ≡ true → (a || (b || false)) ≡ true
      or_last true b e = refl
      or_last false true e = refl
      or_last false false e = e

      whole : (w : List ℕ) → 0 < length w → 0 < times w (take (i + 1) values) → list_any (λ f. bytes_eq f.value w) (facets ++ one ∷ []) ≡ true
      whole w some more =
          list_any-append (λ f. bytes_eq f.value w) facets (one ∷ []) ∙ elim (bytes_eq w v) as (λ r. bytes_eq w v ≡ r → (list_any (λ f. bytes_eq f.value w) facets || (bytes_eq v w || false)) ≡ true) [
            | true ↦ λ e. or_last (list_any (λ f. bytes_eq f.value w) facets) (bytes_eq v w) ((bytes_decides v w).1 (sym ((bytes_decides w v).0 e)))
            | false ↦ λ e. either (list_any (λ f. bytes_eq f.value w) facets) (bytes_eq v w || false) (t.whole w some (omega (arith, more, times_more w, ap bit e)))
          ] refl

      once : (w : List ℕ) → held w (facets ++ one ∷ []) ≤ 1
      once w =
          let pushed : held w (facets ++ one ∷ []) ≡ held w facets + bit (bytes_eq v w) = sum_by_push (λ (f : Facet). cond (bytes_eq f.value w) 1 0) facets one in
          elim (bytes_eq v w) as (λ r. bytes_eq v w ≡ r → held w (facets ++ one ∷ []) ≤ 1) [
            | true ↦ λ e. omega (arith, pushed, ap bit e, ap (λ u. held u facets) ((bytes_decides v w).0 e), none_there)
            | false ↦ λ e. omega (arith, pushed, ap bit e, t.once w)
          ] refl
        where
          none_there : held v facets ≡ 0
          none_there = none_held v facets new
