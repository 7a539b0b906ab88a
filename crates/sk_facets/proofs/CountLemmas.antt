-- A walk over the matches of a query that counts their values.
use Rattle.std.proofs.Common.{◌≡◌, ◌<◌, ◌≤◌, ◌+◌, ◌^◌, ℕ, cond, List, [], ◌∷◌, ◌++◌, length, map, sum_by, is_some, Option, Some, None, length-append, refl, sym, ap, ◌∙◌, subst, arith, true≢false}
use Rattle.std.specs.Prelude.{unwrap_or, IfOk}
use Rattle.std.specs.declared.result.Result.{Result}
use Rattle.std.specs.declared.result.Result.TheVariants.{Ok, Err}
use Rattle.std.specs.List.{cons_option}
use Rattle.std.specs.Option.{option_map}
use Rattle.std.proofs.lemmas.List.{length-map}
use Rattle.std.proofs.lemmas.List.Sums.{length-filter, count_by-le-length}
use Rattle.sk_base.specs.declared.facets.Facet.{Facet}
use Rattle.sk_base.specs.declared.facets.Facets.{Facets}
use Rattle.sk_base.specs.declared.find.Scheme.{Scheme}
use Rattle.sk_base.specs.Documents.{value_in}
use Rattle.sk_base.specs.Numbers.{Docs}
use Rattle.sk_sorted.specs.Entries.{RiseAbove, LieBelow, AreSorted, from, first_id}
use Rattle.sk_sorted.proofs.EntryLaws.{length_fits, from-next, nothing_behind_last, found-here, found-other}
use Rattle.sk_query.specs.Trees as Query
use Rattle.sk_model.specs.Allowance.{leaf_readings}
use Rattle.sk_model.specs.Documents.{Document}
use Rattle.sk_model.specs.Edits.{document_at}
use Rattle.sk_model.specs.Facets.{matching, values_found}
use Rattle.sk_model.specs.Scores.{score}
use Rattle.sk_model.proofs.FacetLaws.{sum_of_counts}
use Rattle.sk_report.specs.Facets.{FacetsFor}
use Rattle.sk_report.proofs.FacetLaws.{one_value_each}
use Rattle.sk_index.specs.Indexed.{Indexed, slot_value}
use Rattle.sk_tree.specs.Built.{weighed_ids, left, scored, Built}
use Rattle.sk_tree.specs.declared.tree.Tree.{Tree}
use Rattle.sk_facets.specs.declared.tally.Tally.{Tally}
use Rattle.sk_facets.specs.Counts.{behind_first, values_left, IsCounting}
use Rattle.sk_facets.specs.Tallied.{AreFirst, Knows}

-- ---- what is left of a tree

lower : (low high : ℕ) (es : List (ℕ × ℕ)) → low ≤ high → RiseAbove high es → RiseAbove low es
lower low high [] le up = tt
lower low high (e ∷ es) le up = (omega (arith, le, up.0), up.1)

ids_rise : (f : ℕ × Document → Option ℕ) (low : ℕ) (docs : Docs) → RiseAbove low docs → RiseAbove low (weighed_ids f docs)
ids_rise f low [] up = tt
ids_rise f low (one ∷ more) up = by (f one) (ids_rise f one.0 more up.1)
  where
    by : (o : Option ℕ) → RiseAbove one.0 (weighed_ids f more) → RiseAbove low (cons_option (option_map (λ w. (one.0, w)) o) (weighed_ids f more))
    by None h = lower low one.0 (weighed_ids f more) (omega (arith, up.0)) h
    by (Some w) h = (up.0, h)

ids_small : (f : ℕ × Document → Option ℕ) (high : ℕ) (docs : Docs) → LieBelow high docs → LieBelow high (weighed_ids f docs)
ids_small f high [] low = tt
ids_small f high (one ∷ more) low = by (f one) (ids_small f high more low.1)
  where
    by : (o : Option ℕ) → LieBelow high (weighed_ids f more) → LieBelow high (cons_option (option_map (λ w. (one.0, w)) o) (weighed_ids f more))
    by None h = h
    by (Some w) h = (low.0, h)

pub left_sorted : (i : Indexed) (t : Tree) → AreSorted i.live.documents → AreSorted (left i t)
left_sorted i t sorted = record { rise = ids_rise _ 0 i.live.documents sorted.rise; small = ids_small _ (2 ^ 32) i.live.documents sorted.small }

some_same : (a b : ℕ) → Some a ≡ Some b → a ≡ b
some_same a b e = ap (λ o. unwrap_or o 0) e

no_first : (id : ℕ) → None ≡ Some id → ⊥
no_first id e = true≢false (sym (ap is_some e))

-- behind the first id, and behind the last that ids can have
pub from_first : (id : ℕ) (es : List (ℕ × ℕ)) → AreSorted es → first_id es ≡ Some id → from (id + 1) es ≡ behind_first es
from_first id [] sorted e = absurd (no_first id e)
from_first id (p ∷ es) sorted e = subst (λ n. from (n + 1) (p ∷ es) ≡ es) (some_same p.0 id e) (from-next p es sorted)

pub none_behind : (id : ℕ) (es : List (ℕ × ℕ)) → AreSorted es → first_id es ≡ Some id → id ≡ 4294967295 → [] ≡ behind_first es
none_behind id [] sorted e last = absurd (no_first id e)
none_behind id (p ∷ es) sorted e last = sym (nothing_behind_last p es sorted (omega (arith, some_same p.0 id e, last)))

pub fewer : (id : ℕ) (es : List (ℕ × ℕ)) → first_id es ≡ Some id → length (behind_first es) < length es
fewer id [] e = absurd (no_first id e)
fewer id (p ∷ es) e = omega arith

-- ---- the values of what is left

module _ (query : Query.Tree) (slot : ℕ) where
  values_from : (at : ℕ → Option Document) (low : ℕ) (docs : Docs) → RiseAbove low docs → ((id : ℕ) → low < id → at id ≡ document_at id docs)
      → map (λ (p : ℕ × ℕ). slot_value slot (at p.0)) (scored query Scheme.Bool 1 docs) ≡ values_found query slot docs
  values_from at low [] up same = refl
  values_from at low (one ∷ more) up same =
      by (score query Scheme.Bool 1 one.1) (values_from at one.0 more up.1 (λ id lt. same id (omega (arith, lt, up.0)) ∙ found-other id one more (λ e. omega (arith, e, lt))))
    where
      here : at one.0 ≡ Some one.1
      here = same one.0 up.0 ∙ found-here one.0 one more refl

      by : (o : Option ℕ) → map (λ (p : ℕ × ℕ). slot_value slot (at p.0)) (scored query Scheme.Bool 1 more) ≡ values_found query slot more
          → map (λ (p : ℕ × ℕ). slot_value slot (at p.0)) (cons_option (option_map (λ w. (one.0, w)) o) (scored query Scheme.Bool 1 more))
          ≡ map (λ (d : ℕ × Document). value_in slot d.1.values) (cond (is_some o) (one ∷ matching query more) (matching query more))
      by None h = h
      by (Some w) h = λ i. slot_value slot (here i) ∷ h i

  pub values_of_all : (docs : Docs) → RiseAbove 0 docs → values_left slot docs (scored query Scheme.Bool 1 docs) ≡ values_found query slot docs
  values_of_all docs up = values_from (λ id. document_at id docs) 0 docs up (λ id lt. refl)

one_more : (xs ys : List (List ℕ)) (x : List ℕ) → (xs ++ x ∷ []) ++ ys ≡ xs ++ x ∷ ys
one_more [] ys x = refl
one_more (z ∷ xs) ys x = ap (λ zs. z ∷ zs) (one_more xs ys x)

moved : (slot : ℕ) (docs : Docs) (seen whole : List (List ℕ)) (es fs : List (ℕ × ℕ)) (id : ℕ) (v : List ℕ) → first_id es ≡ Some id → fs ≡ behind_first es → v ≡ slot_value slot (document_at id docs)
    → seen ++ values_left slot docs es ≡ whole → (seen ++ v ∷ []) ++ values_left slot docs fs ≡ whole
moved slot docs seen whole [] fs id v first rest value all = absurd (no_first id first)
moved slot docs seen whole (p ∷ es) fs id v first rest value all =
    ap (λ gs. (seen ++ v ∷ []) ++ values_left slot docs gs) rest ∙ one_more seen (values_left slot docs es) v
    ∙ ap (λ u. seen ++ u ∷ values_left slot docs es) (value ∙ ap (λ n. slot_value slot (document_at n docs)) (sym (some_same p.0 id first))) ∙ all

nothing_left : (es : List (ℕ × ℕ)) → first_id es ≡ None → es ≡ []
nothing_left [] e = refl
nothing_left (p ∷ es) e = absurd (no_first p.0 (sym e))

append_none : (xs : List (List ℕ)) → xs ++ [] ≡ xs
append_none [] = refl
append_none (x ∷ xs) = ap (λ ys. x ∷ ys) (append_none xs)

few_values : (query : Query.Tree) (slot : ℕ) (docs : Docs) → length (values_found query slot docs) ≤ length docs
few_values query slot docs =
    omega (
      arith,
      one_value_each query slot docs,
      length-filter (λ (one : ℕ × Document). is_some (score query Scheme.Bool 1 one.1)) docs,
      count_by-le-length (λ (one : ℕ × Document). is_some (score query Scheme.Bool 1 one.1)) docs,
    )

-- ---- the walk

module _ (index : Indexed) (query : Query.Tree) (slot : ℕ) where
  abbrev docs : Docs
  docs = index.live.documents

  pub opened : (tree : Tree) (tally : Tally) → Built tree index query Scheme.Bool → left index tree ≡ scored query Scheme.Bool 1 docs → tree.need ≡ 0 → Knows tally [] → IsCounting index query slot tree tally
  opened tree tally built all need knows = record {
    built = built;
    need = need;
    seen = [];
    knows = knows;
    all = ap (values_left slot docs) all ∙ values_of_all query slot docs built.tree.documents.rise;
  }

  module _ (tree : Tree) (tally : Tally) (counting : IsCounting index query slot tree tally) where
    -- there is room for one more
    pub room : (id : ℕ) → first_id (left index tree) ≡ Some id → tally.matches + 1 < 2 ^ 32
    room id first =
        omega (
          arith,
          counting.knows.matches,
          ap length counting.all,
          length-append counting.seen (values_left slot docs (left index tree)),
          length-map (left index tree) (λ p. slot_value slot (document_at p.0 docs)),
          fewer id (left index tree) first,
          few_values query slot docs,
          length_fits docs counting.built.tree.documents,
        )

    pub passed : (id : ℕ) (v : List ℕ) (after : Tree) (more : Tally) → first_id (left index tree) ≡ Some id → v ≡ slot_value slot (document_at id docs)
        → left index after ≡ behind_first (left index tree) → Built after index query Scheme.Bool → after.need ≡ 0 → ((values : List (List ℕ)) → Knows tally values → Knows more (values ++ v ∷ []))
        → IsCounting index query slot after more
    passed id v after more first value rest built need knows = record {
      built = built;
      need = need;
      seen = counting.seen ++ v ∷ [];
      knows = knows counting.seen counting.knows;
      all = moved slot docs counting.seen (values_found query slot docs) (left index tree) (left index after) id v first rest value counting.all;
    }

    -- at the end all were seen
    pub knows_all : first_id (left index tree) ≡ None → Knows tally (values_found query slot docs)
    knows_all none =
        subst (Knows tally) (sym (append_none counting.seen) ∙ ap (λ es. counting.seen ++ values_left slot docs es) (sym (nothing_left (left index tree) none)) ∙ counting.all) counting.knows

  pub told : (size spent : ℕ) (tally : Tally) (facets : Facets) → Knows tally (values_found query slot docs) → AreFirst (values_found query slot docs) size facets.values facets.distinct
      → facets.without ≡ tally.without → facets.matches ≡ tally.matches → facets.steps ≡ spent + tally.matches → spent ≤ leaf_readings query docs → FacetsFor query slot size docs facets
  told size spent tally facets knows first without matches steps within = record {
    all = first.all;
    counted = first.counted;
    values = first.first;
    distinct = first.distinct;
    without = without ∙ knows.without;
    matches = matches ∙ knows.matches;
    sum = (λ i. sum_by (λ (f : Facet). f.count) first.all + (without ∙ knows.without) i) ∙ sum_of_counts (values_found query slot docs) first.all first.counted ∙ sym (matches ∙ knows.matches);
    least_steps = omega (arith, matches, steps);
    most_steps = omega (arith, matches, steps, within, knows.matches, one_value_each query slot docs);
  }

pub more_matches : (tally more : Tally) (v : List ℕ) (values : List (List ℕ)) → Knows tally values → Knows more (values ++ v ∷ []) → more.matches ≡ tally.matches + 1
more_matches tally more v values k j = omega (arith, k.matches, j.matches, length-append values (v ∷ []))

-- what holds of each outcome without an error, by three things that do
pub all_ok : {A B : Type 0} (r : Result A B) (P Q R S : A → Type 0) → ((a : A) → P a → Q a → R a → S a) → IfOk r P → IfOk r Q → IfOk r R → IfOk r S
all_ok (Ok a) P Q R S f p q s = f a p q s
all_ok (Err b) P Q R S f p q s = tt
