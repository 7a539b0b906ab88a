-- The matches of documents have different ids, as the documents have.
use Rattle.std.proofs.Common.{◌≡◌, ◌≢◌, ◌<◌, ℕ, List, [], ◌∷◌, map, Option, Some, None, option_map, AllPairs, sym, arith}
use Rattle.std.specs.List.{AllByRecursion, cons_option}
use Rattle.std.specs.List.Sorted.{IsStrictlySortedBy}
use Rattle.std.specs.Ordering.{nat_cmp}
use Rattle.std.specs.declared.cmp.Ordering.TheVariants.{Less}
use Rattle.std.proofs.lemmas.Cmp.{ranked}
use Rattle.std.proofs.lemmas.List.Elements.{All-from_recursion}
use Rattle.std.proofs.lemmas.List.Kept.{AllPairs-cons}
use Rattle.std.proofs.lemmas.Map.Keys.{sorted_head, sorted_tail}
use Rattle.sk_base.specs.declared.doc.Doc.{Doc}
use Rattle.sk_base.specs.declared.find.Scheme.{Scheme}
use Rattle.sk_base.specs.declared.rank.Order.{Order}
use Rattle.sk_base.specs.declared.rank.Rank.{Rank}
use Rattle.sk_query.specs.Trees.{Tree}
use Rattle.sk_model.specs.Matches.{value_for, matches}
use Rattle.sk_model.specs.Scores.{score}

-- the id is none of these
abbrev Fresh : ℕ → List Rank → Type 0
Fresh k ranks = AllByRecursion (λ (x : Rank). k ≢ x.id) ranks

abbrev Differ : List Rank → Type 0
Differ ranks = AllPairs (λ (x y : Rank). x.id ≢ y.id) ranks

abbrev ids_of : List (ℕ × Doc) → List ℕ
ids_of docs = map (λ e. e.0) docs

unequal : (a b : ℕ) → nat_cmp a b ≡ Less → a ≢ b
unequal a b l e = let lt : a < b = ranked a b Less (sym l) in absurd (omega (arith, lt, e))

fresh_step : (k id : ℕ) (value : List ℕ) (o : Option ℕ) (xs : List Rank) → k ≢ id → Fresh k xs
    → Fresh k (cons_option (option_map (λ w. record { weight = w; value = value; id = id }) o) xs)
fresh_step k id value None xs a h = h
fresh_step k id value (Some w) xs a h = (a, h)

differ_step : (id : ℕ) (value : List ℕ) (o : Option ℕ) (xs : List Rank) → Fresh id xs → Differ xs
    → Differ (cons_option (option_map (λ w. record { weight = w; value = value; id = id }) o) xs)
differ_step id value None xs a h = h
differ_step id value (Some w) xs a h =
    AllPairs-cons (λ (x y : Rank). x.id ≢ y.id) (record { weight = w; value = value; id = id }) xs (All-from_recursion (λ (y : Rank). id ≢ y.id) xs a) h

module _ (tree : Tree) (scheme : Scheme) (order : Order) where
  fresh : (k : ℕ) (docs : List (ℕ × Doc)) → AllByRecursion (λ y. nat_cmp k y ≡ Less) (ids_of docs) → Fresh k (matches tree scheme order docs)
  fresh k [] h = tt
  fresh k (one ∷ more) h =
      fresh_step k one.0 (value_for order one.1) (score tree scheme 1 one.1) (matches tree scheme order more) (unequal k one.0 h.0) (fresh k more h.1)

  -- the ids of the matches differ, as the keys of the documents rise
  pub ids_differ : (docs : List (ℕ × Doc)) → IsStrictlySortedBy nat_cmp (ids_of docs) → Differ (matches tree scheme order docs)
  ids_differ [] s = λ i j d l m. absurd (omega arith)
  ids_differ (one ∷ more) s =
      differ_step one.0 (value_for order one.1) (score tree scheme 1 one.1) (matches tree scheme order more)
      (fresh one.0 more (sorted_head nat_cmp one.0 (ids_of more) s)) (ids_differ more (sorted_tail nat_cmp one.0 (ids_of more) s))
