-- The bounds of a query, by its variant.
use Rattle.std.proofs.Common.{◌≡◌, ◌≤◌, ◌-◌, ◌^◌, ◌⊎◌, ℕ, List, Vec, Global, min, inl, inr, ap, ◌∙◌, arith}
use Rattle.sk_base.specs.declared.find.Scheme.{Scheme}
use Rattle.sk_base.specs.Numbers.{Docs}
use Rattle.sk_query.specs.declared.query.Query.{Query}
use Rattle.sk_query.specs.declared.query.Query.TheVariants as Query
use Rattle.sk_query.specs.Trees.{query_view, queries_view}
use Rattle.sk_query.proofs.ViewLaws.{view-And, view-Or, view-Xor, view-AndMaybe, view-Near, view-Phrase}
use Rattle.sk_model.specs.Bounds.{ceil, ceils, sum_in, terms_ceil, static_count, least_length}

-- the queries whose bound is the sum over their parts
pub summed : (scheme : Scheme) (factor : ℕ) (docs : Docs) (q : Query) (v : Vec Query Global)
    → (q ≡ Query.And v) ⊎ ((q ≡ Query.Or v) ⊎ ((q ≡ Query.Xor v) ⊎ (q ≡ Query.AndMaybe v)))
    → ceil (query_view q) scheme factor docs ≡ sum_in (ceils (queries_view v.items) scheme factor docs)
summed scheme factor docs q v is =
    elim is as (λ _. ceil (query_view q) scheme factor docs ≡ sum_in (ceils (queries_view v.items) scheme factor docs)) [
      | inl e ↦ ap (λ q. ceil (query_view q) scheme factor docs) e ∙ ap (λ t. ceil t scheme factor docs) (view-And v)
      | inr more ↦ elim more as (λ _. ceil (query_view q) scheme factor docs ≡ sum_in (ceils (queries_view v.items) scheme factor docs)) [
        | inl e ↦ ap (λ q. ceil (query_view q) scheme factor docs) e ∙ ap (λ t. ceil t scheme factor docs) (view-Or v)
        | inr last ↦ elim last as (λ _. ceil (query_view q) scheme factor docs ≡ sum_in (ceils (queries_view v.items) scheme factor docs)) [
          | inl e ↦ ap (λ q. ceil (query_view q) scheme factor docs) e ∙ ap (λ t. ceil t scheme factor docs) (view-Xor v)
          | inr e ↦ ap (λ q. ceil (query_view q) scheme factor docs) e ∙ ap (λ t. ceil t scheme factor docs) (view-AndMaybe v)
        ]
      ]
    ]

-- the queries of words that stand in some places
pub worded : (scheme : Scheme) (factor : ℕ) (docs : Docs) (q : Query) (words : List (List ℕ))
    → ((w : ℕ) × (q ≡ Query.Near w words)) ⊎ ((w : ℕ) × (q ≡ Query.Phrase w words)) → ceil (query_view q) scheme factor docs ≡ terms_ceil scheme factor words docs
worded scheme factor docs q words is =
    elim is as (λ _. ceil (query_view q) scheme factor docs ≡ terms_ceil scheme factor words docs) [
      | inl e ↦ ap (λ q. ceil (query_view q) scheme factor docs) e.1 ∙ ap (λ t. ceil t scheme factor docs) (view-Near e.0 words)
      | inr e ↦ ap (λ q. ceil (query_view q) scheme factor docs) e.1 ∙ ap (λ t. ceil t scheme factor docs) (view-Phrase e.0 words)
    ]

pub placed : (docs : Docs) (q : Query) (words : List (List ℕ)) → ((w : ℕ) × (q ≡ Query.Near w words)) ⊎ ((w : ℕ) × (q ≡ Query.Phrase w words)) → static_count (query_view q) docs ≡ least_length words docs
placed docs q words is =
    elim is as (λ _. static_count (query_view q) docs ≡ least_length words docs) [
      | inl e ↦ ap (λ q. static_count (query_view q) docs) e.1 ∙ ap (λ t. static_count t docs) (view-Near e.0 words)
      | inr e ↦ ap (λ q. static_count (query_view q) docs) e.1 ∙ ap (λ t. static_count t docs) (view-Phrase e.0 words)
    ]

-- a sum as far as 128 bits go is the whole sum, where that is no greater than a weight
pub whole_sum : (t sum whole : ℕ) → t ≡ min (2 ^ 128 - 1) sum → whole ≡ sum → whole ≤ 2 ^ 84 → t ≡ whole
whole_sum t sum whole e same fits = omega (arith, e, same, fits)
