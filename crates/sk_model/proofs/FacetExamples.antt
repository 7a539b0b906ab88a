-- What is counted of the values of matches, worked out by hand.
use Rattle.std.proofs.Common.{◌≡◌, ℕ, ◌∷◌, [], List, length, refl, map, codes}
use Rattle.sk_base.specs.declared.facets.Facet.{Facet}
use Rattle.sk_query.specs.declared.form.Form.{Form}
use Rattle.sk_query.specs.Trees.{Tree, nothing, all, term, parts, phrase, trees_from}
use Rattle.sk_model.specs.Counting.{counted}
use Rattle.sk_model.specs.Facets.{values_found, number_without, facet_allowance}
use Rattle.sk_model.proofs.Examples.{four}

abbrev red : Tree
red = term (codes "red")

abbrev fox : Tree
fox = term (codes "fox")

abbrev red_fox : Tree
red_fox = parts Form.Or (trees_from (red ∷ fox ∷ []))

-- what is counted in a slot: values with their counts, how many matches have none, how many there are, and the most readings
abbrev facets : Tree → ℕ → List (List ℕ × ℕ) × ℕ × ℕ × ℕ
facets query slot =
    let values = values_found query slot four in
    (map (λ (f : Facet). (f.value, f.count)) (counted values), number_without values, length values, facet_allowance query four)

-- as many have `a` as `b`: the lesser value first; the values of years are their bytes
sites : facets red_fox 1 ≡ ((codes "a", 2) ∷ (codes "b", 2) ∷ [], 0, 4, 10)
sites = refl

-- each year once, and one match has none
years : map (λ (p : List ℕ × ℕ). p.1) (let found = facets red_fox 0 in found.0) ≡ 1 ∷ 1 ∷ 1 ∷ []
years = refl

years_rise : map (λ (p : List ℕ × ℕ). p.0) (let found = facets red_fox 0 in found.0)
    ≡ (0 ∷ 0 ∷ 0 ∷ 0 ∷ 0 ∷ 0 ∷ 7 ∷ 198 ∷ []) ∷ (0 ∷ 0 ∷ 0 ∷ 0 ∷ 0 ∷ 0 ∷ 7 ∷ 208 ∷ []) ∷ (0 ∷ 0 ∷ 0 ∷ 0 ∷ 0 ∷ 0 ∷ 7 ∷ 218 ∷ []) ∷ []
years_rise = refl

without_year : (let found = facets red_fox 0 in found.1) ≡ 1
without_year = refl

-- the greater count before the lesser value
sites_of_fox : facets fox 1 ≡ ((codes "b", 2) ∷ (codes "a", 1) ∷ [], 0, 3, 6)
sites_of_fox = refl

sites_of_red : facets red 1 ≡ ((codes "a", 2) ∷ (codes "b", 1) ∷ [], 0, 3, 6)
sites_of_red = refl

-- a slot without values; no match; all documents; and a phrase, whose lists count twice
no_values : facets red 7 ≡ ([], 3, 3, 6)
no_values = refl

no_match : facets nothing 1 ≡ ([], 0, 0, 0)
no_match = refl

of_all : facets all 1 ≡ ((codes "a", 2) ∷ (codes "b", 2) ∷ [], 0, 4, 8)
of_all = refl

of_a_phrase : facets (phrase 2 (codes "red" ∷ codes "fox" ∷ [])) 1 ≡ ((codes "a", 1) ∷ (codes "b", 1) ∷ [], 0, 2, 14)
of_a_phrase = refl
