use Rattle.std.proofs.Common.{◌∙◌, ◌≡◌, ◌&&◌, ℕ, List, [], ◌∷◌, Option, None, Some, is_some, option_map, refl, sym, ap}
use Rattle.std.specs.List.{list_all}
use Rattle.sk_query.specs.Trees.{Tree, Trees, term, tree, query_view, queries_view}
use Rattle.sk_query.specs.declared.query.Query.{Query}
use Rattle.sk_query.proofs.ViewLaws.{view-Or}
use Rattle.sk_model.specs.Joined.{term_lists}
use Rattle.sk_model.specs.Sharp.{terms_in}
use Rattle.sk_shards.specs.Forests.{is_term}
use Rattle.sk_shards.proofs.forest.is_of_terms.Goals as goal

one_more : (t : List ℕ) (o : Option (List (List ℕ))) → is_some (option_map (λ more. t ∷ more) o) ≡ is_some o
one_more t None = refl
one_more t (Some ts) = refl

first_is : (t : Tree) (ts : Trees) → is_some (terms_in (tree t ts)) ≡ (is_term t && is_some (terms_in ts))
first_is (term t) ts = one_more t (terms_in ts)
first_is _ ts = refl

-- all are terms where each is
all_terms : (qs : List Query) → is_some (terms_in (queries_view qs)) ≡ list_all (λ q. is_term (query_view q)) qs
all_terms [] = refl
all_terms (q ∷ qs) = first_is (query_view q) (queries_view qs) ∙ ap (λ b. is_term (query_view q) && b) (all_terms qs)

pub returns-in-Or : goal.returns-in-Or
returns-in-Or c =
    c.are_terms.ensures
    ∙ ap (list_all (λ q. is_term (query_view q))) c.as_slice.ensures.value
    ∙ sym (all_terms c.in-Or.parts.items)
    ∙ ap (λ q. is_some (term_lists q)) (sym (view-Or c.in-Or.parts))
    ∙ ap (λ q. is_some (term_lists (query_view q))) (sym c.in-Or.is)
