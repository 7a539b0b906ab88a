-- The items that are made, and what is known of a result.
use Rattle.std.proofs.Common.{◌≡◌, ◌≤◌, ℕ, List, [], ◌∷◌, length, map, take, true, false, Some, Result, Ok, Err, IfOk, String, Global, string_bytes, refl, sym, ap, subst, ◌∙◌}
use Rattle.std.specs.Option.{option_and_then}
use Rattle.std.specs.declared.alloc.AllocError.{AllocError}
use Rattle.std.proofs.lemmas.List.{take_all}
use Rattle.serde_json.specs.Data.{Data, item, depth}
use Rattle.serde_json.specs.Read.{read, max_depth}
use Rattle.serde_json.specs.View.{view, items_of, items_view}
use Rattle.serde_json.specs.Written.{has_float, compact_text}
use Rattle.serde_json.specs.declared.value.Value.{Value}
use Rattle.sk_query.specs.declared.query.Query.{Query}
use Rattle.sk_query.specs.Trees.{Tree, query_view, queries_view}
use Rattle.sk_query.specs.Fits.{fits_tree}
use Rattle.sk_query_json.specs.Reading.{tree_of}
use Rattle.sk_query_json.specs.Writing.{json_of, json_of_all}
use Rattle.sk_query_json.proofs.RoundTrip.{read_back, no_float}

values_of-queries : (qs : List Query) → json_of_all (queries_view qs) ≡ items_of (map (λ q. json_of (query_view q)) qs)
values_of-queries [] = refl
values_of-queries (q ∷ qs) = ap (item (json_of (query_view q))) (values_of-queries qs)

pub all_made : (vs : List Value) (qs : List Query) (i : ℕ) → length qs ≤ i → map view vs ≡ map (λ q. json_of (query_view q)) (take i qs) → items_view vs ≡ json_of_all (queries_view qs)
all_made vs qs i l e = ap items_of (e ∙ ap (map (λ q. json_of (query_view q))) (take_all i qs l)) ∙ sym (values_of-queries qs)

pub value_reads_back : (r : Result Value AllocError) (t : Tree) → IfOk r (λ v. view v ≡ json_of t) → fits_tree t ≡ true → IfOk r (λ v. tree_of (view v) ≡ Some t)
value_reads_back (Ok v) t e fits = ap tree_of e ∙ read_back t fits
value_reads_back (Err f) t e fits = tt

pub text_is : (r : Result (String Global) AllocError) (d : Data) (t : Tree) → d ≡ json_of t
    → IfOk r (λ s. has_float d ≡ false → string_bytes s ≡ compact_text d) → IfOk r (λ s. string_bytes s ≡ compact_text (json_of t))
text_is (Ok s) d t e h = h (ap has_float e ∙ no_float t) ∙ ap compact_text e
text_is (Err f) d t e h = tt

pub text_reads_back : (r : Result (String Global) AllocError) (d : Data) (t : Tree) → d ≡ json_of t
    → IfOk r (λ s. depth d ≤ max_depth → read (string_bytes s) ≡ Some d) → fits_tree t ≡ true → depth (json_of t) ≤ max_depth
    → IfOk r (λ s. option_and_then tree_of (read (string_bytes s)) ≡ Some t)
text_reads_back (Ok s) d t e h fits flat = ap (option_and_then tree_of) (h (subst (λ x. depth x ≤ max_depth) (sym e) flat)) ∙ ap tree_of e ∙ read_back t fits
text_reads_back (Err f) d t e h fits flat = tt
