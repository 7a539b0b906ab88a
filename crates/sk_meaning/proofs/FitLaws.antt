-- The query of a text fits.
use Rattle.std.proofs.Common.{◌≡◌, ◌≤◌, ℕ, true, ◌&&◌, nat_le, List, [], Option, Some, None, Ok, refl, sym, ap, ◌∙◌, arith}
use Rattle.std.proofs.lemmas.Bool.Decides.{nat_tests}
use Rattle.std.specs.List.{list_all}
use Rattle.std.proofs.lemmas.Bool.{and_from}
use Rattle.sk_base.proofs.Tests.{first_so}
use Rattle.sk_base.specs.declared.schema.Schema.{Schema}
use Rattle.sk_base.specs.declared.find.Join.{Join}
use Rattle.sk_base.specs.Fields.{IsSchema, is_field, are_apart}
use Rattle.sk_query.specs.Trees.{Tree}
use Rattle.sk_query.specs.Fits.{leaves_of, depth_of, is_sound, fits_tree}
use Rattle.sk_grammar.specs.declared.fault.FaultKind.{FaultKind}
use Rattle.sk_grammar.specs.declared.token.Token.{Token}
use Rattle.sk_grammar.specs.Cutting.{tokens_of}
use Rattle.sk_grammar.specs.Faults.{fault_in, kinds_of}
use Rattle.sk_grammar.specs.Meaning.{tree_in, unless_fault, query_meant}
use Rattle.sk_meaning.proofs.TokenLemmas.{tokens_filled, AreFaultless, faultless_in}
use Rattle.sk_meaning.proofs.FitLemmas.{Fits}
use Rattle.sk_meaning.proofs.NestLemmas.{are_good, tree_in_fits, tree_in_leaves}

-- A tree with few leaves.
few_fit : (t : Tree) → Fits 809 t → leaves_of t ≤ 1024 → fits_tree t ≡ true
few_fit t f few =
    let deep = f.deep in
    and_from (is_sound 1 t && nat_le (leaves_of t) 1024) (nat_le (depth_of t) 1000) (and_from (is_sound 1 t) (nat_le (leaves_of t) 1024) (f.sound few) (grind (arith, nat_tests))) (grind (arith, nat_tests))

tree_fits : (schema : Schema) (join : Join) (text : List ℕ) → list_all is_field schema.fields ≡ true → fault_in schema (tokens_of schema text) ≡ None
    → fits_tree (tree_in schema join (kinds_of (tokens_of schema text))) ≡ true
tree_fits schema join text sound none =
    let faultless : AreFaultless [] (kinds_of (tokens_of schema text)) = faultless_in schema (tokens_of schema text) none in
    let few = faultless.few (omega arith) in
    let leaves = tree_in_leaves schema join (kinds_of (tokens_of schema text)) in
    few_fit (tree_in schema join (kinds_of (tokens_of schema text)))
    (tree_in_fits schema join (kinds_of (tokens_of schema text)) sound (are_good schema (kinds_of (tokens_of schema text)) (tokens_filled schema text sound) faultless.links) faultless.shallow)
    (omega (arith, few, leaves))

unless_fits : (o : Option (FaultKind × ℕ)) (query t : Tree) → (o ≡ None → fits_tree query ≡ true) → unless_fault o query ≡ Ok t → fits_tree t ≡ true
unless_fits None query t f e = let same : t ≡ query = cc in ap fits_tree same ∙ f refl
unless_fits (Some fault) query t f e = absurd (cc)

-- The query that a text means.
pub meant_fits : (schema : Schema) (join : Join) (text : List ℕ) (t : Tree) → IsSchema schema → query_meant schema join text ≡ Ok t → fits_tree t ≡ true
meant_fits schema join text t is e =
    unless_fits (fault_in schema (tokens_of schema text)) (tree_in schema join (kinds_of (tokens_of schema text))) t
    (tree_fits schema join text (first_so (list_all is_field schema.fields) (are_apart schema.fields) is.sound)) e

-- So does the one that is made of a text's tokens, which have no fault.
pub made_fits : (schema : Schema) (join : Join) (text : List ℕ) (found tokens : List Token) (t : Tree) → IsSchema schema → found ≡ tokens_of schema text
    → tokens ≡ found → fault_in schema tokens ≡ None → t ≡ tree_in schema join (kinds_of tokens) → fits_tree t ≡ true
made_fits schema join text found tokens t is cut as_found none made =
    let all : tokens ≡ tokens_of schema text = as_found ∙ cut in
    let faultless : fault_in schema (tokens_of schema text) ≡ None = ap (fault_in schema) (sym all) ∙ none in
    ap fits_tree (made ∙ ap (λ ts. tree_in schema join (kinds_of ts)) all)
    ∙ tree_fits schema join text (first_so (list_all is_field schema.fields) (are_apart schema.fields) is.sound) faultless
