-- The brackets that are open, token by token.
use Rattle.std.proofs.Common.{◌≡◌, ℕ, List, [], ◌∷◌, ◌++◌, map, reverse, Option, Some, None, refl, ap, ◌∙◌}
use Rattle.std.proofs.lemmas.List.{map-append, reverse-append}
use Rattle.sk_base.specs.declared.schema.Schema.{Schema}
use Rattle.sk_base.specs.declared.find.Join.{Join}
use Rattle.sk_grammar.specs.Brackets.{Nest, single, bracket, Nests, no_nests, nest, Levels, opened, with_token}
use Rattle.sk_grammar.specs.declared.token.Kind.{Kind}
use Rattle.sk_grammar.specs.Parts.{prefix_in, single_part, with_part, chained}
use Rattle.sk_grammar.specs.Meaning.{closed_part, nest_part, nest_parts}
use Rattle.sk_parser.specs.declared.stack.Level.{Level}
use Rattle.sk_parser.specs.Stack.{Inside, inside_with, finished, level_view, below_view, field_or}

-- A token or a bracket that was read is one part more.
pub one_nest : (schema : Schema) (join : Join) (top : Inside) (below : List Inside) (n : Nest) (here : Nests) (outside : List Nests)
    → finished schema join (inside_with top (nest_part schema join top.prefix n)) below here outside ≡ finished schema join top below (nest n here) outside
one_nest schema join top [] n here outside = refl
one_nest schema join top (level ∷ below) n here [] = refl
one_nest schema join top (level ∷ below) n here (next ∷ outside) = refl

-- A bracket that opens.
pub one_open : (schema : Schema) (join : Join) (top inner : Inside) (below : List Inside) (field : Option ℕ) (here : Nests) (outside : List Nests)
    → inner.prefix ≡ prefix_in schema top.prefix field → inner.made ≡ []
    → finished schema join inner (top ∷ below) here outside ≡ finished schema join top below (Levels.here (opened field here outside)) (Levels.outside (opened field here outside))
one_open schema join top inner below field here [] e f =
    (λ i. finished schema join (inside_with top (closed_part join (chained (f i) (nest_parts schema join (e i) here)))) below no_nests [])
    ∙ one_nest schema join top below (bracket field here) no_nests []
one_open schema join top inner below field here (next ∷ outside) e f =
    (λ i. finished schema join (inside_with top (closed_part join (chained (f i) (nest_parts schema join (e i) here)))) below next outside)
    ∙ one_nest schema join top below (bracket field here) next outside

-- A bracket that closes.
pub one_close : (schema : Schema) (join : Join) (top level : Inside) (below : List Inside) (here : Nests) (outside : List Nests)
    → finished schema join (inside_with level (closed_part join top.made)) below here outside ≡ finished schema join top (level ∷ below) no_nests (here ∷ outside)
one_close schema join top level below here outside = refl

-- The innermost of the brackets around stands first.
pub below_last : (schema : Schema) (levels : List Level) (level : Level) → below_view schema (levels ++ level ∷ []) ≡ level_view schema level ∷ below_view schema levels
below_last schema levels level =
    ap reverse (map-append (level_view schema) levels (level ∷ [])) ∙ reverse-append (map (level_view schema) levels) (level_view schema level ∷ [])

-- The prefix of the field of a bracket, or of those around it.
pub prefix_or : (schema : Schema) (field outer : Option ℕ) → prefix_in schema [] (field_or field outer) ≡ prefix_in schema (prefix_in schema [] outer) field
prefix_or schema None outer = refl
prefix_or schema (Some f) outer = refl

-- A token that is no bracket.
pub other_token : (k : Kind) (behind : Levels) → ((field : Option ℕ) → k ≡ Kind.Open field → ⊥) → (k ≡ Kind.Close → ⊥)
    → with_token k behind ≡ record { here = nest (single k) behind.here; outside = behind.outside }
other_token (Kind.Open field) behind f g = absurd (f field refl)
other_token Kind.Close behind f g = absurd (g refl)
other_token k behind f g = refl

-- A token that is no bracket is one part more.
pub put_moved : (schema : Schema) (join : Join) (top next : Inside) (below : List Inside) (k : Kind) (here : Nests) (outside : List Nests)
    → next.prefix ≡ top.prefix → next.made ≡ with_part top.made (single_part schema top.prefix k) → finished schema join next below here outside ≡ finished schema join top below (nest (single k) here) outside
put_moved schema join top next below k here outside e f =
    let moved : finished schema join next below here outside ≡ finished schema join (inside_with top (single_part schema top.prefix k)) below here outside =
    λ i. finished schema join (record { prefix = e i; made = f i }) below here outside in
    moved ∙ one_nest schema join top below (single k) here outside

-- A bracket that opens stands before those around it.
pub open_moved : (schema : Schema) (join : Join) (top inner : Inside) (below more : List Inside) (field : Option ℕ) (here : Nests) (outside : List Nests)
    → more ≡ top ∷ below → inner.prefix ≡ prefix_in schema top.prefix field → inner.made ≡ []
    → finished schema join inner more here outside ≡ finished schema join top below (Levels.here (opened field here outside)) (Levels.outside (opened field here outside))
open_moved schema join top inner below more field here outside m e f =
    ap (λ levels. finished schema join inner levels here outside) m ∙ one_open schema join top inner below field here outside e f
