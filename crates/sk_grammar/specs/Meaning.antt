-- The query of a text, by splitting.
use Rattle.std.specs.Prelude.{ℕ, not, Bool, true, false, List, [], ◌∷◌, map, reverse, filter, if◌then◌else◌, Option, Some, None, Result, Ok, Err}
use Rattle.sk_base.specs.declared.schema.Schema.{Schema}
use Rattle.sk_base.specs.declared.find.Join.{Join}
use Rattle.sk_query.specs.declared.form.Form.TheVariants as Form
use Rattle.sk_query.specs.Trees.{Tree}
use Rattle.sk_grammar.specs.declared.fault.FaultKind.{FaultKind}
use Rattle.sk_grammar.specs.declared.token.Kind.{Kind}
use Rattle.sk_grammar.specs.declared.token.Token.{Token}
use Rattle.sk_grammar.specs.Cutting.{tokens_of}
use Rattle.sk_grammar.specs.Faults.{is_not, kinds_of, fault_in}
use Rattle.sk_grammar.specs.Brackets.{Nest, single, bracket, Nests, no_nests, nest, Levels, levels_of}
use Rattle.sk_grammar.specs.Parts.{Part, unit, empty, operator, prefix_in, single_part, chained}
use Rattle.sk_grammar.specs.Runs.{joined, excluding, all_of, run_tree}

-- AND, OR, XOR.
abbrev pub is_and : Kind → Bool
is_and Kind.And = true
is_and _ = false

abbrev pub is_or : Kind → Bool
is_or Kind.Or = true
is_or _ = false

abbrev pub is_xor : Kind → Bool
is_xor Kind.Xor = true
is_xor _ = false

-- The part is an operator that passes the test.
abbrev pub is_operator : (Kind → Bool) → Part → Bool
is_operator test (operator k) = test k
is_operator test _ = false

-- A part put before the first of these lists.
abbrev pub in_front : Part → List (List Part) → List (List Part)
in_front p [] = []
in_front p (ps ∷ more) = (p ∷ ps) ∷ more

-- What stands between the operators that pass the test.
abbrev pub split : (Kind → Bool) → List Part → List (List Part)
split test [] = [] ∷ []
split test (p ∷ ps) = if is_operator test p then [] ∷ split test ps else in_front p (split test ps)

-- A run: what stands between AND and NOT, and whether it stands behind NOT.
pub record Run : Type 0 where
  pub negative : Bool
  pub inside : List Part

-- A part put before the first of these runs.
abbrev pub in_run : Part → List Run → List Run
in_run p [] = []
in_run p (run ∷ more) = record { negative = run.negative; inside = p ∷ run.inside } ∷ more

-- The runs of these parts, the first being negative or not. Where AND or nothing stands right before them (`fresh`), NOT begins no run of its own:
-- so AND NOT is NOT, and NOT that stands first has no run before it.
abbrev pub runs : Bool → Bool → List Part → List Run
runs fresh negative [] = record { negative = negative; inside = [] } ∷ []
runs fresh negative (p ∷ ps) =
    if is_operator is_not p then (if fresh then runs false true ps else record { negative = negative; inside = [] } ∷ runs false true ps)
    else (if is_operator is_and p then record { negative = negative; inside = [] } ∷ runs true false ps
    else in_run p (runs false negative ps))

-- The runs of a part of XOR.
abbrev pub xor_runs : List Part → List Run
xor_runs ps = runs true false ps

abbrev pub is_positive : Run → Bool
is_positive run = not run.negative

-- The queries of the runs that pass.
abbrev pub run_trees : Join → (Run → Bool) → List Run → List Tree
run_trees join test rs = map (λ (run : Run). run_tree join run.inside) (filter test rs)

-- The query of runs: all that are positive, without the negative ones.
abbrev pub runs_tree : Join → List Run → Tree
runs_tree join rs = excluding (all_of (run_trees join is_positive rs)) (run_trees join Run.negative rs)

-- The query of what stands between two XOR.
abbrev pub and_tree : Join → List Part → Tree
and_tree join ps = runs_tree join (xor_runs ps)

-- The query of what stands between two OR.
abbrev pub xor_tree : Join → List Part → Tree
xor_tree join ps = joined Form.Xor (map (and_tree join) (split is_xor ps))

-- The query of parts.
abbrev pub parts_tree : Join → List Part → Tree
parts_tree join ps = joined Form.Or (map (xor_tree join) (split is_or ps))

-- The part that a bracket is, by the parts inside, the last of which stands first.
abbrev pub closed_part : Join → List Part → Part
closed_part join [] = empty
closed_part join (p ∷ ps) = unit (parts_tree join (reverse (p ∷ ps)))

abbrev mutual
  -- The part that a token or a bracket is, where the brackets around it give this prefix. What a bracket's own field says holds inside.
  pub nest_part : Schema → Join → List ℕ → Nest → Part
  nest_part schema join around (single k) = single_part schema around k
  nest_part schema join around (bracket field ns) = closed_part join (chained [] (nest_parts schema join (prefix_in schema around field) ns))

  pub nest_parts : Schema → Join → List ℕ → Nests → List Part
  nest_parts schema join around no_nests = []
  nest_parts schema join around (nest n ns) = nest_part schema join around n ∷ nest_parts schema join around ns

-- The query of tokens without a fault, by their kinds.
abbrev pub tree_in : Schema → Join → List Kind → Tree
tree_in schema join ks = parts_tree join (reverse (chained [] (nest_parts schema join [] (Levels.here (levels_of ks)))))

-- This query, or else the fault, with its byte, for which there is none.
abbrev pub unless_fault : Option (FaultKind × ℕ) → Tree → Result Tree (FaultKind × ℕ)
unless_fault None query = Ok query
unless_fault (Some fault) query = Err fault

-- The query of tokens, or else their first fault.
abbrev pub meant_in : Schema → Join → List Token → Result Tree (FaultKind × ℕ)
meant_in schema join tokens = unless_fault (fault_in schema tokens) (tree_in schema join (kinds_of tokens))

-- The query that a text means, or else its first fault: the one at the least byte, and there the first of the table.
abbrev pub query_meant : Schema → Join → List ℕ → Result Tree (FaultKind × ℕ)
query_meant schema join text = meant_in schema join (tokens_of schema text)
