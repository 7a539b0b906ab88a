-- The query of a run: its units, by their marks.
use Rattle.std.specs.Prelude.{ℕ, ◌==◌, ◌&&◌, not, Bool, true, false, List, [], ◌∷◌, ◌++◌, map, filter, if◌then◌else◌, Option, Some, None, is_some, is_none}
use Rattle.sk_base.specs.declared.find.Join.{Join}
use Rattle.sk_query.specs.declared.form.Form.{Form}
use Rattle.sk_query.specs.Trees.{Tree, nothing, all, parts, no_trees, tree, trees_from}
use Rattle.sk_grammar.specs.declared.token.Kind.{Kind}
use Rattle.sk_grammar.specs.declared.token.Mark.{Mark}
use Rattle.sk_grammar.specs.Parts.{Part, chain, unit, chosen, empty, link, operator, chain_tree}

-- A unit of a run: its mark, its field where it is a filter or a range, and its query.
pub record Unit : Type 0 where
  pub mark : Mark
  pub field : Option ℕ
  pub query : Tree

-- The unit that a part is, behind this mark, if it is one.
abbrev pub unit_of : Mark → Part → List Unit
unit_of mark (chain ordered n s ts) = record { mark = mark; field = None; query = chain_tree ordered n s ts } ∷ []
unit_of mark (unit query) = record { mark = mark; field = None; query = query } ∷ []
unit_of mark (chosen f query) = record { mark = mark; field = Some f; query = query } ∷ []
unit_of mark empty = []
unit_of mark (link ordered n) = []
unit_of mark (operator k) = []

-- The mark that a token sets for what stands directly behind it.
abbrev pub mark_set : Kind → Mark
mark_set Kind.Plus = Mark.Loved
mark_set Kind.Minus = Mark.Hated
mark_set _ = Mark.Plain

-- The mark that a part sets for what stands directly behind it.
abbrev pub mark_behind : Part → Mark
mark_behind (operator k) = mark_set k
mark_behind _ = Mark.Plain

-- The units of a run, behind this mark.
abbrev pub units : Mark → List Part → List Unit
units mark [] = []
units mark (p ∷ ps) = unit_of mark p ++ units (mark_behind p) ps

abbrev pub hates : Mark → Bool
hates Mark.Hated = true
hates _ = false

abbrev pub loves : Mark → Bool
loves Mark.Loved = true
loves _ = false

-- A hated unit, of any kind.
abbrev pub is_hated : Unit → Bool
is_hated u = hates u.mark

-- A filter or a range that is not hated, whether or not it is loved.
abbrev pub is_filter : Unit → Bool
is_filter u = not (hates u.mark) && is_some u.field

-- A unit that is no filter, loved or plain.
abbrev pub is_wanted : Unit → Bool
is_wanted u = not (hates u.mark) && is_none u.field

abbrev pub is_loved : Unit → Bool
is_loved u = is_wanted u && loves u.mark

abbrev pub is_optional : Unit → Bool
is_optional u = is_wanted u && not (loves u.mark)

-- The queries of the units that pass.
abbrev pub queries_of : (Unit → Bool) → List Unit → List Tree
queries_of test us = map Unit.query (filter test us)

-- A node over several queries. A node that would have one part only is that part.
abbrev pub joined : Form → List Tree → Tree
joined form (t ∷ []) = t
joined form ts = parts form (trees_from ts)

-- A query with others taken away, if there are any.
abbrev pub excluding : Tree → List Tree → Tree
excluding base [] = base
excluding base (t ∷ ts) = parts Form.AndNot (tree base (trees_from (t ∷ ts)))

-- All of these, or all documents where there are none.
abbrev pub all_of : List Tree → Tree
all_of [] = all
all_of (t ∷ ts) = joined Form.And (t ∷ ts)

-- Some are loved, and others may match.
abbrev pub with_plain : Tree → List Tree → Tree
with_plain base [] = base
with_plain base (t ∷ ts) = parts Form.AndMaybe (tree base (tree (joined Form.Or (t ∷ ts)) no_trees))

-- What is loved, and what is plain, where a document need not have all.
abbrev pub loved_and_plain : List Tree → List Tree → Tree
loved_and_plain [] [] = all
loved_and_plain [] (t ∷ ts) = joined Form.Or (t ∷ ts)
loved_and_plain (t ∷ ts) plain = with_plain (joined Form.And (t ∷ ts)) plain

-- The units that are no filters and not hated, by how a run is joined.
abbrev pub base_of : Join → List Unit → Tree
base_of Join.Or us = loved_and_plain (queries_of is_loved us) (queries_of is_optional us)
base_of Join.And us = all_of (queries_of is_wanted us)

-- The filters of one field, in order.
pub record FilterGroup : Type 0 where
  pub field : ℕ
  pub queries : List Tree

-- A filter put to those of its field, or last where it is the first of that.
abbrev pub added : ℕ → Tree → List FilterGroup → List FilterGroup
added f t [] = record { field = f; queries = t ∷ [] } ∷ []
added f t (g ∷ gs) = if g.field == f then record { field = g.field; queries = g.queries ++ t ∷ [] } ∷ gs else g ∷ added f t gs

abbrev pub added_filter : Option ℕ → Tree → List FilterGroup → List FilterGroup
added_filter None t gs = gs
added_filter (Some f) t gs = added f t gs

-- The groups of filters, with those of these units put to them in order.
abbrev pub groups_after : List FilterGroup → List Unit → List FilterGroup
groups_after gs [] = gs
groups_after gs (u ∷ us) = groups_after (if is_filter u then added_filter u.field u.query gs else gs) us

-- What the filters of one field let through.
abbrev pub group_tree : FilterGroup → Tree
group_tree g = joined Form.Or g.queries

-- A query under filters, if there are any.
abbrev pub filtered : Tree → List FilterGroup → Tree
filtered base [] = base
filtered base (g ∷ gs) = parts Form.Filter (tree base (trees_from (map group_tree (g ∷ gs))))

-- The query of units.
abbrev pub units_tree : Join → List Unit → Tree
units_tree join [] = nothing
units_tree join (u ∷ us) =
    excluding (filtered (base_of join (u ∷ us)) (groups_after [] (u ∷ us))) (queries_of is_hated (u ∷ us))

-- The query of a run.
abbrev pub run_tree : Join → List Part → Tree
run_tree join ps = units_tree join (units Mark.Plain ps)
