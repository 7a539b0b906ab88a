-- What the parts, units, groups and runs of the code stand for.
use Rattle.std.specs.Prelude.{ℕ, ◌||◌, Bool, List, map, reverse, Option, Some, None, Vec}
use Rattle.std.specs.declared.alloc.Global.{Global}
use Rattle.sk_base.specs.declared.schema.FieldKind.{FieldKind}
use Rattle.sk_query.specs.Trees.{Tree, range, query_view}
use Rattle.sk_grammar.specs.declared.token.Kind.{Kind}
use Rattle.sk_grammar.specs.Parts.{chain, unit, chosen, empty, link, operator}
use Rattle.sk_grammar.specs.Bounds.{halves}
use Rattle.sk_grammar.specs.Parts.{Part as PartMeant, limit_in, slot_of}
use Rattle.sk_grammar.specs.Runs.{Unit as UnitMeant, FilterGroup as GroupMeant, added}
use Rattle.sk_grammar.specs.Faults.{is_not}
use Rattle.sk_grammar.specs.Meaning.{Run as RunMeant, is_and, is_or, is_xor, is_operator}
use Rattle.sk_parser.specs.declared.part.Part.{Part}
use Rattle.sk_parser.specs.declared.unit.Unit.{Unit}
use Rattle.sk_parser.specs.declared.group.Group.{Group}
use Rattle.sk_parser.specs.declared.split.Run.{Run}
use Rattle.sk_parser.specs.declared.split.Border.{Border}

-- A part.
abbrev pub part_view : Part → PartMeant
part_view (Part.Chain ordered n stem words) = chain ordered n stem words.items
part_view (Part.Unit query) = unit (query_view query)
part_view (Part.Chosen field query) = chosen field (query_view query)
part_view Part.Empty = empty
part_view (Part.Link ordered n) = link ordered n
part_view (Part.Operator kind) = operator kind

-- Parts, in order.
abbrev pub parts_view : List Part → List PartMeant
parts_view ps = map part_view ps

-- Parts, the last of which stands first.
abbrev pub parts_behind : List Part → List PartMeant
parts_behind ps = reverse (map part_view ps)

-- A unit.
abbrev pub unit_view : Unit → UnitMeant
unit_view u = record { mark = u.mark; field = u.field; query = query_view u.query }

-- The filters of one field.
abbrev pub group_view : Group → GroupMeant
group_view g = record { field = g.field; queries = map query_view (g.queries).items }

-- A run.
abbrev pub run_view : Run → RunMeant
run_view r = record { negative = r.negative; inside = parts_view (r.inside).items }

-- The operators at which parts are split.
abbrev pub border_test : Border → Kind → Bool
border_test Border.Or = is_or
border_test Border.Xor = is_xor

-- The part is an operator at which parts are split.
abbrev pub splits : PartMeant → Bool
splits p = is_operator is_or p || (is_operator is_xor p || (is_operator is_and p || is_operator is_not p))

-- The range that a text says of a field of this kind.
abbrev pub kind_range : FieldKind → List ℕ → Tree
kind_range kind text = range (slot_of kind) (limit_in kind (halves text).0) (limit_in kind (halves text).1)

-- What stands between operators.
abbrev pub segment_view : Vec Part Global → List PartMeant
segment_view v = parts_view v.items

abbrev pub segments_view : List (Vec Part Global) → List (List PartMeant)
segments_view vs = map segment_view vs

-- A run with these parts.
abbrev pub run_of : Bool → List PartMeant → RunMeant
run_of negative inside = record { negative = negative; inside = inside }

-- A filter that is still to be put to its group, if it is.
abbrev pub added_or : ℕ → Option Tree → List GroupMeant → List GroupMeant
added_or f None gs = gs
added_or f (Some t) gs = added f t gs
