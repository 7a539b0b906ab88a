-- The brackets that are open, and what they make of the tokens that follow.
use Rattle.std.specs.Prelude.{ℕ, List, [], ◌∷◌, map, reverse, Option, Some, None}
use Rattle.sk_base.specs.declared.schema.Schema.{Schema}
use Rattle.sk_base.specs.declared.find.Join.{Join}
use Rattle.sk_grammar.specs.Brackets.{Nests, no_nests, Levels}
use Rattle.sk_grammar.specs.Parts.{Part, prefix_in, with_part, chained}
use Rattle.sk_grammar.specs.Meaning.{closed_part, nest_parts}
use Rattle.sk_parser.specs.declared.stack.Level.{Level}
use Rattle.sk_parser.specs.declared.stack.Stack.{Stack}
use Rattle.sk_parser.specs.Views.{parts_behind}

-- What stands in a bracket so far: the prefix that holds there, and the parts, the last of which stands first.
pub record Inside : Type 0 where
  pub prefix : List ℕ
  pub made : List Part

-- One part more.
abbrev pub inside_with : Inside → Part → Inside
inside_with level p = record { prefix = level.prefix; made = with_part level.made p }

-- The parts with what follows in the same bracket.
abbrev pub filled : Schema → Join → Inside → Nests → List Part
filled schema join level here = chained level.made (nest_parts schema join level.prefix here)

-- The parts outside all brackets, where these brackets are open, the innermost and those around it, and these tokens follow.
abbrev pub finished : Schema → Join → Inside → List Inside → Nests → List Nests → List Part
finished schema join top [] here outside = filled schema join top here
finished schema join top (level ∷ below) here [] =
    finished schema join (inside_with level (closed_part join (filled schema join top here))) below no_nests []
finished schema join top (level ∷ below) here (next ∷ outside) =
    finished schema join (inside_with level (closed_part join (filled schema join top here))) below next outside

-- A bracket of the code.
abbrev pub level_view : Schema → Level → Inside
level_view schema level = record { prefix = prefix_in schema [] level.field; made = parts_behind (level.parts).items }

-- The brackets around the innermost, that one first.
abbrev pub below_view : Schema → List Level → List Inside
below_view schema levels = reverse (map (level_view schema) levels)

-- The parts outside all brackets, where these tokens follow.
abbrev pub ends_as : Schema → Join → Stack → Levels → List Part
ends_as schema join stack behind = finished schema join (level_view schema stack.top) (below_view schema (stack.below).items) behind.here behind.outside

-- The field whose prefix holds in a bracket.
abbrev pub field_or : Option ℕ → Option ℕ → Option ℕ
field_or None outer = outer
field_or (Some f) outer = Some f
