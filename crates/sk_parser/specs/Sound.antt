-- What the code asks of tokens before it makes their query.
use Rattle.std.specs.Prelude.{◌≡◌, false, List, [], ◌∷◌}
use Rattle.sk_base.specs.declared.schema.Schema.{Schema}
use Rattle.sk_base.specs.declared.find.Join.{Join}
use Rattle.sk_grammar.specs.declared.token.Kind.{Kind}
use Rattle.sk_grammar.specs.declared.token.Token.{Token}
use Rattle.sk_grammar.specs.Brackets.{no_nests, Levels, levels_of}
use Rattle.sk_grammar.specs.Faults.{is_bad_range}
use Rattle.sk_grammar.specs.Meaning.{nest_parts}
use Rattle.sk_grammar.specs.Parts.{Part, chained}

-- No range has a bound that can't be read.
abbrev pub HaveSoundRanges : Schema → List Token → Type 0
HaveSoundRanges schema [] = Unit {0}
HaveSoundRanges schema (t ∷ ts) = (is_bad_range schema (Token.kind t) ≡ false) × HaveSoundRanges schema ts

-- The parts of tokens outside all brackets, the last of which stands first.
abbrev pub outside_of : Schema → Join → List Kind → List Part
outside_of schema join ks = chained [] (nest_parts schema join [] (Levels.here (levels_of ks)))

-- Nothing follows.
abbrev pub nothing_behind : Levels
nothing_behind = record { here = no_nests; outside = [] }
