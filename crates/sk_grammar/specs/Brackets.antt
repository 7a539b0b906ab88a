-- The brackets of a list of tokens as a tree.
use Rattle.std.specs.Prelude.{ℕ, List, [], ◌∷◌, Option}
use Rattle.sk_grammar.specs.declared.token.Kind.{Kind}

mutual
  -- A token that is no bracket, or a bracket with its field and what stands inside.
  pub data Nest : Type 0 where
    single : Kind → Nest
    bracket : Option ℕ → Nests → Nest

  -- Several, in order.
  pub data Nests : Type 0 where
    no_nests : Nests
    nest : Nest → Nests → Nests

-- What stands behind a place: inside the innermost bracket that is open there, and then what stands behind the end of each, from the inside out.
pub record Levels : Type 0 where
  pub here : Nests
  pub outside : List Nests

-- A bracket before these: what stands inside is what was here, and what stands behind its end is here now.
abbrev pub opened : Option ℕ → Nests → List Nests → Levels
opened field here [] = record { here = nest (bracket field here) no_nests; outside = [] }
opened field here (next ∷ more) = record { here = nest (bracket field here) next; outside = more }

-- A token before these.
abbrev pub with_token : Kind → Levels → Levels
with_token (Kind.Open field) behind = opened field behind.here behind.outside
with_token Kind.Close behind = record { here = no_nests; outside = behind.here ∷ behind.outside }
with_token k behind = record { here = nest (single k) behind.here; outside = behind.outside }

-- The brackets of these tokens.
abbrev pub levels_of : List Kind → Levels
levels_of [] = record { here = no_nests; outside = [] }
levels_of (k ∷ ks) = with_token k (levels_of ks)
