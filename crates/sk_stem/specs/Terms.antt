-- The term of a stem.
use Rattle.std.specs.Prelude.{ℕ, List, ◌∷◌}
use Rattle.sk_base.specs.Terms.{prefixed}
use Rattle.sk_stem.specs.Stems.{stem}

-- What the stem of a word, in a field with this prefix, is indexed under and asked for by: `Z` (90) stands before the prefix. No field's prefix begins so.
abbrev pub stem_term : List ℕ → List ℕ → List ℕ
stem_term prefix word = 90 ∷ prefixed prefix (stem word)
