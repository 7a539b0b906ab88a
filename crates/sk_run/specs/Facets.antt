-- The text of facets.
use Rattle.std.specs.Prelude.{ℕ, ◌==◌, List, [], ◌∷◌, ◌++◌, length, codes, decimal, if◌then◌else◌}
use Rattle.std.specs.Int.{w64, from_be_bytes}
use Rattle.std.specs.Str.{is_utf8}
use Rattle.json.specs.Print.{quoted}
use Rattle.sk_base.specs.declared.facets.Facet.{Facet}
use Rattle.sk_base.specs.declared.facets.Facets.{Facets}
use Rattle.sk_base.specs.declared.facets.ValueKind.{ValueKind}

-- The number whose eight bytes the value is, the most significant first, and 0 where it has not eight bytes.
abbrev pub number_in : List ℕ → ℕ
number_in value = if length value == 8 then from_be_bytes w64 value else 0

-- The text whose bytes the value is, and the empty text where they are not UTF-8.
abbrev pub text_in : List ℕ → List ℕ
text_in value = if is_utf8 value then value else []

-- A value of this kind in JSON: a number, or a string.
abbrev pub value_text : ValueKind → List ℕ → List ℕ
value_text ValueKind.Number value = decimal (number_in value)
value_text ValueKind.Word value = quoted (text_in value)

-- `facets` with the number of matches, of different values, of matches without a value, and the steps.
abbrev pub facets_line : Facets → List ℕ
facets_line facets =
    codes "facets matches=" ++ (decimal facets.matches ++ (codes " distinct=" ++ (decimal facets.distinct ++ (codes " without=" ++ (decimal facets.without ++ (codes " steps=" ++ (decimal facets.steps ++ codes "\n")))))))

-- `facet` with the number of matches that have the value, and the value.
abbrev pub facet_line : ValueKind → Facet → List ℕ
facet_line kind facet = codes "facet count=" ++ (decimal facet.count ++ (codes " value=" ++ (value_text kind facet.value ++ codes "\n")))

-- The lines of the values, in their order.
abbrev pub facet_lines : ValueKind → List Facet → List ℕ
facet_lines kind [] = []
facet_lines kind (facet ∷ facets) = facet_line kind facet ++ facet_lines kind facets

-- The line of facets, and the lines of the values that are told.
abbrev pub facets_text : ValueKind → Facets → List ℕ
facets_text kind facets = facets_line facets ++ facet_lines kind facets.values
