-- Which shape a value has: exactly the members of one row, each in its range.
use Rattle.std.specs.Prelude.{ℕ, ◌&&◌, nat_le, List, [], ◌∷◌, Option, Some, None, is_some, codes, if◌then◌else◌, option_map}
use Rattle.std.specs.Option.{option_and_then}
use Rattle.serde_json.specs.Data.{Data}
use Rattle.serde_json.specs.Find.{get, as_object}
use Rattle.sk_base.specs.Finds.{default_options}
use Rattle.sk_base.specs.Records.{most_bytes}
use Rattle.sk_json.specs.Values.{has, has_only, text_at, whole_number, between, optional_text, optional_number, two_texts, bytes_in}
use Rattle.sk_record.specs.Shapes.{Given, Counted, Flight, opening, turning, closing, dropping, Shape, schema, add, replace, replace_by, delete, delete_by, seek, show, facets, flight}
use Rattle.sk_record.specs.SchemaFields.{schema_row}
use Rattle.sk_record.specs.Options.{query_at, join_at, find_row, tree_row}

-- A values object: any object whose strings are not too long in all.
abbrev pub values_object : Data → Option Data
values_object d = if is_some (as_object d) && nat_le (bytes_in d) most_bytes then Some d else None

-- The values object at a member, and the payload, which is empty where nothing is said.
abbrev pub given_at : List ℕ → Data → Option Given
given_at name d =
    option_and_then (λ values. option_map (λ payload. record { values = values; payload = payload }) (optional_text (codes "data") d))
    (option_and_then values_object (get name d))

-- The id at a member: 1 to 4,294,967,295.
abbrev pub id_member : List ℕ → Data → Option ℕ
id_member name d = option_and_then (between 1 4294967295) (option_and_then whole_number (get name d))

-- The name of a field and a text, at a member.
abbrev pub pair_at : List ℕ → Data → Option (List ℕ × List ℕ)
pair_at name d = option_and_then two_texts (get name d)

-- A new record.
abbrev pub add_row : Data → Option Shape
add_row d = if has_only (codes "add" ∷ codes "data" ∷ []) d then option_map add (given_at (codes "add") d) else None

-- A record in the place of an id.
abbrev pub replace_row : Data → Option Shape
replace_row d =
    if has_only (codes "replace" ∷ codes "with" ∷ codes "data" ∷ []) d then
    option_and_then (λ id. option_map (replace id) (given_at (codes "with") d)) (id_member (codes "replace") d)
    else None

-- A record in the place of those with a term.
abbrev pub replace_by_row : Data → Option Shape
replace_by_row d =
    if has_only (codes "replace_by" ∷ codes "with" ∷ codes "data" ∷ []) d then
    option_and_then (λ pair. option_map (replace_by pair) (given_at (codes "with") d)) (pair_at (codes "replace_by") d)
    else None

-- The end of an id.
abbrev pub delete_row : Data → Option Shape
delete_row d = if has_only (codes "delete" ∷ []) d then option_map delete (id_member (codes "delete") d) else None

-- The end of those with a term.
abbrev pub delete_by_row : Data → Option Shape
delete_by_row d = if has_only (codes "delete_by" ∷ []) d then option_map delete_by (pair_at (codes "delete_by") d) else None

-- A text whose query is shown.
abbrev pub show_row : Data → Option Shape
show_row d =
    if has_only (codes "show" ∷ codes "op" ∷ []) d then
    option_and_then (λ text. option_map (show text) (join_at d)) (query_at (codes "show") d)
    else None

-- How many values are told at the most: as many as a find gives hits where nothing is said, and up to 100,000.
abbrev pub told_at : Data → Option ℕ
told_at d = option_and_then (between 0 100000) (optional_number (codes "size") default_options.size d)

-- A text, and the field whose values are counted.
abbrev pub facets_row : Data → Option Counted
facets_row d =
    if has_only (codes "facets" ∷ codes "op" ∷ codes "by" ∷ codes "size" ∷ []) d then
    option_and_then (λ text.
    option_and_then (λ join.
    option_and_then (λ field.
    option_map (λ size. record { text = text; join = join; field = field; size = size })
    (told_at d)) (text_at (codes "by") d)) (join_at d)) (query_at (codes "facets") d)
    else None

-- The number of a search, any of 64 bits.
abbrev pub number_at : List ℕ → Data → Option ℕ
number_at name d = option_and_then whole_number (get name d)

-- How many turns a search is given: 1 to 100,000, and 1 where nothing is said.
abbrev pub times_at : Data → Option ℕ
times_at d = option_and_then (between 1 100000) (optional_number (codes "times") 1 d)

-- A search that is opened: a find by text, with the options that it has.
abbrev pub open_row : Data → Option Flight
open_row d = option_map opening (find_row (codes "open") d)

-- Turns of a search.
abbrev pub turn_row : Data → Option Flight
turn_row d =
    if has_only (codes "turn" ∷ codes "times" ∷ []) d then
    option_and_then (λ number. option_map (turning number) (times_at d)) (number_at (codes "turn") d)
    else None

-- The report of a search, which ends it.
abbrev pub close_row : Data → Option Flight
close_row d = if has_only (codes "close" ∷ []) d then option_map closing (number_at (codes "close") d) else None

-- The end of a search.
abbrev pub drop_row : Data → Option Flight
drop_row d = if has_only (codes "drop" ∷ []) d then option_map dropping (number_at (codes "drop") d) else None

-- The rows other than a schema, each known by its first member.
abbrev pub later_shape : Data → Option Shape
later_shape d =
    if has (codes "add") d then add_row d
    else (if has (codes "replace") d then replace_row d
    else (if has (codes "replace_by") d then replace_by_row d
    else (if has (codes "delete") d then delete_row d
    else (if has (codes "delete_by") d then delete_by_row d
    else (if has (codes "find") d then option_map seek (find_row (codes "find") d)
    else (if has (codes "tree") d then option_map seek (tree_row d)
    else (if has (codes "show") d then show_row d
    else (if has (codes "facets") d then option_map facets (facets_row d)
    else (if has (codes "open") d then option_map flight (open_row d)
    else (if has (codes "turn") d then option_map flight (turn_row d)
    else (if has (codes "close") d then option_map flight (close_row d)
    else (if has (codes "drop") d then option_map flight (drop_row d)
    else None))))))))))))

-- The shape of a value, and none where it fits no row.
abbrev pub row_shape : Data → Option Shape
row_shape d = if has (codes "schema") d then option_map (λ p. schema p.0 p.1) (schema_row d) else later_shape d
