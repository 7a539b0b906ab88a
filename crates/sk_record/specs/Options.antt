-- The options of a find.
use Rattle.std.specs.Prelude.{ℕ, ◌+◌, ◌||◌, nat_le, Bool, true, false, List, [], ◌∷◌, length, Option, Some, None, bytes_eq, codes, if◌then◌else◌, option_map}
use Rattle.std.specs.Option.{option_and_then}
use Rattle.serde_json.specs.Data.{Data}
use Rattle.serde_json.specs.Find.{get, as_str}
use Rattle.sk_base.specs.declared.find.Ask.{Ask}
use Rattle.sk_base.specs.declared.find.Join.{Join}
use Rattle.sk_base.specs.declared.find.Options.{Options}
use Rattle.sk_base.specs.declared.find.Scheme.{Scheme}
use Rattle.sk_base.specs.Finds.{default_options}
use Rattle.sk_base.specs.Records.{most_bytes}
use Rattle.sk_record.specs.declared.row.Sort.{Sort}
use Rattle.sk_json.specs.Values.{has, has_only, text_at, between, optional, optional_number, optional_flag}
use Rattle.sk_record.specs.Shapes.{Sorted, by_relevance, by_field, CollapsedOn, Wanted}

-- The query text at a member, which is not too long.
abbrev pub query_at : List ℕ → Data → Option (List ℕ)
query_at name d = option_and_then (λ text. if nat_le (length text) most_bytes then Some text else None) (text_at name d)

-- How the words of a text are joined, by name.
abbrev pub join_named : List ℕ → Option Join
join_named name =
    if bytes_eq name (codes "or") then Some Join.Or
    else (if bytes_eq name (codes "and") then Some Join.And
    else None)

-- How the words of a text are joined: by or where nothing is said.
abbrev pub join_at : Data → Option Join
join_at d = optional Join.Or (λ value. option_and_then join_named (as_str value)) (get (codes "op") d)

-- A scheme, by name.
abbrev pub scheme_named : List ℕ → Option Scheme
scheme_named name =
    if bytes_eq name (codes "bool") then Some Scheme.Bool
    else (if bytes_eq name (codes "coord") then Some Scheme.Coord
    else (if bytes_eq name (codes "nnn") then Some Scheme.Nnn
    else (if bytes_eq name (codes "bnn") then Some Scheme.Bnn
    else (if bytes_eq name (codes "snn") then Some Scheme.Snn
    else None))))

-- The scheme.
abbrev pub scheme_at : Data → Option Scheme
scheme_at d = optional default_options.scheme (λ value. option_and_then scheme_named (as_str value)) (get (codes "scheme") d)

-- The first rank and the size of the page, whose sum is at most 100,000.
abbrev pub page_at : Data → Option (ℕ × ℕ)
page_at d =
    option_and_then (λ first.
    option_and_then (λ size. if nat_le (first + size) 100000 then Some (first, size) else None)
    (optional_number (codes "size") default_options.size d)) (optional_number (codes "first") default_options.first d)

-- How many matches are counted at the least.
abbrev pub check_at : Data → Option ℕ
check_at d = option_and_then (between 0 4294967295) (optional_number (codes "check") default_options.check d)

-- The least weight of a match.
abbrev pub cutoff_at : Data → Option ℕ
cutoff_at d = optional_number (codes "cutoff") default_options.cutoff d

-- Whether ids fall, by name.
abbrev pub falling_named : List ℕ → Option Bool
falling_named name =
    if bytes_eq name (codes "rising") then Some false
    else (if bytes_eq name (codes "falling") then Some true
    else None)

-- Whether of equal matches those with greater ids come first: those with lower ids where nothing is said.
abbrev pub falling_at : Data → Option Bool
falling_at d = optional false (λ value. option_and_then falling_named (as_str value)) (get (codes "ids") d)

-- By relevance, with neither a field nor a direction.
abbrev pub relevance_at : Data → Option Sorted
relevance_at d = if has (codes "by") d || has (codes "reverse") d then None else Some by_relevance

-- By a field, which must be there, and in reverse where it is said.
abbrev pub by_field_at : Sort → Data → Option Sorted
by_field_at sort d =
    option_and_then (λ field. option_map (λ reverse. by_field sort field reverse) (optional_flag (codes "reverse") d)) (text_at (codes "by") d)

-- The order, by name.
abbrev pub sorted_named : Data → List ℕ → Option Sorted
sorted_named d name =
    if bytes_eq name (codes "relevance") then relevance_at d
    else (if bytes_eq name (codes "value") then by_field_at Sort.Value d
    else (if bytes_eq name (codes "value_relevance") then by_field_at Sort.ValueThenRelevance d
    else (if bytes_eq name (codes "relevance_value") then by_field_at Sort.RelevanceThenValue d
    else None)))

-- The order that a member gives: by relevance where there is none.
abbrev pub sorted_by : Data → Option Data → Option Sorted
sorted_by d None = relevance_at d
sorted_by d (Some value) = option_and_then (sorted_named d) (as_str value)

-- The order.
abbrev pub sorted_at : Data → Option Sorted
sorted_at d = sorted_by d (get (codes "order") d)

-- No collapsing, and then no number either.
abbrev pub not_collapsed : Data → Option (Option CollapsedOn)
not_collapsed d = if has (codes "max") d then None else Some None

-- Collapsing on this field: 1 to 100,000 are kept of each value, and 1 where nothing is said.
abbrev pub collapsed_on : Data → List ℕ → Option (Option CollapsedOn)
collapsed_on d field =
    option_map (λ max. Some (record { field = field; max = max })) (option_and_then (between 1 100000) (optional_number (codes "max") 1 d))

-- The collapsing that a member gives.
abbrev pub collapsed_by : Data → Option Data → Option (Option CollapsedOn)
collapsed_by d None = not_collapsed d
collapsed_by d (Some value) = option_and_then (collapsed_on d) (as_str value)

-- The collapsing.
abbrev pub collapsed_at : Data → Option (Option CollapsedOn)
collapsed_at d = collapsed_by d (get (codes "collapse") d)

-- The options that name no field, each as it is by default where nothing is said.
abbrev pub options_at : Data → Option Options
options_at d =
    option_and_then (λ scheme.
    option_and_then (λ page.
    option_and_then (λ check.
    option_map (λ cutoff. record { scheme = scheme; first = page.0; size = page.1; check = check; cutoff = cutoff })
    (cutoff_at d)) (check_at d)) (page_at d)) (scheme_at d)

-- A find of this query, with the options of the line.
abbrev pub wanted_at : Data → Ask Data → Option Wanted
wanted_at d ask =
    option_and_then (λ options.
    option_and_then (λ sorted.
    option_and_then (λ falling.
    option_map (λ collapsed. record { ask = ask; options = options; sorted = sorted; falling = falling; collapsed = collapsed })
    (collapsed_at d)) (falling_at d)) (sorted_at d)) (options_at d)

-- The members that the options are.
abbrev pub option_names : List (List ℕ)
option_names =
    codes "scheme" ∷ codes "first" ∷ codes "size" ∷ codes "check" ∷ codes "order" ∷ codes "by" ∷ codes "reverse" ∷ codes "collapse" ∷ codes "max" ∷ codes "cutoff" ∷ codes "ids" ∷ []

-- A find by the text at this member.
abbrev pub find_row : List ℕ → Data → Option Wanted
find_row name d =
    if has_only (name ∷ codes "op" ∷ option_names) d then
    option_and_then (λ text. option_and_then (λ join. wanted_at d (Ask.Text text join)) (join_at d)) (query_at name d)
    else None

-- A find by tree.
abbrev pub tree_row : Data → Option Wanted
tree_row d = if has_only (codes "tree" ∷ option_names) d then option_and_then (λ value. wanted_at d (Ask.Tree value)) (get (codes "tree") d) else None
