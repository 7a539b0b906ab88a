-- The tree of a JSON value.
use Rattle.std.specs.Prelude.{ℕ, Bool, List, Option, Some, None, bytes_eq, codes, if◌then◌else◌, option_map}
use Rattle.std.specs.Option.{option_and_then}
use Rattle.serde_json.specs.Data.{Data, null, boolean, number, string, array, object, Items, no_items, item, Members, no_members, member}
use Rattle.serde_json.specs.Find.{as_u64}
use Rattle.sk_json.specs.Values.{whole_number, texts_of}
use Rattle.sk_query.specs.declared.form.Form.{Form}
use Rattle.sk_query.specs.Trees.{Limit, unbounded, Tree, nothing, all, term, wildcard, parts, near, phrase, synonym, scale, range, Trees, no_trees, tree}
use Rattle.sk_query.specs.Trees.{number as number_limit, bytes as bytes_limit}
use Rattle.sk_query.specs.Fits.{is_window, is_factor, is_slot, fits_tree}

-- The number that a value is, where it passes the test.
abbrev pub number_if : (ℕ → Bool) → Data → Option ℕ
number_if test d = option_and_then (λ n. if test n then Some n else None) (whole_number d)

-- A window and strings.
abbrev pub window_and_texts : Items → Option (ℕ × List (List ℕ))
window_and_texts no_items = None
window_and_texts (item w ds) = option_and_then (λ window. option_map (λ texts. (window, texts)) (texts_of ds)) (number_if is_window w)

-- An end of a range: null, a number of 64 bits, or a string.
abbrev pub limit_of_value : Data → Option Limit
limit_of_value null = Some unbounded
limit_of_value (boolean b) = None
limit_of_value (number n) = option_map number_limit (as_u64 n)
limit_of_value (string s) = Some (bytes_limit s)
limit_of_value (array ds) = None
limit_of_value (object ms) = None

-- A slot and two ends.
abbrev pub range_of : Items → Option Tree
range_of (item slot (item lo (item hi no_items))) =
    option_and_then (λ s. option_and_then (λ from. option_map (range s from) (limit_of_value hi)) (limit_of_value lo)) (number_if is_slot slot)
range_of _ = None

-- The forms that a string makes.
abbrev pub string_named : List ℕ → List ℕ → Option Tree
string_named name text =
    if bytes_eq name (codes "term") then Some (term text)
    else (if bytes_eq name (codes "wildcard") then Some (wildcard text)
    else None)

-- The forms that the empty array makes.
abbrev pub empty_named : List ℕ → Option Tree
empty_named name =
    if bytes_eq name (codes "nothing") then Some nothing
    else (if bytes_eq name (codes "all") then Some all
    else None)

-- The forms that an array of numbers, strings and ends makes.
abbrev pub filled_named : List ℕ → Items → Option Tree
filled_named name ds =
    if bytes_eq name (codes "near") then option_map (λ p. near p.0 p.1) (window_and_texts ds)
    else (if bytes_eq name (codes "phrase") then option_map (λ p. phrase p.0 p.1) (window_and_texts ds)
    else (if bytes_eq name (codes "synonym") then option_map synonym (texts_of ds)
    else (if bytes_eq name (codes "range") then range_of ds
    else None)))

-- The forms whose value has no query inside.
abbrev pub leaf_named : List ℕ → Data → Option Tree
leaf_named name (string s) = string_named name s
leaf_named name (array no_items) = empty_named name
leaf_named name (array (item d ds)) = filled_named name (item d ds)
leaf_named name null = None
leaf_named name (boolean b) = None
leaf_named name (number n) = None
leaf_named name (object ms) = None

-- The form of several queries, by its name.
abbrev pub parts_named : List ℕ → Option Form
parts_named name =
    if bytes_eq name (codes "and") then Some Form.And
    else (if bytes_eq name (codes "or") then Some Form.Or
    else (if bytes_eq name (codes "xor") then Some Form.Xor
    else (if bytes_eq name (codes "max") then Some Form.Max
    else (if bytes_eq name (codes "and_not") then Some Form.AndNot
    else (if bytes_eq name (codes "and_maybe") then Some Form.AndMaybe
    else (if bytes_eq name (codes "filter") then Some Form.Filter
    else None))))))

abbrev mutual
  -- The tree of an object with exactly one member, its windows, factors and slots being in their ranges, whether or not it fits.
  pub read_tree : Data → Option Tree
  read_tree null = None
  read_tree (boolean b) = None
  read_tree (number n) = None
  read_tree (string s) = None
  read_tree (array ds) = None
  read_tree (object ms) = read_member ms

  pub read_member : Members → Option Tree
  read_member no_members = None
  read_member (member name d no_members) = read_named (parts_named name) name d
  read_member (member name d (member other e ms)) = None

  -- The tree of a member, by its name: a form of several queries with an array of them, a factor and a query, or a form without a query inside.
  pub read_named : Option Form → List ℕ → Data → Option Tree
  read_named (Some form) name null = None
  read_named (Some form) name (boolean b) = None
  read_named (Some form) name (number n) = None
  read_named (Some form) name (string s) = None
  read_named (Some form) name (array ds) = option_map (parts form) (read_trees ds)
  read_named (Some form) name (object ms) = None
  read_named None name null = None
  read_named None name (boolean b) = None
  read_named None name (number n) = None
  read_named None name (string s) = leaf_named name (string s)
  read_named None name (array ds) = if bytes_eq name (codes "scale") then scaled ds else leaf_named name (array ds)
  read_named None name (object ms) = None

  -- A factor and a query.
  pub scaled : Items → Option Tree
  scaled no_items = None
  scaled (item f no_items) = None
  scaled (item f (item q no_items)) = option_and_then (λ factor. option_map (scale factor) (read_tree q)) (number_if is_factor f)
  scaled (item f (item q (item d ds))) = None

  -- The trees of items.
  pub read_trees : Items → Option Trees
  read_trees no_items = Some no_trees
  read_trees (item d ds) = option_and_then (λ t. option_map (tree t) (read_trees ds)) (read_tree d)

-- The tree, where it fits.
abbrev pub fitting : Tree → Option Tree
fitting t = if fits_tree t then Some t else None

-- The tree of a JSON value: an object with exactly one member of these forms, which fits; and none of any other value.
abbrev pub tree_of : Data → Option Tree
tree_of d = option_and_then fitting (read_tree d)
