-- The JSON value of a tree.
use Rattle.std.specs.Prelude.{ℕ, List, map, codes}
use Rattle.serde_json.specs.Data.{Data, null, number, string, array, object, Items, no_items, item, no_members, member, unsigned}
use Rattle.serde_json.specs.View.{items_of}
use Rattle.sk_query.specs.Trees.{Limit, unbounded, Tree, nothing, all, term, wildcard, parts, near, phrase, synonym, scale, range, Trees, no_trees, tree}
use Rattle.sk_query.specs.Trees.{number as number_limit, bytes as bytes_limit}
use Rattle.sk_query.specs.Trees.{name_of}

-- An object with one member.
abbrev pub named : List ℕ → Data → Data
named name d = object (member name d no_members)

-- The strings, in order.
abbrev pub strings_of : List (List ℕ) → Items
strings_of texts = items_of (map string texts)

-- A window, and behind it the strings.
abbrev pub windowed : ℕ → List (List ℕ) → Items
windowed w texts = item (number (unsigned w)) (strings_of texts)

-- An end of a range: null where it is open, a number, or a string.
abbrev pub json_of_limit : Limit → Data
json_of_limit unbounded = null
json_of_limit (number_limit n) = number (unsigned n)
json_of_limit (bytes_limit s) = string s

abbrev mutual
  -- The value of a tree: an object with one member, by its form.
  pub json_of : Tree → Data
  json_of nothing = named (codes "nothing") (array no_items)
  json_of all = named (codes "all") (array no_items)
  json_of (term text) = named (codes "term") (string text)
  json_of (wildcard prefix) = named (codes "wildcard") (string prefix)
  json_of (parts form ts) = named (name_of form) (array (json_of_all ts))
  json_of (near w texts) = named (codes "near") (array (windowed w texts))
  json_of (phrase w texts) = named (codes "phrase") (array (windowed w texts))
  json_of (synonym texts) = named (codes "synonym") (array (strings_of texts))
  json_of (scale f t) = named (codes "scale") (array (item (number (unsigned f)) (item (json_of t) no_items)))
  json_of (range slot lo hi) = named (codes "range") (array (item (number (unsigned slot)) (item (json_of_limit lo) (item (json_of_limit hi) no_items))))

  -- The values of trees, in order.
  pub json_of_all : Trees → Items
  json_of_all no_trees = no_items
  json_of_all (tree t ts) = item (json_of t) (json_of_all ts)
