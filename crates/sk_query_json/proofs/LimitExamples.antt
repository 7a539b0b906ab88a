-- Queries at their limits and one beyond, and whether they fit.
use Rattle.std.proofs.Common.{◌≡◌, ℕ, zero, suc, ◌+◌, Bool, true, false, List, [], ◌∷◌, map, is_some, codes, refl, ap, ◌∙◌, arith, ◌≤◌, ◌&&◌, ◌||◌, not, nat_le, length, bytes_eq}
use Rattle.std.specs.List.{list_any}
use Rattle.std.proofs.lemmas.Bool.Decides.{nat_tests}
use Rattle.serde_json.specs.Data.{Data, null, string, number, array, object, Items, no_items, item, no_members, member, unsigned}
use Rattle.sk_query.specs.declared.form.Form.{Form}
use Rattle.sk_query.specs.Trees.{unbounded, Tree, nothing, all, term, wildcard, parts, near, phrase, synonym, scale, range, no_trees, tree, trees_from}
use Rattle.sk_query.specs.Trees.{number as number_limit}
use Rattle.sk_query.specs.Fits.{fits_tree, are_given, are_different}
use Rattle.sk_query_json.specs.Reading.{tree_of}

-- so many times the same item, and more behind
abbrev times : ℕ → Data → Items → Items
times zero d more = more
times (suc n) d more = item d (times n d more)

-- an object of one member, whose value is these items
abbrev named : List ℕ → Items → Data
named name ds = object (member name (array ds) no_members)

-- one item
abbrev one : Data → Items
one d = item d no_items

abbrev a_string : Data
a_string = string (codes "a")

abbrev a_term : Data
a_term = object (member (codes "term") a_string no_members)

abbrev a_wildcard : Data
a_wildcard = object (member (codes "wildcard") (string (codes "b")) no_members)

abbrev an_all : Data
an_all = named (codes "all") no_items

abbrev a_nothing : Data
a_nothing = named (codes "nothing") no_items

abbrev a_range : Data
a_range = named (codes "range") (item (number (unsigned 0)) (item null (one null)))

-- a factor and a query
abbrev scaled_by : ℕ → Data → Data
scaled_by factor d = named (codes "scale") (item (number (unsigned factor)) (one d))

-- a synonym of two strings
abbrev two_names : Data
two_names = named (codes "synonym") (item a_string (one (string (codes "b"))))

-- near or phrase, with a window and so many strings
abbrev placed : List ℕ → ℕ → ℕ → Data
placed name window n = named name (item (number (unsigned window)) (times n a_string no_items))

-- a form with so many times the same part
abbrev parted : List ℕ → ℕ → Data → Data
parted name n d = named name (times n d no_items)

-- an or with two leaves
abbrev two_leaves : Data
two_leaves = named (codes "or") (item a_term (item an_all (item a_nothing (one a_wildcard))))

-- values with so many of something, and how many of it still fit
abbrev leaves : List ((ℕ → Data) × ℕ)
leaves =
    ((λ n. parted (codes "or") n a_term), 1024)
    ∷ ((λ n. parted (codes "or") n a_wildcard), 1024)
    ∷ ((λ n. parted (codes "or") n a_range), 1024)
    ∷ ((λ n. parted (codes "or") n (scaled_by 2 a_term)), 1024)
    ∷ ((λ n. parted (codes "or") n two_names), 512)
    ∷ ((λ n. parted (codes "and") n (placed (codes "near") 9 4)), 256)
    ∷ ((λ n. named (codes "max") (times n (placed (codes "phrase") 9 5) (one two_leaves))), 204)
    ∷ ((λ n. placed (codes "near") 1 n), 1024)
    ∷ ((λ n. placed (codes "phrase") 1 n), 1024)
    ∷ ((λ n. named (codes "xor") (item a_term (item (placed (codes "near") 1 n) (one an_all)))), 1023)
    ∷ ((λ n. named (codes "filter") (item two_names (item (placed (codes "phrase") 1 n) (one a_term)))), 1021)
    ∷ ((λ n. scaled_by 3 (named (codes "and_maybe") (item (parted (codes "or") n a_term) (one a_wildcard)))), 1023)
    ∷ []

pub at_most_1024_leaves : map (λ row. is_some (tree_of (row.0 row.1))) leaves ≡ map (λ row. true) leaves
at_most_1024_leaves = refl

pub one_leaf_more : map (λ row. is_some (tree_of (row.0 (row.1 + 1)))) leaves ≡ map (λ row. false) leaves
one_leaf_more = refl

-- parts without a leaf are no leaves
pub parts_without_leaves : map (λ d. is_some (tree_of (parted (codes "or") 3000 d))) (an_all ∷ a_nothing ∷ []) ≡ true ∷ true ∷ []
parts_without_leaves = refl

-- so many different texts
abbrev texts : ℕ → List (List ℕ)
texts zero = []
texts (suc n) = (suc n ∷ []) ∷ texts n

-- how many texts a synonym has, and whether it fits
abbrev synonyms : List (ℕ × Bool)
synonyms = (1, true) ∷ (1024, true) ∷ (1025, false) ∷ []

-- no two of them are equal, which is not computed for each pair
not_among : (n m : ℕ) → m ≤ n → list_any (λ other. bytes_eq (suc n ∷ []) other) (texts m) ≡ false
not_among n zero l = refl
not_among n (suc m) l = ap (λ b. b || list_any (λ other. bytes_eq (suc n ∷ []) other) (texts m)) (unlike n m l) ∙ not_among n m (omega arith)
  where
    unlike : (n m : ℕ) → suc m ≤ n → bytes_eq (suc n ∷ []) (suc m ∷ []) ≡ false
    unlike n m l = grind (arith, nat_tests)

different : (n : ℕ) → are_different (texts n) ≡ true
different zero = refl
different (suc n) = ap (λ b. not b && are_different (texts n)) (not_among n n (omega arith)) ∙ different n

fits : (n : ℕ) → fits_tree (synonym (texts n)) ≡ ((are_given (texts n) && true) && nat_le (length (texts n)) 1024 && nat_le 1 1000)
fits n = ap (λ b. (are_given (texts n) && b) && nat_le (length (texts n)) 1024 && nat_le 1 1000) (different n)

pub synonyms-hold : map (λ row. fits_tree (synonym (texts row.0))) synonyms ≡ map (λ row. row.1) synonyms
synonyms-hold = λ i. fits 1 i ∷ fits 1024 i ∷ fits 1025 i ∷ []

-- a query with so many queries above, ands and scales in turn
abbrev deep : ℕ → Bool → Tree
deep zero turn = all
deep (suc n) true = parts Form.And (tree nothing (tree (deep n false) no_trees))
deep (suc n) false = scale 1 (deep n true)

-- how many queries stand above the innermost one, and whether all fit
abbrev depths : List (ℕ × Bool)
depths = (0, true) ∷ (1, true) ∷ (998, true) ∷ (999, true) ∷ (1000, false) ∷ (1499, false) ∷ []

pub depths-hold : map (λ row. fits_tree (deep row.0 true)) depths ≡ map (λ row. row.1) depths
depths-hold = refl

-- trees that were made, whether or not a value stands for them
abbrev made : List (Tree × Bool)
made =
    (parts Form.Or no_trees, false)
    ∷ (term [], false)
    ∷ (near 0 (codes "a" ∷ []), false)
    ∷ (near 1 (codes "a" ∷ []), true)
    ∷ (phrase 4294967295 (codes "a" ∷ []), false)
    ∷ (phrase 1 [], false)
    ∷ (synonym (codes "a" ∷ codes "b" ∷ codes "a" ∷ []), false)
    ∷ (range 256 unbounded unbounded, false)
    ∷ (range 255 unbounded (number_limit 7), true)
    ∷ (scale 4294967295 all, false)
    ∷ (scale 4294967295 (scale 4294967295 all), false)
    ∷ (scale 0 (scale 65537 all), false)
    ∷ (parts Form.And (trees_from (all ∷ parts Form.Xor no_trees ∷ [])), false)
    ∷ (scale 65536 (wildcard []), false)
    ∷ []

pub made-hold : map (λ row. fits_tree row.0) made ≡ map (λ row. row.1) made
made-hold = refl
