-- Trees and their JSON values, worked out by hand.
use Rattle.std.proofs.Common.{◌≡◌, ◌∷◌, [], List, refl, map, codes}
use Rattle.std.specs.Fmt.{digits}
use Rattle.serde_json.proofs.OnLiterals.{serde_json_on_literals}
use Rattle.serde_json.specs.Data.{Data, null, number, string, array, object, no_items, item, no_members, member, unsigned}
use Rattle.serde_json.specs.Written.{compact_text}
use Rattle.sk_query.specs.declared.form.Form.{Form}
use Rattle.sk_query.specs.Trees.{unbounded, bytes, Tree, nothing, all, term, wildcard, parts, near, phrase, synonym, scale, range, trees_from}
use Rattle.sk_query.specs.Trees.{number as number_limit}
use Rattle.sk_query_json.specs.Writing.{json_of}

-- `+red "fox den" -lang:fr`
abbrev loved_and_hated : Tree
loved_and_hated = parts Form.AndNot (trees_from ((parts Form.AndMaybe (trees_from (term (codes "red") ∷ phrase 2 (codes "fox" ∷ codes "den" ∷ []) ∷ []))) ∷ term (codes "Lfr") ∷ []))

-- {"and_not":[{"and_maybe":[{"term":"red"},{"phrase":[2,"fox","den"]}]},{"term":"Lfr"}]}
abbrev its_value : Data
its_value =
    object (member (codes "and_not") (array
    (item (object (member (codes "and_maybe") (array
    (item (object (member (codes "term") (string (codes "red")) no_members))
    (item (object (member (codes "phrase") (array (item (number (unsigned 2)) (item (string (codes "fox")) (item (string (codes "den")) no_items)))) no_members))
    no_items))) no_members))
    (item (object (member (codes "term") (string (codes "Lfr")) no_members))
    no_items))) no_members)

pub its_value-is : json_of loved_and_hated ≡ its_value
its_value-is = refl

-- a query of each form without a query inside
abbrev leaves : List (Tree × Data)
leaves =
    (nothing, (object (member (codes "nothing") (array no_items) no_members)))
    ∷ (all, (object (member (codes "all") (array no_items) no_members)))
    ∷ (term (codes "red"), (object (member (codes "term") (string (codes "red")) no_members)))
    ∷ (wildcard (codes "fo"), (object (member (codes "wildcard") (string (codes "fo")) no_members)))
    ∷ (near 5 (codes "a" ∷ codes "b" ∷ []), (object (member (codes "near") (array (item (number (unsigned 5)) (item (string (codes "a")) (item (string (codes "b")) no_items)))) no_members)))
    ∷ (phrase 2 (codes "b" ∷ codes "a" ∷ []), (object (member (codes "phrase") (array (item (number (unsigned 2)) (item (string (codes "b")) (item (string (codes "a")) no_items)))) no_members)))
    ∷ (synonym (codes "a" ∷ codes "b" ∷ []), (object (member (codes "synonym") (array (item (string (codes "a")) (item (string (codes "b")) no_items))) no_members)))
    ∷ []

pub leaves-hold : map (λ row. json_of row.0) leaves ≡ map (λ row. row.1) leaves
leaves-hold = refl

-- ranges: open ends are null, a number is a number, and bytes are a string, which may be empty
abbrev ranges : List (Tree × Data)
ranges =
    (range 0 unbounded unbounded, (object (member (codes "range") (array (item (number (unsigned 0)) (item null (item null no_items)))) no_members)))
    ∷ (range 3 (number_limit 7) unbounded, (object (member (codes "range") (array (item (number (unsigned 3)) (item (number (unsigned 7)) (item null no_items)))) no_members)))
    ∷ (range 3 unbounded (number_limit 18446744073709551615), (object (member (codes "range") (array (item (number (unsigned 3)) (item null (item (number (unsigned 18446744073709551615)) no_items)))) no_members)))
    ∷ (range 255 (bytes []) (bytes (codes "m")), (object (member (codes "range") (array (item (number (unsigned 255)) (item (string []) (item (string (codes "m")) no_items)))) no_members)))
    ∷ (range 1 (bytes (codes "7")) (number_limit 7), (object (member (codes "range") (array (item (number (unsigned 1)) (item (string (codes "7")) (item (number (unsigned 7)) no_items)))) no_members)))
    ∷ []

pub ranges-hold : map (λ row. json_of row.0) ranges ≡ map (λ row. row.1) ranges
ranges-hold = refl

-- queries with queries inside
abbrev nested : List (Tree × Data)
nested =
    (scale 3 (term (codes "a")), (object (member (codes "scale") (array (item (number (unsigned 3)) (item (object (member (codes "term") (string (codes "a")) no_members)) no_items))) no_members)))
    ∷ (parts Form.And (trees_from (all ∷ [])), (object (member (codes "and") (array (item (object (member (codes "all") (array no_items) no_members)) no_items)) no_members)))
    ∷ (parts Form.Or (trees_from (all ∷ nothing ∷ [])), (object (member (codes "or") (array (item (object (member (codes "all") (array no_items) no_members)) (item (object (member (codes "nothing") (array no_items) no_members)) no_items))) no_members)))
    ∷ (parts Form.Xor (trees_from (all ∷ [])), (object (member (codes "xor") (array (item (object (member (codes "all") (array no_items) no_members)) no_items)) no_members)))
    ∷ (parts Form.Max (trees_from (all ∷ [])), (object (member (codes "max") (array (item (object (member (codes "all") (array no_items) no_members)) no_items)) no_members)))
    ∷ (parts Form.Filter (trees_from (all ∷ [])), (object (member (codes "filter") (array (item (object (member (codes "all") (array no_items) no_members)) no_items)) no_members)))
    ∷ []

pub nested-hold : map (λ row. json_of row.0) nested ≡ map (λ row. row.1) nested
nested-hold = refl

-- its text
pub its_text : compact_text (json_of loved_and_hated) ≡ codes "{\"and_not\":[{\"and_maybe\":[{\"term\":\"red\"},{\"phrase\":[2,\"fox\",\"den\"]}]},{\"term\":\"Lfr\"}]}"
unfolding serde_json_on_literals digits
its_text = refl
