-- JSON values, and the trees that they stand for, worked out by hand from the rules.
use Rattle.std.proofs.Common.{◌≡◌, ℤ, Float, ◌∷◌, [], List, refl, Option, Some, None, map, codes, true}
use Rattle.serde_json.specs.Data.{Data, null, boolean, number, string, array, object, no_items, item, no_members, member, unsigned, negative, float}
use Rattle.sk_query.specs.declared.form.Form.{Form}
use Rattle.sk_query.specs.Trees.{unbounded, bytes, Tree, nothing, all, term, wildcard, parts, near, phrase, synonym, scale, range, trees_from}
use Rattle.sk_query.specs.Trees.{number as number_limit}
use Rattle.sk_query_json.specs.Reading.{tree_of}

-- the empty array
abbrev of_empty : List (Data × Option Tree)
of_empty =
    ((object (member (codes "nothing") (array no_items) no_members)), Some nothing)
    ∷ ((object (member (codes "nothing") (array (item (number (unsigned 1)) no_items)) no_members)), None)
    ∷ ((object (member (codes "nothing") null no_members)), None)
    ∷ ((object (member (codes "nothing") (object no_members) no_members)), None)
    ∷ ((object (member (codes "nothing") (string []) no_members)), None)
    ∷ ((object (member (codes "all") (array no_items) no_members)), Some all)
    ∷ ((object (member (codes "all") (array (item (number (unsigned 1)) no_items)) no_members)), None)
    ∷ ((object (member (codes "all") (array (item (array no_items) no_items)) no_members)), None)
    ∷ ((object (member (codes "all") (boolean true) no_members)), None)
    ∷ []

pub of_empty-hold : map (λ row. tree_of row.0) of_empty ≡ map (λ row. row.1) of_empty
of_empty-hold = refl

-- a string
abbrev of_a_string : List (Data × Option Tree)
of_a_string =
    ((object (member (codes "term") (string (codes "red")) no_members)), Some (term (codes "red")))
    ∷ ((object (member (codes "term") (string (codes "Lde Fuchs")) no_members)), Some (term (codes "Lde Fuchs")))
    ∷ ((object (member (codes "term") (string (99 ∷ 97 ∷ 102 ∷ 195 ∷ 169 ∷ [])) no_members)), Some (term (99 ∷ 97 ∷ 102 ∷ 195 ∷ 169 ∷ [])))
    ∷ ((object (member (codes "term") (string []) no_members)), None)
    ∷ ((object (member (codes "term") (array (item (string (codes "red")) no_items)) no_members)), None)
    ∷ ((object (member (codes "term") (number (unsigned 7)) no_members)), None)
    ∷ ((object (member (codes "term") (string (codes "b")) no_members)), Some (term (codes "b")))
    ∷ ((object (member (codes "wildcard") (string (codes "fo")) no_members)), Some (wildcard (codes "fo")))
    ∷ ((object (member (codes "wildcard") (string []) no_members)), None)
    ∷ ((object (member (codes "wildcard") (array no_items) no_members)), None)
    ∷ []

pub of_a_string-hold : map (λ row. tree_of row.0) of_a_string ≡ map (λ row. row.1) of_a_string
of_a_string-hold = refl

-- queries
abbrev of_parts : List (Data × Option Tree)
of_parts =
    ((object (member (codes "and") (array (item (object (member (codes "all") (array no_items) no_members)) (item (object (member (codes "term") (string (codes "a")) no_members)) no_items))) no_members)), Some (parts Form.And (trees_from (all ∷ (term (codes "a")) ∷ []))))
    ∷ ((object (member (codes "and") (array (item (object (member (codes "term") (string (codes "a")) no_members)) no_items)) no_members)), Some (parts Form.And (trees_from ((term (codes "a")) ∷ []))))
    ∷ ((object (member (codes "and") (array no_items) no_members)), None)
    ∷ ((object (member (codes "and") (object (member (codes "term") (string (codes "a")) no_members)) no_members)), None)
    ∷ ((object (member (codes "and") (string (codes "a")) no_members)), None)
    ∷ ((object (member (codes "and") (array (item (object (member (codes "term") (string (codes "a")) no_members)) (item null no_items))) no_members)), None)
    ∷ ((object (member (codes "and") (array (item (object (member (codes "term") (string (codes "a")) no_members)) (item (object (member (codes "term") (string []) no_members)) no_items))) no_members)), None)
    ∷ ((object (member (codes "and") (array (item (array (item (object (member (codes "term") (string (codes "a")) no_members)) no_items)) no_items)) no_members)), None)
    ∷ ((object (member (codes "and") (array (item (object (member (codes "scale") (array (item (number (unsigned 300)) (item (object (member (codes "term") (string (codes "a")) no_members)) no_items))) no_members)) (item (object (member (codes "scale") (array (item (number (unsigned 300)) (item (object (member (codes "term") (string (codes "b")) no_members)) no_items))) no_members)) no_items))) no_members)), Some (parts Form.And (trees_from ((scale 300 (term (codes "a"))) ∷ (scale 300 (term (codes "b"))) ∷ []))))
    ∷ ((object (member (codes "and") (array (item (object (member (codes "term") (string (codes "a")) no_members)) no_items)) (member (codes "or") (array (item (object (member (codes "term") (string (codes "a")) no_members)) no_items)) no_members))), None)
    ∷ ((object (member (codes "or") (array (item (object (member (codes "term") (string (codes "a")) no_members)) (item (object (member (codes "nothing") (array no_items) no_members)) no_items))) no_members)), Some (parts Form.Or (trees_from ((term (codes "a")) ∷ nothing ∷ []))))
    ∷ ((object (member (codes "or") (array no_items) no_members)), None)
    ∷ ((object (member (codes "xor") (array (item (object (member (codes "term") (string (codes "a")) no_members)) (item (object (member (codes "term") (string (codes "a")) no_members)) (item (object (member (codes "term") (string (codes "b")) no_members)) no_items)))) no_members)), Some (parts Form.Xor (trees_from ((term (codes "a")) ∷ (term (codes "a")) ∷ (term (codes "b")) ∷ []))))
    ∷ ((object (member (codes "xor") (array no_items) no_members)), None)
    ∷ ((object (member (codes "max") (array (item (object (member (codes "term") (string (codes "b")) no_members)) (item (object (member (codes "term") (string (codes "a")) no_members)) no_items))) no_members)), Some (parts Form.Max (trees_from ((term (codes "b")) ∷ (term (codes "a")) ∷ []))))
    ∷ ((object (member (codes "max") (array no_items) no_members)), None)
    ∷ ((object (member (codes "and_not") (array (item (object (member (codes "term") (string (codes "a")) no_members)) (item (object (member (codes "term") (string (codes "b")) no_members)) no_items))) no_members)), Some (parts Form.AndNot (trees_from ((term (codes "a")) ∷ (term (codes "b")) ∷ []))))
    ∷ ((object (member (codes "and_not") (array no_items) no_members)), None)
    ∷ ((object (member (codes "and_maybe") (array (item (object (member (codes "term") (string (codes "a")) no_members)) (item (object (member (codes "term") (string (codes "b")) no_members)) no_items))) no_members)), Some (parts Form.AndMaybe (trees_from ((term (codes "a")) ∷ (term (codes "b")) ∷ []))))
    ∷ ((object (member (codes "and_maybe") (array no_items) no_members)), None)
    ∷ ((object (member (codes "filter") (array (item (object (member (codes "term") (string (codes "a")) no_members)) (item (object (member (codes "term") (string (codes "b")) no_members)) no_items))) no_members)), Some (parts Form.Filter (trees_from ((term (codes "a")) ∷ (term (codes "b")) ∷ []))))
    ∷ ((object (member (codes "filter") (array no_items) no_members)), None)
    ∷ []

pub of_parts-hold : map (λ row. tree_of row.0) of_parts ≡ map (λ row. row.1) of_parts
of_parts-hold = refl

-- a window and strings
abbrev of_near : List (Data × Option Tree)
of_near =
    ((object (member (codes "near") (array (item (number (unsigned 5)) (item (string (codes "a")) (item (string (codes "b")) no_items)))) no_members)), Some (near 5 ((codes "a") ∷ (codes "b") ∷ [])))
    ∷ ((object (member (codes "near") (array (item (number (unsigned 1)) (item (string (codes "a")) no_items))) no_members)), Some (near 1 ((codes "a") ∷ [])))
    ∷ ((object (member (codes "near") (array (item (number (unsigned 5)) (item (string (codes "a")) (item (string (codes "a")) no_items)))) no_members)), Some (near 5 ((codes "a") ∷ (codes "a") ∷ [])))
    ∷ ((object (member (codes "near") (array (item (number (unsigned 1048576)) (item (string (codes "a")) no_items))) no_members)), Some (near 1048576 ((codes "a") ∷ [])))
    ∷ ((object (member (codes "near") (array (item (number (unsigned 1048577)) (item (string (codes "a")) no_items))) no_members)), None)
    ∷ ((object (member (codes "near") (array (item (number (unsigned 0)) (item (string (codes "a")) no_items))) no_members)), None)
    ∷ ((object (member (codes "near") (array (item (number (unsigned 4294967297)) (item (string (codes "a")) no_items))) no_members)), None)
    ∷ ((object (member (codes "near") (array (item (string (codes "5")) (item (string (codes "a")) no_items))) no_members)), None)
    ∷ ((object (member (codes "near") (array (item (string (codes "a")) (item (string (codes "b")) no_items))) no_members)), None)
    ∷ ((object (member (codes "near") (array (item (number (unsigned 5)) no_items)) no_members)), None)
    ∷ ((object (member (codes "near") (array no_items) no_members)), None)
    ∷ ((object (member (codes "near") (array (item (number (unsigned 5)) (item (string []) no_items))) no_members)), None)
    ∷ ((object (member (codes "near") (array (item (number (unsigned 5)) (item (string (codes "a")) (item (string []) no_items)))) no_members)), None)
    ∷ ((object (member (codes "near") (array (item (number (unsigned 5)) (item (string (codes "a")) (item (number (unsigned 7)) no_items)))) no_members)), None)
    ∷ ((object (member (codes "near") (array (item (number (unsigned 5)) (item (object (member (codes "term") (string (codes "a")) no_members)) no_items))) no_members)), None)
    ∷ ((object (member (codes "phrase") (array (item (number (unsigned 2)) (item (string (codes "b")) (item (string (codes "a")) no_items)))) no_members)), Some (phrase 2 ((codes "b") ∷ (codes "a") ∷ [])))
    ∷ ((object (member (codes "phrase") (array (item (number (unsigned 1048576)) (item (string (codes "a")) no_items))) no_members)), Some (phrase 1048576 ((codes "a") ∷ [])))
    ∷ ((object (member (codes "phrase") (array (item (number (unsigned 1048577)) (item (string (codes "a")) no_items))) no_members)), None)
    ∷ ((object (member (codes "phrase") (array (item (number (unsigned 0)) (item (string (codes "a")) no_items))) no_members)), None)
    ∷ ((object (member (codes "phrase") (array (item (number (unsigned 2)) no_items)) no_members)), None)
    ∷ ((object (member (codes "phrase") (array (item (number (unsigned 2)) (item (string []) no_items))) no_members)), None)
    ∷ ((object (member (codes "phrase") (string (codes "a")) no_members)), None)
    ∷ []

pub of_near-hold : map (λ row. tree_of row.0) of_near ≡ map (λ row. row.1) of_near
of_near-hold = refl

-- numbers that are no unsigned ones of 64 bits
abbrev of_other_numbers : ℤ → Float → List (Data × Option Tree)
of_other_numbers z x =
    ((object (member (codes "near") (array (item (number (float x)) (item (string (codes "a")) no_items))) no_members)), None)
    ∷ ((object (member (codes "near") (array (item (number (negative z)) (item (string (codes "a")) no_items))) no_members)), None)
    ∷ ((object (member (codes "near") (array (item (number (float x)) (item (string (codes "a")) no_items))) no_members)), None)
    ∷ ((object (member (codes "scale") (array (item (number (negative z)) (item (object (member (codes "term") (string (codes "a")) no_members)) no_items))) no_members)), None)
    ∷ ((object (member (codes "range") (array (item (number (negative z)) (item null (item null no_items)))) no_members)), None)
    ∷ ((object (member (codes "range") (array (item (number (unsigned 0)) (item (number (negative z)) (item null no_items)))) no_members)), None)
    ∷ ((object (member (codes "range") (array (item (number (unsigned 0)) (item null (item (number (float x)) no_items)))) no_members)), None)
    ∷ ((object (member (codes "range") (array (item (number (unsigned 0)) (item null (item (number (float x)) no_items)))) no_members)), None)
    ∷ ((object (member (codes "range") (array (item (number (float x)) (item null (item null no_items)))) no_members)), None)
    ∷ ((object (member (codes "scale") (array (item (number (float x)) (item (object (member (codes "term") (string (codes "a")) no_members)) no_items))) no_members)), None)
    ∷ []

pub of_other_numbers-hold : (z : ℤ) (x : Float) → map (λ row. tree_of row.0) (of_other_numbers z x) ≡ map (λ row. row.1) (of_other_numbers z x)
of_other_numbers-hold z x = refl

-- strings
abbrev of_synonyms : List (Data × Option Tree)
of_synonyms =
    ((object (member (codes "synonym") (array (item (string (codes "b")) (item (string (codes "a")) no_items))) no_members)), Some (synonym ((codes "b") ∷ (codes "a") ∷ [])))
    ∷ ((object (member (codes "synonym") (array (item (string (codes "a")) no_items)) no_members)), Some (synonym ((codes "a") ∷ [])))
    ∷ ((object (member (codes "synonym") (array (item (string (codes "a")) (item (string (codes "A")) no_items))) no_members)), Some (synonym ((codes "a") ∷ (codes "A") ∷ [])))
    ∷ ((object (member (codes "synonym") (array (item (string (codes "a")) (item (string (codes "a")) no_items))) no_members)), None)
    ∷ ((object (member (codes "synonym") (array (item (string (codes "a")) (item (string (codes "b")) (item (string (codes "a")) no_items)))) no_members)), None)
    ∷ ((object (member (codes "synonym") (array (item (string (codes "b")) (item (string (codes "a")) (item (string (codes "a")) no_items)))) no_members)), None)
    ∷ ((object (member (codes "synonym") (array no_items) no_members)), None)
    ∷ ((object (member (codes "synonym") (array (item (string []) no_items)) no_members)), None)
    ∷ ((object (member (codes "synonym") (array (item (number (unsigned 1)) (item (string (codes "a")) no_items))) no_members)), None)
    ∷ []

pub of_synonyms-hold : map (λ row. tree_of row.0) of_synonyms ≡ map (λ row. row.1) of_synonyms
of_synonyms-hold = refl

-- a factor and a query; the product of factors
abbrev of_scales : List (Data × Option Tree)
of_scales =
    ((object (member (codes "scale") (array (item (number (unsigned 0)) (item (object (member (codes "term") (string (codes "a")) no_members)) no_items))) no_members)), Some (scale 0 (term (codes "a"))))
    ∷ ((object (member (codes "scale") (array (item (number (unsigned 1)) (item (object (member (codes "all") (array no_items) no_members)) no_items))) no_members)), Some (scale 1 all))
    ∷ ((object (member (codes "scale") (array (item (number (unsigned 65536)) (item (object (member (codes "term") (string (codes "a")) no_members)) no_items))) no_members)), Some (scale 65536 (term (codes "a"))))
    ∷ ((object (member (codes "scale") (array (item (number (unsigned 65537)) (item (object (member (codes "term") (string (codes "a")) no_members)) no_items))) no_members)), None)
    ∷ ((object (member (codes "scale") (array (item (number (unsigned 4294967296)) (item (object (member (codes "term") (string (codes "a")) no_members)) no_items))) no_members)), None)
    ∷ ((object (member (codes "scale") (array (item (string (codes "2")) (item (object (member (codes "term") (string (codes "a")) no_members)) no_items))) no_members)), None)
    ∷ ((object (member (codes "scale") (array (item (object (member (codes "term") (string (codes "a")) no_members)) (item (number (unsigned 2)) no_items))) no_members)), None)
    ∷ ((object (member (codes "scale") (array (item (number (unsigned 2)) no_items)) no_members)), None)
    ∷ ((object (member (codes "scale") (array no_items) no_members)), None)
    ∷ ((object (member (codes "scale") (array (item (number (unsigned 2)) (item (object (member (codes "term") (string (codes "a")) no_members)) (item (object (member (codes "term") (string (codes "b")) no_members)) no_items)))) no_members)), None)
    ∷ ((object (member (codes "scale") (array (item (number (unsigned 2)) (item (string (codes "a")) no_items))) no_members)), None)
    ∷ ((object (member (codes "scale") (object (member (codes "term") (string (codes "a")) no_members)) no_members)), None)
    ∷ ((object (member (codes "scale") (array (item (number (unsigned 300)) (item (object (member (codes "scale") (array (item (number (unsigned 300)) (item (object (member (codes "term") (string (codes "a")) no_members)) no_items))) no_members)) no_items))) no_members)), None)
    ∷ ((object (member (codes "scale") (array (item (number (unsigned 256)) (item (object (member (codes "scale") (array (item (number (unsigned 256)) (item (object (member (codes "term") (string (codes "a")) no_members)) no_items))) no_members)) no_items))) no_members)), Some (scale 256 (scale 256 (term (codes "a")))))
    ∷ ((object (member (codes "scale") (array (item (number (unsigned 256)) (item (object (member (codes "scale") (array (item (number (unsigned 257)) (item (object (member (codes "term") (string (codes "a")) no_members)) no_items))) no_members)) no_items))) no_members)), None)
    ∷ ((object (member (codes "scale") (array (item (number (unsigned 65536)) (item (object (member (codes "and") (array (item (object (member (codes "all") (array no_items) no_members)) (item (object (member (codes "scale") (array (item (number (unsigned 1)) (item (object (member (codes "term") (string (codes "a")) no_members)) no_items))) no_members)) no_items))) no_members)) no_items))) no_members)), Some (scale 65536 (parts Form.And (trees_from (all ∷ (scale 1 (term (codes "a"))) ∷ [])))))
    ∷ ((object (member (codes "scale") (array (item (number (unsigned 256)) (item (object (member (codes "and") (array (item (object (member (codes "all") (array no_items) no_members)) (item (object (member (codes "scale") (array (item (number (unsigned 257)) (item (object (member (codes "all") (array no_items) no_members)) no_items))) no_members)) no_items))) no_members)) no_items))) no_members)), None)
    ∷ ((object (member (codes "scale") (array (item (number (unsigned 300)) (item (object (member (codes "scale") (array (item (number (unsigned 300)) (item (object (member (codes "scale") (array (item (number (unsigned 0)) (item (object (member (codes "term") (string (codes "a")) no_members)) no_items))) no_members)) no_items))) no_members)) no_items))) no_members)), None)
    ∷ ((object (member (codes "scale") (array (item (number (unsigned 0)) (item (object (member (codes "scale") (array (item (number (unsigned 65536)) (item (object (member (codes "scale") (array (item (number (unsigned 65536)) (item (object (member (codes "term") (string (codes "a")) no_members)) no_items))) no_members)) no_items))) no_members)) no_items))) no_members)), Some (scale 0 (scale 65536 (scale 65536 (term (codes "a"))))))
    ∷ ((object (member (codes "scale") (array (item (number (unsigned 0)) (item (object (member (codes "scale") (array (item (number (unsigned 65537)) (item (object (member (codes "term") (string (codes "a")) no_members)) no_items))) no_members)) no_items))) no_members)), None)
    ∷ []

pub of_scales-hold : map (λ row. tree_of row.0) of_scales ≡ map (λ row. row.1) of_scales
of_scales-hold = refl

-- a slot and two ends
abbrev of_ranges : List (Data × Option Tree)
of_ranges =
    ((object (member (codes "range") (array (item (number (unsigned 0)) (item null (item null no_items)))) no_members)), Some (range 0 unbounded unbounded))
    ∷ ((object (member (codes "range") (array (item (number (unsigned 255)) (item (number (unsigned 7)) (item (string (codes "b")) no_items)))) no_members)), Some (range 255 (number_limit 7) (bytes (codes "b"))))
    ∷ ((object (member (codes "range") (array (item (number (unsigned 1)) (item (string []) (item (string []) no_items)))) no_members)), Some (range 1 (bytes []) (bytes [])))
    ∷ ((object (member (codes "range") (array (item (number (unsigned 1)) (item (number (unsigned 0)) (item (number (unsigned 18446744073709551615)) no_items)))) no_members)), Some (range 1 (number_limit 0) (number_limit 18446744073709551615)))
    ∷ ((object (member (codes "range") (array (item (number (unsigned 1)) (item (string (codes "b")) (item (string (codes "a")) no_items)))) no_members)), Some (range 1 (bytes (codes "b")) (bytes (codes "a"))))
    ∷ ((object (member (codes "range") (array (item (number (unsigned 256)) (item null (item null no_items)))) no_members)), None)
    ∷ ((object (member (codes "range") (array (item (string (codes "0")) (item null (item null no_items)))) no_members)), None)
    ∷ ((object (member (codes "range") (array (item null (item null (item null no_items)))) no_members)), None)
    ∷ ((object (member (codes "range") (array (item (number (unsigned 4294967296)) (item null (item null no_items)))) no_members)), None)
    ∷ ((object (member (codes "range") (array (item (number (unsigned 0)) (item (boolean true) (item null no_items)))) no_members)), None)
    ∷ ((object (member (codes "range") (array (item (number (unsigned 0)) (item (array no_items) (item null no_items)))) no_members)), None)
    ∷ ((object (member (codes "range") (array (item (number (unsigned 0)) (item null no_items))) no_members)), None)
    ∷ ((object (member (codes "range") (array (item (number (unsigned 0)) no_items)) no_members)), None)
    ∷ ((object (member (codes "range") (array no_items) no_members)), None)
    ∷ ((object (member (codes "range") (array (item (number (unsigned 0)) (item null (item null (item null no_items))))) no_members)), None)
    ∷ []

pub of_ranges-hold : map (λ row. tree_of row.0) of_ranges ≡ map (λ row. row.1) of_ranges
of_ranges-hold = refl

-- what is no object of one member of these names
abbrev of_no_form : List (Data × Option Tree)
of_no_form =
    ((object no_members), None)
    ∷ ((array no_items), None)
    ∷ (null, None)
    ∷ ((boolean true), None)
    ∷ ((number (unsigned 7)), None)
    ∷ ((string (codes "term")), None)
    ∷ ((array (item (object (member (codes "term") (string (codes "a")) no_members)) no_items)), None)
    ∷ ((object (member [] (string (codes "a")) no_members)), None)
    ∷ ((object (member (codes "Term") (string (codes "a")) no_members)), None)
    ∷ ((object (member (codes "term ") (string (codes "a")) no_members)), None)
    ∷ ((object (member (codes "terms") (array (item (string (codes "a")) no_items)) no_members)), None)
    ∷ ((object (member (codes "andnot") (array (item (object (member (codes "term") (string (codes "a")) no_members)) no_items)) no_members)), None)
    ∷ ((object (member (codes "not") (array (item (object (member (codes "term") (string (codes "a")) no_members)) no_items)) no_members)), None)
    ∷ ((object (member (codes "term") (string (codes "a")) (member (codes "x") null no_members))), None)
    ∷ []

pub of_no_form-hold : map (λ row. tree_of row.0) of_no_form ≡ map (λ row. row.1) of_no_form
of_no_form-hold = refl
