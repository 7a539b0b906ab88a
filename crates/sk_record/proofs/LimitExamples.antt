-- Bytes that are no text, and how deep, how many and how long what stands in a line may be. A ' stands for a ".
use Rattle.std.proofs.Common.{◌≡◌, ℕ, zero, suc, ◌+◌, ◌/◌, ◌%◌, ◌∷◌, [], ◌++◌, List, length, refl, Some, None, map, codes, arith}
use Rattle.std.specs.List.{range_with_len}
use Rattle.std.specs.Str.{encode_utf8_all}
use Rattle.serde_json.specs.Data.{Data, string, array, object, no_items, item, no_members, member}
use Rattle.sk_base.specs.declared.facets.ValueKind.TheVariants as ValueKind
use Rattle.sk_base.specs.declared.find.Join.{Join}
use Rattle.sk_base.specs.declared.schema.FieldKind.TheVariants as FieldKind
use Rattle.sk_record.specs.Outcome.{outcome}
use Rattle.sk_base.specs.declared.find.Ask.{Ask}
use Rattle.sk_record.proofs.ExampleLines.{on_lines, AreGiven, row, schema, field, opened, plain, relevance, found, faceted, opened_search, not_json, no_schema, bad_shape, bad_field}

-- Bytes that are not UTF-8 are no value, and a mark of the order of bytes is no white space.
no_text_at_first : AreGiven None (
    row (39 ∷ 255 ∷ 39 ∷ []) not_json ∷
    row (codes "{'find':'" ++ 195 ∷ codes "'}") not_json ∷
    row (encode_utf8_all (codes "{'find':'é'}")) no_schema ∷
    row (239 ∷ 187 ∷ 191 ∷ codes "{}") not_json ∷
    [])
unfolding on_lines
no_text_at_first = refl

no_text : AreGiven (Some schema) (
    row (39 ∷ 255 ∷ 39 ∷ []) not_json ∷
    row (codes "{'find':'" ++ 195 ∷ codes "'}") not_json ∷
    row (encode_utf8_all (codes "{'find':'é'}")) (found (Ask.Text (encode_utf8_all (codes "é")) Join.Or)) ∷
    row (239 ∷ 187 ∷ 191 ∷ codes "{}") not_json ∷
    [])
unfolding on_lines
no_text = refl

-- this many times a byte, before a text
abbrev times : ℕ → ℕ → List ℕ → List ℕ
times zero byte text = text
times (suc n) byte text = byte ∷ times n byte text

-- so many arrays, each but the first inside another
abbrev arrays : ℕ → List ℕ
arrays n = times n 91 (times n 93 [])

-- an array inside so many others
abbrev inside : ℕ → Data
inside zero = array no_items
inside (suc n) = array (item (inside n) no_items)

-- Arrays stand in each other 127 deep at the most.
arrays_alone : AreGiven (Some schema) (
    row (arrays 1) bad_shape ∷
    row (arrays 126) bad_shape ∷
    row (arrays 127) bad_shape ∷
    row (arrays 128) not_json ∷
    [])
unfolding on_lines
arrays_alone = refl

-- The object around a tree counts as well.
arrays_in_a_tree : AreGiven (Some schema) (
    row (codes "{'tree':" ++ arrays 1 ++ codes "}") (found (Ask.Tree (inside 0))) ∷
    row (codes "{'tree':" ++ arrays 126 ++ codes "}") (found (Ask.Tree (inside 125))) ∷
    row (codes "{'tree':" ++ arrays 127 ++ codes "}") not_json ∷
    row (codes "{'tree':" ++ arrays 128 ++ codes "}") not_json ∷
    [])
unfolding on_lines
arrays_in_a_tree = refl

-- f00, f01 and so on
abbrev numbered : ℕ → List ℕ
numbered n = 102 ∷ (48 + n / 10) ∷ (48 + n % 10) ∷ []

-- a text field of this name, on a line
abbrev field_line : List ℕ → List ℕ
field_line name = codes "{'name':'" ++ name ++ codes "','kind':'text'}"

-- more such fields
abbrev more_lines : List ℕ → List ℕ
more_lines [] = codes "]}"
more_lines (n ∷ ns) = codes "," ++ field_line (numbered n) ++ more_lines ns

-- a schema of this field, and of f01 and so on behind it
abbrev schema_line : List ℕ → ℕ → List ℕ
schema_line name behind = codes "{'schema':[" ++ field_line name ++ more_lines (range_with_len 1 behind)

-- A schema has 64 fields at the most, and their number is asked for before their names.
many_fields : AreGiven None (
    row (schema_line (numbered 0) 63) (opened (map (λ n. field (numbered n) (FieldKind.Text [] 1)) (range_with_len 0 64))) ∷
    row (schema_line (numbered 1) 63) bad_field ∷
    row (schema_line (numbered 0) 64) bad_shape ∷
    row (schema_line (numbered 1) 64) bad_shape ∷
    [])
unfolding on_lines
many_fields = refl

-- ---- any text of so many bytes

-- a query text has 1,048,576 bytes at the most
abbrev asking : List ℕ → Data
asking text = object (member (codes "find") (string text) no_members)

longest_text : (text : List ℕ) → length text ≡ 1048576 → outcome (Some schema) (Some (asking text)) ≡ found (Ask.Text text Join.Or)
longest_text text e = rw e

too_long_a_text : (text : List ℕ) → length text ≡ 1048577 → outcome (Some schema) (Some (asking text)) ≡ bad_shape
too_long_a_text text e = rw e

-- and so has that of facets
abbrev counting : List ℕ → Data
counting text = object (member (codes "by") (string (codes "site")) (member (codes "facets") (string text) no_members))

longest_facets : (text : List ℕ) → length text ≡ 1048576 → outcome (Some schema) (Some (counting text)) ≡ faceted text Join.Or 1 ValueKind.Word 10
longest_facets text e = rw e

too_long_facets : (text : List ℕ) → length text ≡ 1048577 → outcome (Some schema) (Some (counting text)) ≡ bad_shape
too_long_facets text e = rw e

-- and that of a search that is opened
abbrev opening : List ℕ → Data
opening text = object (member (codes "open") (string text) no_members)

longest_opened : (text : List ℕ) → length text ≡ 1048576 → outcome (Some schema) (Some (opening text)) ≡ opened_search (Ask.Text text Join.Or) plain relevance None
longest_opened text e = rw e

too_long_opened : (text : List ℕ) → length text ≡ 1048577 → outcome (Some schema) (Some (opening text)) ≡ bad_shape
too_long_opened text e = rw e

-- so have the strings of a record together, wherever they stand in it
abbrev adding : List ℕ → List ℕ → Data
adding a b =
    object (member (codes "add") (object (member (codes "nope") (array (item (array (item (string a) no_items)) (item (object (member (codes "x") (string b) no_members)) no_items))) no_members)) no_members)

longest_record : (a b : List ℕ) → length a + length b ≡ 1048576 → outcome (Some schema) (Some (adding a b)) ≡ bad_field
longest_record a b e =
    let all : length a + 0 + (length b + 0 + 0) + 0 ≡ 1048576 = omega arith in
    rw all

too_long_a_record : (a b : List ℕ) → length a + length b ≡ 1048577 → outcome (Some schema) (Some (adding a b)) ≡ bad_shape
too_long_a_record a b e =
    let all : length a + 0 + (length b + 0 + 0) + 0 ≡ 1048577 = omega arith in
    rw all
