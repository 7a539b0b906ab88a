-- Small values that the definitions must give, worked out by hand.
use Rattle.std.proofs.Common.{◌≡◌, ℕ, true, false, List, [], ◌∷◌, codes, Some, None, refl}
use Rattle.sk_base.specs.declared.rank.Rank.{Rank}
use Rattle.sk_base.specs.declared.rank.SortKey.{SortKey}
use Rattle.sk_base.specs.declared.rank.Order.{Order}
use Rattle.sk_base.specs.declared.rank.OrderBy.{OrderBy}
use Rattle.sk_base.specs.declared.schema.Field.{Field}
use Rattle.sk_base.specs.declared.schema.FieldKind.{FieldKind}
use Rattle.sk_base.specs.Names.{is_name, is_prefix}
use Rattle.sk_base.specs.Fields.{is_kind, are_fields, place_of}
use Rattle.sk_base.specs.Before.{is_before}
use Rattle.sk_base.specs.Terms.{prefixed}

-- ---- names, prefixes and steps

name_1 : is_name (codes "body") ≡ true
name_1 = refl

name_2 : is_name (codes "a") ≡ true
name_2 = refl

name_3 : is_name (codes "a_1") ≡ true
name_3 = refl

name_4 : is_name (codes "abcdefghijklmnopqrstuvwxyzabcdef") ≡ true
name_4 = refl

name_5 : is_name (codes "abcdefghijklmnopqrstuvwxyzabcdefg") ≡ false
name_5 = refl

name_6 : is_name [] ≡ false
name_6 = refl

name_7 : is_name (codes "1a") ≡ false
name_7 = refl

name_8 : is_name (codes "_a") ≡ false
name_8 = refl

name_9 : is_name (codes "aB") ≡ false
name_9 = refl

prefix_1 : is_prefix [] ≡ true
prefix_1 = refl

prefix_2 : is_prefix (codes "A") ≡ true
prefix_2 = refl

prefix_3 : is_prefix (codes "W") ≡ true
prefix_3 = refl

prefix_4 : is_prefix (codes "Y") ≡ true
prefix_4 = refl

prefix_5 : is_prefix (codes "XA") ≡ true
prefix_5 = refl

prefix_6 : is_prefix (codes "XABCDEFGHIJKLMNO") ≡ true
prefix_6 = refl

prefix_7 : is_prefix (codes "XABCDEFGHIJKLMNOP") ≡ false
prefix_7 = refl

prefix_8 : is_prefix (codes "X") ≡ false
prefix_8 = refl

prefix_9 : is_prefix (codes "Z") ≡ false
prefix_9 = refl

prefix_10 : is_prefix (codes "AB") ≡ false
prefix_10 = refl

prefix_11 : is_prefix (codes "a") ≡ false
prefix_11 = refl

prefix_12 : is_prefix (codes "Xa") ≡ false
prefix_12 = refl

step_0 : is_kind (FieldKind.Text [] 0) ≡ false
step_0 = refl

step_1 : is_kind (FieldKind.Text [] 1) ≡ true
step_1 = refl

step_256 : is_kind (FieldKind.Text [] 256) ≡ true
step_256 = refl

step_257 : is_kind (FieldKind.Text [] 257) ≡ false
step_257 = refl

-- ---- two fields in one schema

abbrev field : List ℕ → FieldKind → Field
field name kind = record { name = name; kind = kind }

pair_1 : are_fields (field (codes "a") (FieldKind.Text [] 1) ∷ field (codes "b") (FieldKind.Text [] 1) ∷ []) ≡ true
pair_1 = refl

pair_2 : are_fields (field (codes "a") (FieldKind.Text (codes "XA") 1) ∷ field (codes "b") (FieldKind.Text (codes "XA") 1) ∷ []) ≡ true
pair_2 = refl

pair_3 : are_fields (field (codes "a") (FieldKind.Text [] 1) ∷ field (codes "a") (FieldKind.Number 0) ∷ []) ≡ false
pair_3 = refl

pair_4 : are_fields (field (codes "a") (FieldKind.Filter (codes "L")) ∷ field (codes "b") (FieldKind.Filter (codes "K")) ∷ []) ≡ true
pair_4 = refl

pair_5 : are_fields (field (codes "a") (FieldKind.Filter (codes "L")) ∷ field (codes "b") (FieldKind.Filter (codes "L")) ∷ []) ≡ false
pair_5 = refl

pair_6 : are_fields (field (codes "a") (FieldKind.Filter (codes "L")) ∷ field (codes "b") (FieldKind.Text (codes "L") 1) ∷ []) ≡ false
pair_6 = refl

pair_7 : are_fields (field (codes "a") (FieldKind.Text (codes "L") 1) ∷ field (codes "b") (FieldKind.Filter (codes "L")) ∷ []) ≡ false
pair_7 = refl

pair_8 : are_fields (field (codes "a") (FieldKind.Filter (codes "XA")) ∷ field (codes "b") (FieldKind.Filter (codes "XAB")) ∷ []) ≡ true
pair_8 = refl

pair_9 : are_fields (field (codes "a") (FieldKind.Filter []) ∷ field (codes "b") (FieldKind.Text (codes "A") 1) ∷ []) ≡ false
pair_9 = refl

pair_10 : are_fields (field (codes "a") (FieldKind.Filter (codes "Z")) ∷ field (codes "b") (FieldKind.Text [] 1) ∷ []) ≡ false
pair_10 = refl

pair_11 : are_fields (field (codes "a") (FieldKind.Number 0) ∷ field (codes "b") (FieldKind.Word 1) ∷ []) ≡ true
pair_11 = refl

pair_12 : are_fields (field (codes "a") (FieldKind.Number 3) ∷ field (codes "b") (FieldKind.Word 3) ∷ []) ≡ false
pair_12 = refl

pair_13 : are_fields (field (codes "a") (FieldKind.Word 3) ∷ field (codes "b") (FieldKind.Number 3) ∷ []) ≡ false
pair_13 = refl

pair_14 : are_fields (field (codes "a") (FieldKind.Number 3) ∷ field (codes "b") (FieldKind.Number 3) ∷ []) ≡ false
pair_14 = refl

pair_15 : are_fields (field (codes "a") (FieldKind.Word 3) ∷ field (codes "b") (FieldKind.Word 3) ∷ []) ≡ false
pair_15 = refl

pair_16 : are_fields (field (codes "a") (FieldKind.Number 255) ∷ field (codes "b") (FieldKind.Word 0) ∷ []) ≡ true
pair_16 = refl

pair_17 : are_fields (field (codes "a") (FieldKind.Number 256) ∷ field (codes "b") (FieldKind.Word 0) ∷ []) ≡ false
pair_17 = refl

pair_18 : are_fields (field (codes "a") (FieldKind.Number 0) ∷ field (codes "b") (FieldKind.Word 256) ∷ []) ≡ false
pair_18 = refl

abbrev two : List Field
two = field (codes "body") (FieldKind.Text [] 1) ∷ field (codes "year") (FieldKind.Number 7) ∷ []

place_of_body : place_of (codes "body") two ≡ Some 0
place_of_body = refl

place_of_year : place_of (codes "year") two ≡ Some 1
place_of_year = refl

place_of_bod : place_of (codes "bod") two ≡ None
place_of_bod = refl

-- ---- which of two matches comes first

abbrev forward : SortKey
forward = record { slot = 0; reverse = false }

abbrev backward : SortKey
backward = record { slot = 0; reverse = true }

abbrev rank : ℕ → List ℕ → ℕ → Rank
rank weight value id = record { weight = weight; value = value; id = id }

abbrev rising : OrderBy → Order
rising by = record { by = by; falling = false }

abbrev falls : OrderBy → Order
falls by = record { by = by; falling = true }

before_1 : is_before (rising OrderBy.Relevance) (rank 2 [] 9) (rank 1 [] 1) ≡ true
before_1 = refl

before_2 : is_before (rising OrderBy.Relevance) (rank 1 [] 1) (rank 2 [] 9) ≡ false
before_2 = refl

before_3 : is_before (rising OrderBy.Relevance) (rank 2 [] 3) (rank 2 [] 9) ≡ true
before_3 = refl

before_4 : is_before (rising OrderBy.Relevance) (rank 2 [] 9) (rank 2 [] 3) ≡ false
before_4 = refl

before_5 : is_before (rising OrderBy.Relevance) (rank 2 [] 3) (rank 2 [] 3) ≡ false
before_5 = refl

before_6 : is_before (rising OrderBy.Relevance) (rank 2 (98 ∷ []) 3) (rank 2 (97 ∷ []) 9) ≡ true
before_6 = refl

before_7 : is_before (rising (OrderBy.Value forward)) (rank 1 (97 ∷ []) 9) (rank 2 (98 ∷ []) 1) ≡ true
before_7 = refl

before_8 : is_before (rising (OrderBy.Value forward)) (rank 1 [] 9) (rank 2 (0 ∷ []) 1) ≡ true
before_8 = refl

before_9 : is_before (rising (OrderBy.Value forward)) (rank 1 (97 ∷ 98 ∷ []) 9) (rank 2 (98 ∷ []) 1) ≡ true
before_9 = refl

before_10 : is_before (rising (OrderBy.Value forward)) (rank 1 (97 ∷ []) 9) (rank 2 (97 ∷ []) 1) ≡ false
before_10 = refl

before_11 : is_before (rising (OrderBy.Value forward)) (rank 1 (97 ∷ []) 1) (rank 2 (97 ∷ []) 9) ≡ true
before_11 = refl

before_12 : is_before (rising (OrderBy.Value backward)) (rank 1 (98 ∷ []) 9) (rank 2 (97 ∷ []) 1) ≡ true
before_12 = refl

before_13 : is_before (rising (OrderBy.Value backward)) (rank 2 [] 1) (rank 1 (97 ∷ []) 9) ≡ false
before_13 = refl

before_14 : is_before (rising (OrderBy.Value backward)) (rank 1 (97 ∷ []) 1) (rank 2 (97 ∷ []) 9) ≡ true
before_14 = refl

before_15 : is_before (rising (OrderBy.ValueThenRelevance forward)) (rank 1 (97 ∷ []) 9) (rank 2 (98 ∷ []) 1) ≡ true
before_15 = refl

before_16 : is_before (rising (OrderBy.ValueThenRelevance forward)) (rank 2 (97 ∷ []) 9) (rank 1 (97 ∷ []) 1) ≡ true
before_16 = refl

before_17 : is_before (rising (OrderBy.ValueThenRelevance backward)) (rank 2 (97 ∷ []) 9) (rank 1 (97 ∷ []) 1) ≡ true
before_17 = refl

before_18 : is_before (rising (OrderBy.ValueThenRelevance forward)) (rank 2 (97 ∷ []) 9) (rank 2 (97 ∷ []) 1) ≡ false
before_18 = refl

before_19 : is_before (rising (OrderBy.RelevanceThenValue forward)) (rank 2 (98 ∷ []) 9) (rank 1 (97 ∷ []) 1) ≡ true
before_19 = refl

before_20 : is_before (rising (OrderBy.RelevanceThenValue forward)) (rank 2 (97 ∷ []) 9) (rank 2 (98 ∷ []) 1) ≡ true
before_20 = refl

before_21 : is_before (rising (OrderBy.RelevanceThenValue backward)) (rank 2 (97 ∷ []) 1) (rank 2 (98 ∷ []) 9) ≡ false
before_21 = refl

before_22 : is_before (rising (OrderBy.RelevanceThenValue backward)) (rank 2 (97 ∷ []) 1) (rank 2 (97 ∷ []) 9) ≡ true
before_22 = refl

before_23 : is_before (falls OrderBy.Relevance) (rank 2 [] 3) (rank 2 [] 9) ≡ false
before_23 = refl

before_24 : is_before (falls OrderBy.Relevance) (rank 2 [] 9) (rank 2 [] 3) ≡ true
before_24 = refl

before_25 : is_before (falls OrderBy.Relevance) (rank 2 [] 1) (rank 1 [] 9) ≡ true
before_25 = refl

before_26 : is_before (falls (OrderBy.Value backward)) (rank 1 (97 ∷ []) 9) (rank 2 (97 ∷ []) 1) ≡ true
before_26 = refl

before_27 : is_before (falls (OrderBy.Value backward)) (rank 1 (98 ∷ []) 1) (rank 2 (97 ∷ []) 9) ≡ true
before_27 = refl

before_28 : is_before (falls (OrderBy.ValueThenRelevance forward)) (rank 2 (97 ∷ []) 1) (rank 2 (97 ∷ []) 9) ≡ false
before_28 = refl

before_29 : is_before (falls (OrderBy.RelevanceThenValue forward)) (rank 2 (97 ∷ []) 1) (rank 2 (97 ∷ []) 9) ≡ false
before_29 = refl

-- ---- a colon stands between capitals

term_1 : prefixed (codes "XCAT") (codes "Dog") ≡ (codes "XCAT:Dog")
term_1 = refl

term_2 : prefixed (codes "XCAT") (codes "dog") ≡ (codes "XCATdog")
term_2 = refl

term_3 : prefixed (codes "XCAT") (codes ":x") ≡ (codes "XCAT::x")
term_3 = refl

term_4 : prefixed (codes "XCAT") [] ≡ (codes "XCAT")
term_4 = refl

term_5 : prefixed (codes "XCAT") (195 ∷ 137 ∷ 116 ∷ 97 ∷ 103 ∷ 101 ∷ []) ≡ (88 ∷ 67 ∷ 65 ∷ 84 ∷ 195 ∷ 137 ∷ 116 ∷ 97 ∷ 103 ∷ 101 ∷ [])
term_5 = refl

term_6 : prefixed (codes "L") (codes "En") ≡ (codes "LEn")
term_6 = refl

term_7 : prefixed (codes "L") (codes ":x") ≡ (codes "L:x")
term_7 = refl

term_8 : prefixed [] (codes "Dog") ≡ (codes "Dog")
term_8 = refl
