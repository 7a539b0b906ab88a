-- The bounds of queries over four documents, and the numbers that they are made of, worked out by hand.
use Rattle.std.proofs.Common.{◌≡◌, ℕ, ◌∷◌, [], List, refl, map, codes}
use Rattle.sk_base.specs.declared.find.Scheme.{Scheme}
use Rattle.sk_base.specs.Numbers.{live_of, length_of, greatest_of, wild_length_of, wild_greatest_of, slot_length_of}
use Rattle.sk_query.specs.declared.form.Form.{Form}
use Rattle.sk_query.specs.Trees.{unbounded, number, bytes, Tree, nothing, all, term, wildcard, parts, near, phrase, synonym, scale, range, trees_from}
use Rattle.sk_model.specs.Bounds.{ceil, static_count}
use Rattle.sk_model.proofs.Examples.{four}

-- queries, how much a document can weigh, and how many can match
abbrev bounds : List (Scheme × Tree × ℕ × ℕ)
bounds =
    (Scheme.Nnn, nothing, 0, 0)
    ∷ (Scheme.Nnn, all, 0, 4)
    ∷ (Scheme.Nnn, term (codes "red"), 2, 3)
    ∷ (Scheme.Nnn, term (codes "cat"), 0, 0)
    ∷ (Scheme.Nnn, term (codes "Len"), 0, 3)
    ∷ (Scheme.Coord, term (codes "Len"), 1, 3)
    ∷ (Scheme.Coord, term (codes "red"), 1, 3)
    ∷ (Scheme.Coord, term (codes "cat"), 0, 0)
    ∷ (Scheme.Bool, term (codes "red"), 0, 3)
    ∷ (Scheme.Bnn, term (codes "Len"), 0, 3)
    ∷ (Scheme.Bnn, term (codes "red"), 1, 3)
    ∷ (Scheme.Snn, term (codes "red"), 4, 3)
    ∷ (Scheme.Nnn, wildcard (codes "f"), 1, 3)
    ∷ (Scheme.Nnn, wildcard (codes "L"), 0, 4)
    ∷ (Scheme.Coord, wildcard (codes "L"), 1, 4)
    ∷ (Scheme.Coord, wildcard (codes "x"), 0, 0)
    ∷ (Scheme.Bnn, wildcard (codes "L"), 0, 4)
    ∷ (Scheme.Snn, wildcard (codes "r"), 4, 3)
    ∷ (Scheme.Nnn, parts Form.And (trees_from ((term (codes "red")) ∷ (term (codes "fox")) ∷ [])), 3, 3)
    ∷ (Scheme.Nnn, parts Form.And (trees_from ((term (codes "red")) ∷ (term (codes "den")) ∷ [])), 3, 2)
    ∷ (Scheme.Nnn, parts Form.And (trees_from (all ∷ (term (codes "hen")) ∷ [])), 1, 1)
    ∷ (Scheme.Nnn, parts Form.And (trees_from ((term (codes "hen")) ∷ [])), 1, 1)
    ∷ (Scheme.Nnn, parts Form.And (trees_from ((term (codes "fox")) ∷ (term (codes "hen")) ∷ (term (codes "red")) ∷ [])), 4, 1)
    ∷ (Scheme.Nnn, parts Form.Or (trees_from ((term (codes "red")) ∷ (term (codes "fox")) ∷ [])), 3, 4)
    ∷ (Scheme.Nnn, parts Form.Or (trees_from ((term (codes "hen")) ∷ (term (codes "the")) ∷ [])), 2, 2)
    ∷ (Scheme.Nnn, parts Form.Or (trees_from (all ∷ all ∷ all ∷ [])), 0, 4)
    ∷ (Scheme.Coord, parts Form.Or (trees_from ((term (codes "red")) ∷ (term (codes "fox")) ∷ [])), 2, 4)
    ∷ (Scheme.Nnn, parts Form.Xor (trees_from ((term (codes "red")) ∷ (term (codes "fox")) ∷ (term (codes "red")) ∷ [])), 5, 4)
    ∷ (Scheme.Nnn, parts Form.Xor (trees_from ((term (codes "den")) ∷ (term (codes "hen")) ∷ [])), 2, 3)
    ∷ (Scheme.Nnn, parts Form.Max (trees_from ((term (codes "red")) ∷ (term (codes "fox")) ∷ [])), 2, 4)
    ∷ (Scheme.Nnn, parts Form.Max (trees_from ((term (codes "hen")) ∷ (term (codes "the")) ∷ [])), 1, 2)
    ∷ (Scheme.Nnn, parts Form.AndNot (trees_from ((term (codes "fox")) ∷ (term (codes "red")) ∷ [])), 1, 3)
    ∷ (Scheme.Nnn, parts Form.AndNot (trees_from ((term (codes "hen")) ∷ (term (codes "fox")) ∷ [])), 1, 1)
    ∷ (Scheme.Nnn, parts Form.AndMaybe (trees_from ((term (codes "hen")) ∷ (term (codes "red")) ∷ [])), 3, 1)
    ∷ (Scheme.Nnn, parts Form.Filter (trees_from ((term (codes "red")) ∷ (term (codes "den")) ∷ [])), 2, 2)
    ∷ (Scheme.Nnn, parts Form.Filter (trees_from ((term (codes "den")) ∷ (term (codes "red")) ∷ [])), 1, 2)
    ∷ (Scheme.Nnn, parts Form.Filter (trees_from (all ∷ (term (codes "hen")) ∷ [])), 0, 1)
    ∷ (Scheme.Nnn, near 2 (codes "red" ∷ codes "fox" ∷ []), 3, 3)
    ∷ (Scheme.Nnn, near 2 (codes "red" ∷ codes "den" ∷ []), 3, 2)
    ∷ (Scheme.Nnn, near 2 (codes "red" ∷ codes "red" ∷ []), 4, 3)
    ∷ (Scheme.Coord, near 2 (codes "red" ∷ codes "red" ∷ []), 2, 3)
    ∷ (Scheme.Nnn, near 2 (codes "red" ∷ codes "cat" ∷ []), 2, 0)
    ∷ (Scheme.Nnn, phrase 3 (codes "the" ∷ codes "red" ∷ codes "fox" ∷ []), 4, 1)
    ∷ (Scheme.Nnn, phrase 3 (codes "red" ∷ []), 2, 3)
    ∷ (Scheme.Nnn, synonym (codes "red" ∷ codes "fox" ∷ []), 3, 4)
    ∷ (Scheme.Nnn, synonym (codes "hen" ∷ codes "the" ∷ []), 2, 2)
    ∷ (Scheme.Coord, synonym (codes "hen" ∷ codes "the" ∷ []), 1, 2)
    ∷ (Scheme.Coord, synonym (codes "cat" ∷ []), 0, 0)
    ∷ (Scheme.Bnn, synonym (codes "red" ∷ codes "fox" ∷ []), 1, 4)
    ∷ (Scheme.Snn, synonym (codes "red" ∷ codes "fox" ∷ []), 9, 4)
    ∷ (Scheme.Nnn, scale 3 (term (codes "red")), 6, 3)
    ∷ (Scheme.Nnn, scale 3 (parts Form.Or (trees_from ((term (codes "red")) ∷ (scale 2 (term (codes "hen"))) ∷ []))), 12, 4)
    ∷ (Scheme.Nnn, scale 0 (term (codes "red")), 0, 3)
    ∷ (Scheme.Coord, scale 5 (term (codes "red")), 5, 3)
    ∷ (Scheme.Snn, scale 5 (term (codes "red")), 20, 3)
    ∷ (Scheme.Bool, scale 5 (term (codes "red")), 0, 3)
    ∷ (Scheme.Nnn, range 0 (number 1990) (number 1990), 0, 3)
    ∷ (Scheme.Nnn, range 0 (number 2010) (number 1990), 0, 0)
    ∷ (Scheme.Nnn, range 0 (number 2020) unbounded, 0, 3)
    ∷ (Scheme.Nnn, range 1 (bytes (codes "b")) (bytes (codes "a")), 0, 0)
    ∷ (Scheme.Nnn, range 1 unbounded (bytes (codes "a")), 0, 4)
    ∷ (Scheme.Nnn, range 7 unbounded unbounded, 0, 0)
    ∷ []

weights_bounded : map (λ row. ceil row.1 row.0 1 four) bounds ≡ map (λ row. row.2) bounds
weights_bounded = refl

matches_bounded : map (λ row. static_count row.1 four) bounds ≡ map (λ row. row.3) bounds
matches_bounded = refl

all_live : live_of four ≡ 4
all_live = refl

-- terms, how many documents have them, and their greatest wdfs
abbrev terms : List (List ℕ × ℕ × ℕ)
terms =
    (codes "red", 3, 2)
    ∷ (codes "hen", 1, 1)
    ∷ (codes "den", 2, 1)
    ∷ (codes "Len", 3, 0)
    ∷ (codes "re", 0, 0)
    ∷ (codes "cat", 0, 0)
    ∷ []

term_lengths : map (λ row. length_of row.0 four) terms ≡ map (λ row. row.1) terms
term_lengths = refl

term_greatests : map (λ row. greatest_of row.0 four) terms ≡ map (λ row. row.2) terms
term_greatests = refl

-- prefixes, and the same of all terms that begin so; all lengths together are 14
abbrev prefixes : List (List ℕ × ℕ × ℕ)
prefixes =
    (codes "re", 3, 2)
    ∷ (codes "L", 4, 0)
    ∷ (codes "Lf", 1, 0)
    ∷ (codes "foxy", 0, 0)
    ∷ (codes "x", 0, 0)
    ∷ ([], 4, 6)
    ∷ []

prefix_lengths : map (λ row. wild_length_of row.0 four) prefixes ≡ map (λ row. row.1) prefixes
prefix_lengths = refl

prefix_greatests : map (λ row. wild_greatest_of row.0 four) prefixes ≡ map (λ row. row.2) prefixes
prefix_greatests = refl

-- slots, and how many documents have a value there
abbrev slots : List (ℕ × ℕ)
slots =
    (0, 3)
    ∷ (1, 4)
    ∷ (2, 0)
    ∷ []

slot_lengths : map (λ row. slot_length_of row.0 four) slots ≡ map (λ row. row.1) slots
slot_lengths = refl
