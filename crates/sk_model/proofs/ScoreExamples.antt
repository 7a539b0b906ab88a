-- What one document scores, query by query, worked out by hand.
use Rattle.std.proofs.Common.{◌≡◌, ℕ, ◌∷◌, [], List, refl, Option, Some, None, map, codes}
use Rattle.std.specs.Int.{to_be_bytes, w64}
use Rattle.sk_base.specs.declared.doc.Doc.{Doc}
use Rattle.sk_base.specs.declared.doc_entry.DocTerm.{DocTerm}
use Rattle.sk_base.specs.declared.find.Scheme.{Scheme}
use Rattle.sk_query.specs.declared.form.Form.{Form}
use Rattle.sk_query.specs.Trees.{unbounded, number, bytes, Tree, nothing, all, term, wildcard, parts, near, phrase, synonym, scale, range, trees_from}
use Rattle.sk_model.specs.Scores.{score}
use Rattle.sk_model.proofs.Examples.{four}

abbrev has : List ℕ → ℕ → List ℕ → DocTerm
has t wdf places = record { term = t; wdf = wdf; positions = places }

-- four terms; the number 7 in slot 1, and the word m in slot 2
abbrev one : Doc
one = record {
  terms = has (codes "fox") 3 (2 ∷ []) ∷ has (codes "foxglove") 5 (9 ∷ []) ∷ has (codes "hen") 1 (5 ∷ []) ∷ has (codes "red") 2 (1 ∷ 4 ∷ []) ∷ [];
  values = record { slot = 1; value = to_be_bytes w64 7 } ∷ record { slot = 2; value = codes "m" } ∷ [];
  payload = [];
}

-- each form of query, and what the document scores for it
abbrev plainly : List (Tree × Option ℕ)
plainly =
    (nothing, None)
    ∷ (all, Some 0)
    ∷ (term (codes "red"), Some 2)
    ∷ (term (codes "re"), None)
    ∷ (wildcard (codes "fox"), Some 8)
    ∷ (wildcard (codes "foxg"), Some 5)
    ∷ (wildcard (codes "cat"), None)
    ∷ (parts Form.And (trees_from ((term (codes "red")) ∷ (term (codes "fox")) ∷ [])), Some 5)
    ∷ (parts Form.And (trees_from ((term (codes "red")) ∷ (term (codes "cat")) ∷ [])), None)
    ∷ (parts Form.And (trees_from (all ∷ (term (codes "red")) ∷ [])), Some 2)
    ∷ (parts Form.Or (trees_from ((term (codes "red")) ∷ (term (codes "cat")) ∷ (term (codes "hen")) ∷ [])), Some 3)
    ∷ (parts Form.Or (trees_from ((term (codes "cat")) ∷ nothing ∷ [])), None)
    ∷ (parts Form.Xor (trees_from ((term (codes "red")) ∷ (term (codes "fox")) ∷ (term (codes "hen")) ∷ [])), Some 6)
    ∷ (parts Form.Xor (trees_from ((term (codes "red")) ∷ (term (codes "fox")) ∷ [])), None)
    ∷ (parts Form.Xor (trees_from ((term (codes "red")) ∷ (term (codes "cat")) ∷ [])), Some 2)
    ∷ (parts Form.Xor (trees_from ((parts Form.Xor (trees_from ((term (codes "red")) ∷ (term (codes "fox")) ∷ []))) ∷ (term (codes "hen")) ∷ [])), Some 1)
    ∷ (parts Form.Max (trees_from ((term (codes "red")) ∷ (term (codes "fox")) ∷ (term (codes "cat")) ∷ [])), Some 3)
    ∷ (parts Form.Max (trees_from ((term (codes "cat")) ∷ [])), None)
    ∷ (parts Form.AndNot (trees_from ((term (codes "red")) ∷ (term (codes "cat")) ∷ [])), Some 2)
    ∷ (parts Form.AndNot (trees_from ((term (codes "red")) ∷ (term (codes "cat")) ∷ (term (codes "hen")) ∷ [])), None)
    ∷ (parts Form.AndNot (trees_from ((term (codes "cat")) ∷ (term (codes "cow")) ∷ [])), None)
    ∷ (parts Form.AndMaybe (trees_from ((term (codes "red")) ∷ (term (codes "cat")) ∷ (term (codes "fox")) ∷ (term (codes "hen")) ∷ [])), Some 6)
    ∷ (parts Form.AndMaybe (trees_from ((term (codes "red")) ∷ (term (codes "cat")) ∷ [])), Some 2)
    ∷ (parts Form.AndMaybe (trees_from ((term (codes "cat")) ∷ (term (codes "red")) ∷ [])), None)
    ∷ (parts Form.Filter (trees_from ((term (codes "fox")) ∷ (term (codes "red")) ∷ (term (codes "hen")) ∷ [])), Some 3)
    ∷ (parts Form.Filter (trees_from ((term (codes "fox")) ∷ (term (codes "red")) ∷ (term (codes "cat")) ∷ [])), None)
    ∷ (near 2 (codes "red" ∷ codes "fox" ∷ []), Some 5)
    ∷ (near 1 (codes "red" ∷ codes "fox" ∷ []), None)
    ∷ (near 2 (codes "fox" ∷ codes "red" ∷ []), Some 5)
    ∷ (near 4 (codes "red" ∷ codes "fox" ∷ codes "hen" ∷ []), Some 6)
    ∷ (near 3 (codes "red" ∷ codes "fox" ∷ codes "hen" ∷ []), None)
    ∷ (near 1 (codes "hen" ∷ codes "hen" ∷ []), Some 2)
    ∷ (near 1048576 (codes "red" ∷ codes "cat" ∷ []), None)
    ∷ (phrase 2 (codes "red" ∷ codes "fox" ∷ []), Some 5)
    ∷ (phrase 1 (codes "red" ∷ codes "fox" ∷ []), None)
    ∷ (phrase 3 (codes "fox" ∷ codes "red" ∷ []), Some 5)
    ∷ (phrase 2 (codes "fox" ∷ codes "red" ∷ []), None)
    ∷ (phrase 2 (codes "red" ∷ codes "hen" ∷ []), Some 3)
    ∷ (phrase 9 (codes "red" ∷ codes "red" ∷ []), Some 4)
    ∷ (phrase 9 (codes "hen" ∷ codes "hen" ∷ []), None)
    ∷ (phrase 9 (codes "hen" ∷ codes "fox" ∷ []), None)
    ∷ (synonym (codes "red" ∷ codes "cat" ∷ codes "hen" ∷ []), Some 3)
    ∷ (synonym (codes "cat" ∷ codes "cow" ∷ []), None)
    ∷ (scale 3 (parts Form.Or (trees_from ((term (codes "red")) ∷ (scale 2 (term (codes "hen"))) ∷ []))), Some 12)
    ∷ (scale 0 (term (codes "red")), Some 0)
    ∷ (scale 65536 (term (codes "foxglove")), Some 327680)
    ∷ (range 1 (number 7) (number 7), Some 0)
    ∷ (range 1 (number 8) unbounded, None)
    ∷ (range 1 unbounded (number 6), None)
    ∷ (range 2 (bytes (codes "a")) (bytes (codes "m")), Some 0)
    ∷ (range 2 (bytes (codes "ma")) unbounded, None)
    ∷ (range 2 unbounded (bytes (codes "l")), None)
    ∷ (range 2 unbounded unbounded, Some 0)
    ∷ (range 3 unbounded unbounded, None)
    ∷ []

plain_scores : map (λ row. score row.0 Scheme.Nnn 1 one) plainly ≡ map (λ row. row.1) plainly
plain_scores = refl

-- what the schemes make of wdfs
abbrev under_schemes : List (Scheme × Tree × Option ℕ)
under_schemes =
    (Scheme.Bool, parts Form.Or (trees_from ((term (codes "red")) ∷ (term (codes "fox")) ∷ [])), Some 0)
    ∷ (Scheme.Coord, parts Form.Or (trees_from ((term (codes "red")) ∷ (term (codes "fox")) ∷ [])), Some 2)
    ∷ (Scheme.Coord, wildcard (codes "fox"), Some 1)
    ∷ (Scheme.Coord, synonym (codes "red" ∷ codes "hen" ∷ []), Some 1)
    ∷ (Scheme.Coord, near 2 (codes "red" ∷ codes "fox" ∷ []), Some 2)
    ∷ (Scheme.Coord, scale 5 (parts Form.And (trees_from ((term (codes "red")) ∷ (term (codes "fox")) ∷ []))), Some 10)
    ∷ (Scheme.Bool, scale 5 (term (codes "red")), Some 0)
    ∷ (Scheme.Nnn, scale 5 (term (codes "red")), Some 10)
    ∷ (Scheme.Bnn, term (codes "red"), Some 1)
    ∷ (Scheme.Bnn, wildcard (codes "fox"), Some 1)
    ∷ (Scheme.Bnn, synonym (codes "red" ∷ codes "hen" ∷ []), Some 1)
    ∷ (Scheme.Bnn, near 2 (codes "red" ∷ codes "fox" ∷ []), Some 2)
    ∷ (Scheme.Bnn, scale 5 (term (codes "red")), Some 5)
    ∷ (Scheme.Snn, term (codes "red"), Some 4)
    ∷ (Scheme.Snn, wildcard (codes "fox"), Some 64)
    ∷ (Scheme.Snn, synonym (codes "red" ∷ codes "hen" ∷ []), Some 9)
    ∷ (Scheme.Snn, near 2 (codes "red" ∷ codes "fox" ∷ []), Some 13)
    ∷ (Scheme.Snn, parts Form.Or (trees_from ((term (codes "red")) ∷ (term (codes "hen")) ∷ [])), Some 5)
    ∷ (Scheme.Snn, scale 5 (term (codes "red")), Some 20)
    ∷ []

scheme_scores : map (λ row. score row.1 row.0 1 one) under_schemes ≡ map (λ row. row.2) under_schemes
scheme_scores = refl

-- the term of a filter has the wdf 0
filter_bnn : map (λ d. score (term (codes "Len")) Scheme.Bnn 1 d.1) four ≡ Some 0 ∷ Some 0 ∷ None ∷ Some 0 ∷ []
filter_bnn = refl

filter_coord : map (λ d. score (term (codes "Len")) Scheme.Coord 1 d.1) four ≡ Some 1 ∷ Some 1 ∷ None ∷ Some 1 ∷ []
filter_coord = refl
