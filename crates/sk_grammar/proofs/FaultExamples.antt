-- Texts and their faults, worked out by hand from the table.
use Rattle.std.proofs.Common.{◌≡◌, ℕ, List, [], ◌∷◌, ◌++◌, Option, false, Some, None, map, refl, codes, replicate}
use Rattle.ucd_table.specs.Rows.{value_in}
use Rattle.ucd_category.specs.GeneralCategory.{general_category}
use Rattle.ucd_category.specs.GeneralCategoryRows.{general_category_rows}
use lib.Utf8.{encode}
use Rattle.sk_grammar.specs.declared.fault.FaultKind.{FaultKind}
use Rattle.sk_grammar.specs.declared.token.Kind.{Kind}
use Rattle.sk_grammar.specs.Cutting.{tokens_in}
use Rattle.sk_grammar.specs.Faults.{fault_at, fault_in}
use Rattle.sk_grammar.proofs.ExampleFields.{schema}

-- A text with its fault, and the byte of that.
record Row : Type 0 where
  text : List ℕ
  fault : Option (FaultKind × ℕ)

abbrev row : List ℕ → Option (FaultKind × ℕ) → Row
row text fault = record { text = text; fault = fault }

-- The faults of these texts are those that stand beside them.
abbrev AreFaults : List Row → Type 0
AreFaults rows = map (λ (r : Row). fault_in schema (tokens_in schema r.text)) rows ≡ map Row.fault rows

-- Texts without a fault.
sound : AreFaults (
    row (codes "") None ∷
    row (codes "red fox") None ∷
    row (codes "()") None ∷
    row (codes "(a)") None ∷
    row (codes "\"(\" a") None ∷
    row (codes "lang:\"\"") None ∷
    row (codes "main()") None ∷
    [])
unfolding value_in general_category general_category_rows encode
sound = refl

-- A bracket that closes none, and one that is never closed.
brackets : AreFaults (
    row (codes "red)") (Some (FaultKind.StrayBracket, 3)) ∷
    row (codes "()) red") (Some (FaultKind.StrayBracket, 2)) ∷
    row (codes "€)") (Some (FaultKind.StrayBracket, 3)) ∷
    row (codes "(red") (Some (FaultKind.UnclosedBracket, 0)) ∷
    row (codes "((a)") (Some (FaultKind.UnclosedBracket, 0)) ∷
    row (codes "(a)(b") (Some (FaultKind.UnclosedBracket, 3)) ∷
    row (codes "a title:(b") (Some (FaultKind.UnclosedBracket, 2)) ∷
    [])
unfolding value_in general_category general_category_rows encode
brackets = refl

-- AND, OR and XOR between two sides, NOT before one, and a mark before a unit.
operands : AreFaults (
    row (codes "a AND b") None ∷
    row (codes "a OR NOT b") None ∷
    row (codes "a AND NOT b") None ∷
    row (codes "a XOR +b") None ∷
    row (codes "(a) AND (b)") None ∷
    row (codes "lang:en OR year:5") None ∷
    row (codes "a AND ()") None ∷
    row (codes "() AND a") None ∷
    row (codes "a NOT b") None ∷
    row (codes "NOT -a") None ∷
    row (codes "-a OR -b") None ∷
    row (codes "red AND") (Some (FaultKind.MissingOperand, 4)) ∷
    row (codes "AND red") (Some (FaultKind.MissingOperand, 0)) ∷
    row (codes "a OR OR b") (Some (FaultKind.MissingOperand, 2)) ∷
    row (codes "a AND OR b") (Some (FaultKind.MissingOperand, 2)) ∷
    row (codes "a XOR") (Some (FaultKind.MissingOperand, 2)) ∷
    row (codes "(AND a)") (Some (FaultKind.MissingOperand, 1)) ∷
    row (codes "(a AND)") (Some (FaultKind.MissingOperand, 3)) ∷
    row (codes "NOT AND a") (Some (FaultKind.MissingOperand, 0)) ∷
    row (codes "é AND") (Some (FaultKind.MissingOperand, 3)) ∷
    row (codes "NOT") (Some (FaultKind.MissingOperand, 0)) ∷
    row (codes "a NOT") (Some (FaultKind.MissingOperand, 2)) ∷
    row (codes "NOT NOT a") (Some (FaultKind.MissingOperand, 0)) ∷
    row (codes "red (NOT) fox") (Some (FaultKind.MissingOperand, 5)) ∷
    row (codes "NOT OR a") (Some (FaultKind.MissingOperand, 0)) ∷
    row (codes "+AND") (Some (FaultKind.MissingOperand, 0)) ∷
    row (codes "-NOT a") (Some (FaultKind.MissingOperand, 0)) ∷
    row (codes "a +OR") (Some (FaultKind.MissingOperand, 2)) ∷
    row (codes "a NEAR AND b") (Some (FaultKind.BadNear, 2)) ∷
    [])
unfolding value_in general_category general_category_rows encode
operands = refl

-- NEAR and ADJ between two words, with a distance, and one of them in a chain.
distances : AreFaults (
    row (codes "a NEAR b") None ∷
    row (codes "a ADJ b ADJ c") None ∷
    row (codes "a NEAR/10000 b") None ∷
    row (codes "body:a NEAR title:b") None ∷
    row (codes "a NEAR b c ADJ d") None ∷
    row (codes "red NEAR (fox)") (Some (FaultKind.BadNear, 4)) ∷
    row (codes "NEAR a") (Some (FaultKind.BadNear, 0)) ∷
    row (codes "a NEAR") (Some (FaultKind.BadNear, 2)) ∷
    row (codes "a* NEAR b") (Some (FaultKind.BadNear, 3)) ∷
    row (codes "a NEAR \"b\"") (Some (FaultKind.BadNear, 2)) ∷
    row (codes "a ADJ b.c") (Some (FaultKind.BadNear, 2)) ∷
    row (codes "(a) ADJ b") (Some (FaultKind.BadNear, 4)) ∷
    row (codes "a NEAR -b") (Some (FaultKind.BadNear, 2)) ∷
    row (codes "a NEAR/0 b") (Some (FaultKind.BadNear, 2)) ∷
    row (codes "a NEAR/10001 b") (Some (FaultKind.BadNear, 2)) ∷
    row (codes "a ADJ/99999999999 b") (Some (FaultKind.BadNear, 2)) ∷
    row (codes "a NEAR b ADJ c") (Some (FaultKind.BadNear, 9)) ∷
    row (codes "a ADJ b NEAR c") (Some (FaultKind.BadNear, 8)) ∷
    [])
unfolding value_in general_category general_category_rows encode
distances = refl

-- A bound of a number is empty or a number of 64 bits; one of a word is any text.
bounds : AreFaults (
    row (codes "year:1..2") None ∷
    row (codes "year:1990") None ∷
    row (codes "year:..5") None ∷
    row (codes "year:5..") None ∷
    row (codes "year:..") None ∷
    row (codes "year:18446744073709551615") None ∷
    row (codes "year:007") None ∷
    row (codes "site:x..y") None ∷
    row (codes "site:(") None ∷
    row (codes "year:x..") (Some (FaultKind.BadRange, 0)) ∷
    row (codes "year:18446744073709551616") (Some (FaultKind.BadRange, 0)) ∷
    row (codes "year:1..2..3") (Some (FaultKind.BadRange, 0)) ∷
    row (codes "year:1...2") (Some (FaultKind.BadRange, 0)) ∷
    row (codes "year:(5") (Some (FaultKind.BadRange, 0)) ∷
    row (codes "year:+5") (Some (FaultKind.BadRange, 0)) ∷
    row (codes "year:5.") (Some (FaultKind.BadRange, 0)) ∷
    row (codes "a year:x") (Some (FaultKind.BadRange, 2)) ∷
    [])
unfolding value_in general_category general_category_rows encode
bounds = refl

-- Of two faults the one at the earlier place, whatever its row.
two_places : AreFaults (
    row (codes "year:x AND") (Some (FaultKind.BadRange, 0)) ∷
    row (codes "a AND (b") (Some (FaultKind.UnclosedBracket, 6)) ∷
    row (codes ") AND") (Some (FaultKind.StrayBracket, 0)) ∷
    row (codes "AND )") (Some (FaultKind.MissingOperand, 0)) ∷
    row (codes "a AND )") (Some (FaultKind.MissingOperand, 2)) ∷
    row (codes "(AND") (Some (FaultKind.UnclosedBracket, 0)) ∷
    row (codes "(a NEAR/0 b") (Some (FaultKind.UnclosedBracket, 0)) ∷
    row (codes "a NEAR/0 b)") (Some (FaultKind.BadNear, 2)) ∷
    row (codes "a OR AND") (Some (FaultKind.MissingOperand, 2)) ∷
    [])
unfolding value_in general_category general_category_rows encode
two_places = refl

-- So many brackets, the word `a`, and as many brackets that close.
abbrev nested : ℕ → List ℕ
nested n = replicate n 40 ++ codes "a" ++ replicate n 41

-- A hundred brackets may be open, and no more.
depths : AreFaults (
    row (nested 100) None ∷
    row (nested 101) (Some (FaultKind.TooDeep, 100)) ∷
    row (codes "€ " ++ nested 101) (Some (FaultKind.TooDeep, 104)) ∷
    [])
unfolding value_in general_category general_category_rows encode
depths = refl

-- So many words before a token.
abbrev behind_words : ℕ → Kind → Option FaultKind
behind_words n k = fault_at schema (replicate n (Kind.Word None [] false)) k []

-- Words without a text.
abbrev several : ℕ → List (List ℕ)
several n = replicate n []

-- There may be 1,024 leaves, each word of a quote or a group counting.
leaves : map (behind_words 1023) (Kind.Word None [] false ∷ Kind.Wild None [] ∷ Kind.Filter 2 [] ∷ Kind.Range 3 [] ∷ Kind.Quote None (several 1) ∷ Kind.Quote None (several 2) ∷ Kind.Joined None (several 2) ∷ [])
    ≡ None ∷ None ∷ None ∷ None ∷ None ∷ Some FaultKind.TooMany ∷ Some FaultKind.TooMany ∷ []
leaves = refl

no_more : map (behind_words 1024) (Kind.Word None [] false ∷ Kind.Filter 2 [] ∷ Kind.Open None ∷ []) ≡ Some FaultKind.TooMany ∷ Some FaultKind.TooMany ∷ Some FaultKind.UnclosedBracket ∷ []
no_more = refl

-- Only the item with which there are too many has that fault.
once : behind_words 1025 (Kind.Word None [] false) ≡ None
once = refl

-- At one token the earlier row wins: a bracket that is never closed and too deep, a bad range that is one leaf too many, and an operator on one side of which nothing is right.
one_place : fault_at schema (replicate 100 (Kind.Open None)) (Kind.Open None) [] ∷ behind_words 1024 (Kind.Range 3 (codes "x")) ∷ fault_at schema (Kind.Word None [] false ∷ Kind.Adj 10 ∷ []) (Kind.Near 0) [] ∷ []
    ≡ Some FaultKind.UnclosedBracket ∷ Some FaultKind.BadRange ∷ Some FaultKind.BadNear ∷ []
one_place = refl
