-- Texts and their queries, worked out by hand from the rules.
use Rattle.std.proofs.Common.{◌≡◌, ℕ, List, [], ◌∷◌, ◌++◌, Result, Ok, Err, map, refl, codes}
use Rattle.std.specs.Prelude.{encode_utf8_all}
use Rattle.ucd_table.specs.Rows.{value_in}
use Rattle.ucd_category.specs.GeneralCategory.{general_category}
use Rattle.ucd_category.specs.GeneralCategoryRows.{general_category_rows}
use lib.Utf8.{encode}
use Rattle.sk_text.specs.Terms.{term_of}
use Rattle.sk_stem.specs.Terms.{stem_term}
use Rattle.sk_base.specs.declared.schema.Schema.{Schema}
use Rattle.sk_base.specs.declared.find.Join.{Join}
use Rattle.sk_query.specs.declared.form.Form.TheVariants as Form
use Rattle.sk_query.specs.Trees.{Tree, nothing, all, term, wildcard, near, phrase, range, unbounded, number, bytes, trees_from, parts}
use Rattle.sk_grammar.specs.declared.fault.FaultKind.{FaultKind}
use Rattle.sk_grammar.specs.Cutting.{tokens_in}
use Rattle.sk_grammar.specs.Meaning.{meant_in}
use Rattle.sk_grammar.proofs.ExampleFields.{schema, stemming}

-- A text with its query, or with its first fault.
record Row : Type 0 where
  text : List ℕ
  meant : Result Tree (FaultKind × ℕ)

abbrev row : List ℕ → Tree → Row
row text query = record { text = text; meant = Ok query }

abbrev refused : List ℕ → FaultKind → ℕ → Row
refused text fault place = record { text = text; meant = Err (fault, place) }

-- These texts mean what stands beside them.
abbrev AreMeantUnder : Schema → Join → List Row → Type 0
AreMeantUnder schema join rows = map (λ (r : Row). meant_in schema join (tokens_in schema r.text)) rows ≡ map Row.meant rows

abbrev AreMeant : Join → List Row → Type 0
AreMeant = AreMeantUnder schema

-- A text with a fault has no query.
none : AreMeant Join.Or (
    refused (codes "red AND") FaultKind.MissingOperand 4 ∷
    refused (codes "(red") FaultKind.UnclosedBracket 0 ∷
    refused (codes "a AND") FaultKind.MissingOperand 2 ∷
    [])
unfolding value_in general_category general_category_rows encode
none = refl

-- Each kind of unit alone.
units : AreMeant Join.Or (
    row (codes "") (nothing) ∷
    row (codes "?!") (nothing) ∷
    row (codes "red") (term (term_of (codes "red"))) ∷
    row (codes "Red") (term (term_of (codes "Red"))) ∷
    row (codes "red*") (wildcard (term_of (codes "red"))) ∷
    row (codes "a.b") (phrase 2 ((term_of (codes "a")) ∷ (term_of (codes "b")) ∷ [])) ∷
    row (codes "\"a b c\"") (phrase 3 ((term_of (codes "a")) ∷ (term_of (codes "b")) ∷ (term_of (codes "c")) ∷ [])) ∷
    row (codes "\"a\"") (term (term_of (codes "a"))) ∷
    row (codes "\"a") (term (term_of (codes "a"))) ∷
    row (codes "a NEAR b") (near 11 ((term_of (codes "a")) ∷ (term_of (codes "b")) ∷ [])) ∷
    row (codes "a NEAR/3 b NEAR c") (near 12 ((term_of (codes "a")) ∷ (term_of (codes "b")) ∷ (term_of (codes "c")) ∷ [])) ∷
    row (codes "a NEAR b NEAR/3 c") (near 12 ((term_of (codes "a")) ∷ (term_of (codes "b")) ∷ (term_of (codes "c")) ∷ [])) ∷
    row (codes "a ADJ/2 b") (phrase 3 ((term_of (codes "a")) ∷ (term_of (codes "b")) ∷ [])) ∷
    row (codes "a ADJ/1 b ADJ/4 c ADJ/2 d") (phrase 7 ((term_of (codes "a")) ∷ (term_of (codes "b")) ∷ (term_of (codes "c")) ∷ (term_of (codes "d")) ∷ [])) ∷
    row (codes "(a)") (term (term_of (codes "a"))) ∷
    row (codes "((a))") (term (term_of (codes "a"))) ∷
    row (codes "(a b)") (parts Form.Or (trees_from (term (term_of (codes "a")) ∷ term (term_of (codes "b")) ∷ []))) ∷
    row (codes "()") (nothing) ∷
    row (codes "(())") (nothing) ∷
    [])
unfolding value_in general_category general_category_rows encode
units = refl

-- The prefix is that of the token, or of the innermost bracket with a field.
fields_of_units : AreMeant Join.Or (
    row (codes "title:red") (term ((codes "S") ++ (term_of (codes "red")))) ∷
    row (codes "title:red*") (wildcard ((codes "S") ++ (term_of (codes "red")))) ∷
    row (codes "title:a.b") (phrase 2 (((codes "S") ++ (term_of (codes "a"))) ∷ ((codes "S") ++ (term_of (codes "b"))) ∷ [])) ∷
    row (codes "title:\"a b\"") (phrase 2 (((codes "S") ++ (term_of (codes "a"))) ∷ ((codes "S") ++ (term_of (codes "b"))) ∷ [])) ∷
    row (codes "title:\"a\"") (term ((codes "S") ++ (term_of (codes "a")))) ∷
    row (codes "title:(a body:b c)") (parts Form.Or (trees_from (term ((codes "S") ++ (term_of (codes "a"))) ∷ term (term_of (codes "b")) ∷ term ((codes "S") ++ (term_of (codes "c"))) ∷ []))) ∷
    row (codes "title:(a (b))") (parts Form.Or (trees_from (term ((codes "S") ++ (term_of (codes "a"))) ∷ term ((codes "S") ++ (term_of (codes "b"))) ∷ []))) ∷
    row (codes "title:(body:(a) b)") (parts Form.Or (trees_from (term (term_of (codes "a")) ∷ term ((codes "S") ++ (term_of (codes "b"))) ∷ []))) ∷
    row (codes "title:(a) b") (parts Form.Or (trees_from (term ((codes "S") ++ (term_of (codes "a"))) ∷ term (term_of (codes "b")) ∷ []))) ∷
    row (codes "title:(a NEAR b)") (near 11 (((codes "S") ++ (term_of (codes "a"))) ∷ ((codes "S") ++ (term_of (codes "b"))) ∷ [])) ∷
    row (codes "title:a NEAR b") (near 11 (((codes "S") ++ (term_of (codes "a"))) ∷ (term_of (codes "b")) ∷ [])) ∷
    [])
unfolding value_in general_category general_category_rows encode
fields_of_units = refl

-- Filters and ranges, one group for each field, in the order of their first.
filters : AreMeant Join.Or (
    row (codes "lang:en") (parts Form.Filter (trees_from (all ∷ term (codes "Len") ∷ []))) ∷
    row (codes "lang:en den") (parts Form.Filter (trees_from (term (term_of (codes "den")) ∷ term (codes "Len") ∷ []))) ∷
    row (codes "den lang:en") (parts Form.Filter (trees_from (term (term_of (codes "den")) ∷ term (codes "Len") ∷ []))) ∷
    row (codes "lang:en lang:fr den") (parts Form.Filter (trees_from (term (term_of (codes "den")) ∷ parts Form.Or (trees_from (term (codes "Len") ∷ term (codes "Lfr") ∷ [])) ∷ []))) ∷
    row (codes "lang:en year:5 lang:fr den") (parts Form.Filter (trees_from (term (term_of (codes "den")) ∷ parts Form.Or (trees_from (term (codes "Len") ∷ term (codes "Lfr") ∷ [])) ∷ range 0 (number 5) (number 5) ∷ []))) ∷
    row (codes "-lang:fr den") (parts Form.AndNot (trees_from (term (term_of (codes "den")) ∷ term (codes "Lfr") ∷ []))) ∷
    row (codes "+lang:en den") (parts Form.Filter (trees_from (term (term_of (codes "den")) ∷ term (codes "Len") ∷ []))) ∷
    row (codes "+lang:en -lang:fr") (parts Form.AndNot (trees_from (parts Form.Filter (trees_from (all ∷ term (codes "Len") ∷ [])) ∷ term (codes "Lfr") ∷ []))) ∷
    row (codes "-lang:fr") (parts Form.AndNot (trees_from (all ∷ term (codes "Lfr") ∷ []))) ∷
    row (codes "cat:Dog") (parts Form.Filter (trees_from (all ∷ term (codes "XCAT:Dog") ∷ []))) ∷
    row (codes "cat:dog") (parts Form.Filter (trees_from (all ∷ term (codes "XCATdog") ∷ []))) ∷
    row (codes "lang:\"\"") (parts Form.Filter (trees_from (all ∷ term (codes "L") ∷ []))) ∷
    row (codes "title:(lang:en a)") (parts Form.Filter (trees_from (term ((codes "S") ++ (term_of (codes "a"))) ∷ term (codes "Len") ∷ []))) ∷
    row (codes "year:1950..1959") (parts Form.Filter (trees_from (all ∷ range 0 (number 1950) (number 1959) ∷ []))) ∷
    row (codes "year:..5") (parts Form.Filter (trees_from (all ∷ range 0 unbounded (number 5) ∷ []))) ∷
    row (codes "year:5..") (parts Form.Filter (trees_from (all ∷ range 0 (number 5) unbounded ∷ []))) ∷
    row (codes "year:..") (parts Form.Filter (trees_from (all ∷ range 0 unbounded unbounded ∷ []))) ∷
    row (codes "year:9..1") (parts Form.Filter (trees_from (all ∷ range 0 (number 9) (number 1) ∷ []))) ∷
    row (codes "site:a..b") (parts Form.Filter (trees_from (all ∷ range 1 (bytes (codes "a")) (bytes (codes "b")) ∷ []))) ∷
    row (codes "site:x") (parts Form.Filter (trees_from (all ∷ range 1 (bytes (codes "x")) (bytes (codes "x")) ∷ []))) ∷
    row (codes "site:..") (parts Form.Filter (trees_from (all ∷ range 1 unbounded unbounded ∷ []))) ∷
    row (codes "site:a..b..c") (parts Form.Filter (trees_from (all ∷ range 1 (bytes (codes "a")) (bytes (codes "b..c")) ∷ []))) ∷
    [])
unfolding value_in general_category general_category_rows encode
filters = refl

-- Loved, plain and hated units, where a document need not have all.
marked : AreMeant Join.Or (
    row (codes "red fox") (parts Form.Or (trees_from (term (term_of (codes "red")) ∷ term (term_of (codes "fox")) ∷ []))) ∷
    row (codes "+red fox") (parts Form.AndMaybe (trees_from (term (term_of (codes "red")) ∷ term (term_of (codes "fox")) ∷ []))) ∷
    row (codes "fox +red") (parts Form.AndMaybe (trees_from (term (term_of (codes "red")) ∷ term (term_of (codes "fox")) ∷ []))) ∷
    row (codes "+red") (term (term_of (codes "red"))) ∷
    row (codes "+a +b") (parts Form.And (trees_from (term (term_of (codes "a")) ∷ term (term_of (codes "b")) ∷ []))) ∷
    row (codes "+a +b c d") (parts Form.AndMaybe (trees_from (parts Form.And (trees_from (term (term_of (codes "a")) ∷ term (term_of (codes "b")) ∷ [])) ∷ parts Form.Or (trees_from (term (term_of (codes "c")) ∷ term (term_of (codes "d")) ∷ [])) ∷ []))) ∷
    row (codes "red -fox") (parts Form.AndNot (trees_from (term (term_of (codes "red")) ∷ term (term_of (codes "fox")) ∷ []))) ∷
    row (codes "-red") (parts Form.AndNot (trees_from (all ∷ term (term_of (codes "red")) ∷ []))) ∷
    row (codes "-a -b") (parts Form.AndNot (trees_from (all ∷ term (term_of (codes "a")) ∷ term (term_of (codes "b")) ∷ []))) ∷
    row (codes "+a b -c") (parts Form.AndNot (trees_from (parts Form.AndMaybe (trees_from (term (term_of (codes "a")) ∷ term (term_of (codes "b")) ∷ [])) ∷ term (term_of (codes "c")) ∷ []))) ∷
    row (codes "+(a b) -c d") (parts Form.AndNot (trees_from (parts Form.AndMaybe (trees_from (parts Form.Or (trees_from (term (term_of (codes "a")) ∷ term (term_of (codes "b")) ∷ [])) ∷ term (term_of (codes "d")) ∷ [])) ∷ term (term_of (codes "c")) ∷ []))) ∷
    row (codes "+a lang:en b -c") (parts Form.AndNot (trees_from (parts Form.Filter (trees_from (parts Form.AndMaybe (trees_from (term (term_of (codes "a")) ∷ term (term_of (codes "b")) ∷ [])) ∷ term (codes "Len") ∷ [])) ∷ term (term_of (codes "c")) ∷ []))) ∷
    row (codes "-(a b) c") (parts Form.AndNot (trees_from (term (term_of (codes "c")) ∷ parts Form.Or (trees_from (term (term_of (codes "a")) ∷ term (term_of (codes "b")) ∷ [])) ∷ []))) ∷
    row (codes "+a NEAR b c") (parts Form.AndMaybe (trees_from (near 11 ((term_of (codes "a")) ∷ (term_of (codes "b")) ∷ []) ∷ term (term_of (codes "c")) ∷ []))) ∷
    row (codes "-\"a b\" c.d") (parts Form.AndNot (trees_from (phrase 2 ((term_of (codes "c")) ∷ (term_of (codes "d")) ∷ []) ∷ phrase 2 ((term_of (codes "a")) ∷ (term_of (codes "b")) ∷ []) ∷ []))) ∷
    row (codes "+() a") (term (term_of (codes "a"))) ∷
    row (codes "a () b") (parts Form.Or (trees_from (term (term_of (codes "a")) ∷ term (term_of (codes "b")) ∷ []))) ∷
    row (codes "(()) a") (parts Form.Or (trees_from (nothing ∷ term (term_of (codes "a")) ∷ []))) ∷
    row (codes "main()") (term (term_of (codes "main"))) ∷
    [])
unfolding value_in general_category general_category_rows encode
marked = refl

-- The same where a document must have all.
all_wanted : AreMeant Join.And (
    row (codes "red fox") (parts Form.And (trees_from (term (term_of (codes "red")) ∷ term (term_of (codes "fox")) ∷ []))) ∷
    row (codes "+red fox") (parts Form.And (trees_from (term (term_of (codes "red")) ∷ term (term_of (codes "fox")) ∷ []))) ∷
    row (codes "a +b c") (parts Form.And (trees_from (term (term_of (codes "a")) ∷ term (term_of (codes "b")) ∷ term (term_of (codes "c")) ∷ []))) ∷
    row (codes "a -b") (parts Form.AndNot (trees_from (term (term_of (codes "a")) ∷ term (term_of (codes "b")) ∷ []))) ∷
    row (codes "-a") (parts Form.AndNot (trees_from (all ∷ term (term_of (codes "a")) ∷ []))) ∷
    row (codes "a lang:en -b") (parts Form.AndNot (trees_from (parts Form.Filter (trees_from (term (term_of (codes "a")) ∷ term (codes "Len") ∷ [])) ∷ term (term_of (codes "b")) ∷ []))) ∷
    row (codes "lang:en lang:fr") (parts Form.Filter (trees_from (all ∷ parts Form.Or (trees_from (term (codes "Len") ∷ term (codes "Lfr") ∷ [])) ∷ []))) ∷
    row (codes "(a b) c") (parts Form.And (trees_from (parts Form.And (trees_from (term (term_of (codes "a")) ∷ term (term_of (codes "b")) ∷ [])) ∷ term (term_of (codes "c")) ∷ []))) ∷
    row (codes "a OR b c") (parts Form.Or (trees_from (term (term_of (codes "a")) ∷ parts Form.And (trees_from (term (term_of (codes "b")) ∷ term (term_of (codes "c")) ∷ [])) ∷ []))) ∷
    row (codes "") (nothing) ∷
    row (codes "a NOT b c") (parts Form.AndNot (trees_from (term (term_of (codes "a")) ∷ parts Form.And (trees_from (term (term_of (codes "b")) ∷ term (term_of (codes "c")) ∷ [])) ∷ []))) ∷
    [])
unfolding value_in general_category general_category_rows encode
all_wanted = refl

-- OR binds least, then XOR, and AND and NOT most.
split : AreMeant Join.Or (
    row (codes "a OR b") (parts Form.Or (trees_from (term (term_of (codes "a")) ∷ term (term_of (codes "b")) ∷ []))) ∷
    row (codes "a OR b OR c") (parts Form.Or (trees_from (term (term_of (codes "a")) ∷ term (term_of (codes "b")) ∷ term (term_of (codes "c")) ∷ []))) ∷
    row (codes "a XOR b XOR c") (parts Form.Xor (trees_from (term (term_of (codes "a")) ∷ term (term_of (codes "b")) ∷ term (term_of (codes "c")) ∷ []))) ∷
    row (codes "a OR b XOR c") (parts Form.Or (trees_from (term (term_of (codes "a")) ∷ parts Form.Xor (trees_from (term (term_of (codes "b")) ∷ term (term_of (codes "c")) ∷ [])) ∷ []))) ∷
    row (codes "a XOR b OR c") (parts Form.Or (trees_from (parts Form.Xor (trees_from (term (term_of (codes "a")) ∷ term (term_of (codes "b")) ∷ [])) ∷ term (term_of (codes "c")) ∷ []))) ∷
    row (codes "a AND b AND c") (parts Form.And (trees_from (term (term_of (codes "a")) ∷ term (term_of (codes "b")) ∷ term (term_of (codes "c")) ∷ []))) ∷
    row (codes "a b AND c") (parts Form.And (trees_from (parts Form.Or (trees_from (term (term_of (codes "a")) ∷ term (term_of (codes "b")) ∷ [])) ∷ term (term_of (codes "c")) ∷ []))) ∷
    row (codes "a b c OR d") (parts Form.Or (trees_from (parts Form.Or (trees_from (term (term_of (codes "a")) ∷ term (term_of (codes "b")) ∷ term (term_of (codes "c")) ∷ [])) ∷ term (term_of (codes "d")) ∷ []))) ∷
    row (codes "a AND b OR c AND d") (parts Form.Or (trees_from (parts Form.And (trees_from (term (term_of (codes "a")) ∷ term (term_of (codes "b")) ∷ [])) ∷ parts Form.And (trees_from (term (term_of (codes "c")) ∷ term (term_of (codes "d")) ∷ [])) ∷ []))) ∷
    row (codes "a AND b XOR c") (parts Form.Xor (trees_from (parts Form.And (trees_from (term (term_of (codes "a")) ∷ term (term_of (codes "b")) ∷ [])) ∷ term (term_of (codes "c")) ∷ []))) ∷
    row (codes "(a OR b) AND c") (parts Form.And (trees_from (parts Form.Or (trees_from (term (term_of (codes "a")) ∷ term (term_of (codes "b")) ∷ [])) ∷ term (term_of (codes "c")) ∷ []))) ∷
    row (codes "a AND (b OR c)") (parts Form.And (trees_from (term (term_of (codes "a")) ∷ parts Form.Or (trees_from (term (term_of (codes "b")) ∷ term (term_of (codes "c")) ∷ [])) ∷ []))) ∷
    row (codes "a AND ()") (parts Form.And (trees_from (term (term_of (codes "a")) ∷ nothing ∷ []))) ∷
    row (codes "() OR a") (parts Form.Or (trees_from (nothing ∷ term (term_of (codes "a")) ∷ []))) ∷
    row (codes "a AND -b") (parts Form.And (trees_from (term (term_of (codes "a")) ∷ parts Form.AndNot (trees_from (all ∷ term (term_of (codes "b")) ∷ [])) ∷ []))) ∷
    row (codes "a AND lang:en") (parts Form.And (trees_from (term (term_of (codes "a")) ∷ parts Form.Filter (trees_from (all ∷ term (codes "Len") ∷ [])) ∷ []))) ∷
    [])
unfolding value_in general_category general_category_rows encode
split = refl

-- A run behind NOT is taken away; AND NOT is NOT.
excluded : AreMeant Join.Or (
    row (codes "a NOT b") (parts Form.AndNot (trees_from (term (term_of (codes "a")) ∷ term (term_of (codes "b")) ∷ []))) ∷
    row (codes "a AND NOT b") (parts Form.AndNot (trees_from (term (term_of (codes "a")) ∷ term (term_of (codes "b")) ∷ []))) ∷
    row (codes "NOT a") (parts Form.AndNot (trees_from (all ∷ term (term_of (codes "a")) ∷ []))) ∷
    row (codes "NOT a b") (parts Form.AndNot (trees_from (all ∷ parts Form.Or (trees_from (term (term_of (codes "a")) ∷ term (term_of (codes "b")) ∷ [])) ∷ []))) ∷
    row (codes "a NOT b NOT c") (parts Form.AndNot (trees_from (term (term_of (codes "a")) ∷ term (term_of (codes "b")) ∷ term (term_of (codes "c")) ∷ []))) ∷
    row (codes "NOT a AND b") (parts Form.AndNot (trees_from (term (term_of (codes "b")) ∷ term (term_of (codes "a")) ∷ []))) ∷
    row (codes "a NOT b AND c") (parts Form.AndNot (trees_from (parts Form.And (trees_from (term (term_of (codes "a")) ∷ term (term_of (codes "c")) ∷ [])) ∷ term (term_of (codes "b")) ∷ []))) ∷
    row (codes "a NOT b c") (parts Form.AndNot (trees_from (term (term_of (codes "a")) ∷ parts Form.Or (trees_from (term (term_of (codes "b")) ∷ term (term_of (codes "c")) ∷ [])) ∷ []))) ∷
    row (codes "a OR NOT b") (parts Form.Or (trees_from (term (term_of (codes "a")) ∷ parts Form.AndNot (trees_from (all ∷ term (term_of (codes "b")) ∷ [])) ∷ []))) ∷
    row (codes "a NOT -b") (parts Form.AndNot (trees_from (term (term_of (codes "a")) ∷ parts Form.AndNot (trees_from (all ∷ term (term_of (codes "b")) ∷ [])) ∷ []))) ∷
    row (codes "a NOT lang:en") (parts Form.AndNot (trees_from (term (term_of (codes "a")) ∷ parts Form.Filter (trees_from (all ∷ term (codes "Len") ∷ [])) ∷ []))) ∷
    row (codes "(NOT a) b") (parts Form.Or (trees_from (parts Form.AndNot (trees_from (all ∷ term (term_of (codes "a")) ∷ [])) ∷ term (term_of (codes "b")) ∷ []))) ∷
    [])
unfolding value_in general_category general_category_rows encode
excluded = refl

-- Where stems are asked for, a word that stands alone and has no capital in front asks for its stem.
stemmed : AreMeantUnder stemming Join.Or (
    row (codes "hopes +Hope") (parts Form.AndMaybe (trees_from (term (term_of (codes "Hope")) ∷ term (stem_term [] (term_of (codes "hopes"))) ∷ []))) ∷
    row (codes "title:cats") (term (stem_term (codes "S") (term_of (codes "cats")))) ∷
    row (codes "title:Cats") (term ((codes "S") ++ (term_of (codes "Cats")))) ∷
    row (codes "title:(cats body:dogs)") (parts Form.Or (trees_from (term (stem_term (codes "S") (term_of (codes "cats"))) ∷ term (stem_term [] (term_of (codes "dogs"))) ∷ []))) ∷
    row (codes "-cats AND (dogs)") (parts Form.And (trees_from (parts Form.AndNot (trees_from (all ∷ term (stem_term [] (term_of (codes "cats"))) ∷ [])) ∷ term (stem_term [] (term_of (codes "dogs"))) ∷ []))) ∷
    row (codes "caTS") (term (stem_term [] (term_of (codes "caTS")))) ∷
    row (codes "_Cats") (term (stem_term [] (term_of (codes "_Cats")))) ∷
    row (codes "Écats") (term (term_of (encode_utf8_all (codes "Écats")))) ∷
    row (codes "ǅa") (term (stem_term [] (term_of (encode_utf8_all (codes "ǅa"))))) ∷
    row (codes "lang:cats") (parts Form.Filter (trees_from (all ∷ term (codes "Lcats") ∷ []))) ∷
    [])
unfolding value_in general_category general_category_rows encode
stemmed = refl

-- Nothing else is stemmed: no quote, no words that are joined, no wildcard, no word of a chain.
unstemmed : AreMeantUnder stemming Join.Or (
    row (codes "\"cats\"") (term (term_of (codes "cats"))) ∷
    row (codes "\"cats dogs\"") (phrase 2 (term_of (codes "cats") ∷ term_of (codes "dogs") ∷ [])) ∷
    row (codes "cats-dogs") (phrase 2 (term_of (codes "cats") ∷ term_of (codes "dogs") ∷ [])) ∷
    row (codes "cats*") (wildcard (term_of (codes "cats"))) ∷
    row (codes "cats NEAR dogs") (near 11 (term_of (codes "cats") ∷ term_of (codes "dogs") ∷ [])) ∷
    row (codes "cats ADJ dogs ADJ cows") (phrase 12 (term_of (codes "cats") ∷ term_of (codes "dogs") ∷ term_of (codes "cows") ∷ [])) ∷
    row (codes "cats dogs ADJ cows") (parts Form.Or (trees_from (term (stem_term [] (term_of (codes "cats"))) ∷ phrase 11 (term_of (codes "dogs") ∷ term_of (codes "cows") ∷ []) ∷ []))) ∷
    [])
unfolding value_in general_category general_category_rows encode
unstemmed = refl
