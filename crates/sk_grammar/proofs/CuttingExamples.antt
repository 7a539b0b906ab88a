-- Texts and their tokens, worked out by hand from the rows.
use Rattle.std.proofs.Common.{◌≡◌, ℕ, List, [], ◌∷◌, true, false, Some, None, map, refl, codes}
use Rattle.std.specs.Prelude.{encode_utf8_all}
use Rattle.ucd_table.specs.Rows.{value_in}
use Rattle.ucd_category.specs.GeneralCategory.{general_category}
use Rattle.ucd_category.specs.GeneralCategoryRows.{general_category_rows}
use lib.Utf8.{encode}
use Rattle.sk_text.specs.Terms.{term_of}
use Rattle.sk_grammar.specs.declared.token.Kind.{Kind}
use Rattle.sk_grammar.specs.declared.token.Token.{Token}
use Rattle.sk_grammar.specs.Cutting.{tokens_in}
use Rattle.sk_grammar.proofs.ExampleFields.{schema}

-- A text with its tokens.
record Row : Type 0 where
  text : List ℕ
  tokens : List Token

-- A token from one byte to another.
abbrev token : Kind → ℕ → ℕ → Token
token kind from to = record { kind = kind; from = from; to = to }

abbrev cut : List ℕ → List Token → Row
cut text tokens = record { text = text; tokens = tokens }

-- The tokens of these texts are those that stand beside them.
abbrev AreCut : List Row → Type 0
AreCut rows = map (λ (row : Row). tokens_in schema row.text) rows ≡ map Row.tokens rows

-- Words stand between other characters; a place is a byte.
words : AreCut (
    cut (codes "") [] ∷
    cut (codes " \t?!,;") [] ∷
    cut (codes "red fox") (token (Kind.Word None (term_of (codes "red")) false) 0 3 ∷ token (Kind.Word None (term_of (codes "fox")) false) 4 7 ∷ []) ∷
    cut (codes "red\u{85}fox") (token (Kind.Word None (term_of (codes "red")) false) 0 3 ∷ token (Kind.Word None (term_of (codes "fox")) false) 5 8 ∷ []) ∷
    cut (codes "a\u{200b}b") (token (Kind.Word None (term_of (codes "a")) false) 0 1 ∷ token (Kind.Word None (term_of (codes "b")) false) 4 5 ∷ []) ∷
    cut (codes "don’t") (token (Kind.Word None (term_of (codes "don't")) false) 0 7 ∷ []) ∷
    cut (codes "a''b") (token (Kind.Word None (term_of (codes "a")) false) 0 1 ∷ token (Kind.Word None (term_of (codes "b")) false) 3 4 ∷ []) ∷
    cut (codes "C++") (token (Kind.Word None (term_of (codes "C")) true) 0 1 ∷ []) ∷
    cut (codes "straße") (token (Kind.Word None (term_of (encode_utf8_all (codes "straße"))) false) 0 7 ∷ []) ∷
    cut (codes "é AND") (token (Kind.Word None (term_of (encode_utf8_all (codes "é"))) false) 0 2 ∷ token (Kind.And) 3 6 ∷ []) ∷
    cut (codes "€)") (token (Kind.Close) 3 4 ∷ []) ∷
    cut (codes "Éa éA") (token (Kind.Word None (term_of (encode_utf8_all (codes "Éa"))) true) 0 3 ∷ token (Kind.Word None (term_of (encode_utf8_all (codes "éA"))) false) 4 7 ∷ []) ∷
    cut (codes "'Red _Red") (token (Kind.Word None (term_of (codes "Red")) true) 1 4 ∷ token (Kind.Word None (term_of (codes "_Red")) false) 5 9 ∷ []) ∷
    cut (codes "ǅa") (token (Kind.Word None (term_of (encode_utf8_all (codes "ǅa"))) false) 0 3 ∷ []) ∷
    cut (codes "😀a") (token (Kind.Word None (term_of (codes "a")) false) 4 5 ∷ []) ∷
    [])
unfolding value_in general_category general_category_rows encode
words = refl

-- Joiners hold words together where nothing else stands between.
joined_words : AreCut (
    cut (codes "me@example.org") (token (Kind.Joined None ((term_of (codes "me")) ∷ (term_of (codes "example")) ∷ (term_of (codes "org")) ∷ [])) 0 14 ∷ []) ∷
    cut (codes "http://a/b") (token (Kind.Joined None ((term_of (codes "http")) ∷ (term_of (codes "a")) ∷ (term_of (codes "b")) ∷ [])) 0 10 ∷ []) ∷
    cut (codes "a\\b") (token (Kind.Joined None ((term_of (codes "a")) ∷ (term_of (codes "b")) ∷ [])) 0 3 ∷ []) ∷
    cut (codes "a.-b") (token (Kind.Joined None ((term_of (codes "a")) ∷ (term_of (codes "b")) ∷ [])) 0 4 ∷ []) ∷
    cut (codes "a. b") (token (Kind.Word None (term_of (codes "a")) false) 0 1 ∷ token (Kind.Word None (term_of (codes "b")) false) 3 4 ∷ []) ∷
    cut (codes ".a.") (token (Kind.Word None (term_of (codes "a")) false) 1 2 ∷ []) ∷
    cut (codes "a.'b") (token (Kind.Word None (term_of (codes "a")) false) 0 1 ∷ token (Kind.Word None (term_of (codes "b")) false) 3 4 ∷ []) ∷
    cut (codes "a'b-c") (token (Kind.Joined None ((term_of (codes "a'b")) ∷ (term_of (codes "c")) ∷ [])) 0 5 ∷ []) ∷
    cut (codes "a+b") (token (Kind.Word None (term_of (codes "a")) false) 0 1 ∷ token (Kind.Word None (term_of (codes "b")) false) 2 3 ∷ []) ∷
    [])
unfolding value_in general_category general_category_rows encode
joined_words = refl

-- A quote ends at the next one or with the text, and separates where no word stands inside.
quotes : AreCut (
    cut (codes "\"red fox\"") (token (Kind.Quote None ((term_of (codes "red")) ∷ (term_of (codes "fox")) ∷ [])) 0 9 ∷ []) ∷
    cut (codes "\"red") (token (Kind.Quote None ((term_of (codes "red")) ∷ [])) 0 4 ∷ []) ∷
    cut (codes "\"a-b\"") (token (Kind.Quote None ((term_of (codes "a")) ∷ (term_of (codes "b")) ∷ [])) 0 5 ∷ []) ∷
    cut (codes "a\"b\"c") (token (Kind.Word None (term_of (codes "a")) false) 0 1 ∷ token (Kind.Quote None ((term_of (codes "b")) ∷ [])) 1 4 ∷ token (Kind.Word None (term_of (codes "c")) false) 4 5 ∷ []) ∷
    cut (codes "\"?\"") [] ∷
    cut (codes "\"?") [] ∷
    cut (codes "\"") [] ∷
    cut (codes "\"\"a") (token (Kind.Word None (term_of (codes "a")) false) 2 3 ∷ []) ∷
    cut (codes "\"(\" a") (token (Kind.Word None (term_of (codes "a")) false) 4 5 ∷ []) ∷
    cut (codes "\"AND\" a") (token (Kind.Quote None ((term_of (codes "AND")) ∷ [])) 0 5 ∷ token (Kind.Word None (term_of (codes "a")) false) 6 7 ∷ []) ∷
    [])
unfolding value_in general_category general_category_rows encode
quotes = refl

-- A mark stands behind nothing, white space or an open bracket, and directly before what it marks.
marks : AreCut (
    cut (codes "+a") (token (Kind.Plus) 0 1 ∷ token (Kind.Word None (term_of (codes "a")) false) 1 2 ∷ []) ∷
    cut (codes "a -b") (token (Kind.Word None (term_of (codes "a")) false) 0 1 ∷ token (Kind.Minus) 2 3 ∷ token (Kind.Word None (term_of (codes "b")) false) 3 4 ∷ []) ∷
    cut (codes "(+a)") (token (Kind.Open None) 0 1 ∷ token (Kind.Plus) 1 2 ∷ token (Kind.Word None (term_of (codes "a")) false) 2 3 ∷ token (Kind.Close) 3 4 ∷ []) ∷
    cut (codes "-(a") (token (Kind.Minus) 0 1 ∷ token (Kind.Open None) 1 2 ∷ token (Kind.Word None (term_of (codes "a")) false) 2 3 ∷ []) ∷
    cut (codes "-\"a\"") (token (Kind.Minus) 0 1 ∷ token (Kind.Quote None ((term_of (codes "a")) ∷ [])) 1 4 ∷ []) ∷
    cut (codes "-\"?\"") [] ∷
    cut (codes "+ a") (token (Kind.Word None (term_of (codes "a")) false) 2 3 ∷ []) ∷
    cut (codes "++a") (token (Kind.Word None (term_of (codes "a")) false) 2 3 ∷ []) ∷
    cut (codes "+-a") (token (Kind.Word None (term_of (codes "a")) false) 2 3 ∷ []) ∷
    cut (codes ")+a") (token (Kind.Close) 0 1 ∷ token (Kind.Word None (term_of (codes "a")) false) 2 3 ∷ []) ∷
    cut (codes "+'a") (token (Kind.Word None (term_of (codes "a")) false) 2 3 ∷ []) ∷
    cut (codes "\u{85}+a") (token (Kind.Plus) 2 3 ∷ token (Kind.Word None (term_of (codes "a")) false) 3 4 ∷ []) ∷
    cut (codes "\u{200b}+a") (token (Kind.Word None (term_of (codes "a")) false) 4 5 ∷ []) ∷
    cut (codes "-lang:fr") (token (Kind.Minus) 0 1 ∷ token (Kind.Filter 2 (codes "fr")) 1 8 ∷ []) ∷
    [])
unfolding value_in general_category general_category_rows encode
marks = refl

-- A text field takes a group, a good quote or an open bracket.
text_fields : AreCut (
    cut (codes "body:red") (token (Kind.Word (Some 0) (term_of (codes "red")) false) 0 8 ∷ []) ∷
    cut (codes "body:red*") (token (Kind.Wild (Some 0) (term_of (codes "red"))) 0 9 ∷ []) ∷
    cut (codes "title:a.b") (token (Kind.Joined (Some 1) ((term_of (codes "a")) ∷ (term_of (codes "b")) ∷ [])) 0 9 ∷ []) ∷
    cut (codes "body:\"red fox\"") (token (Kind.Quote (Some 0) ((term_of (codes "red")) ∷ (term_of (codes "fox")) ∷ [])) 0 14 ∷ []) ∷
    cut (codes "title:(a)") (token (Kind.Open (Some 1)) 0 7 ∷ token (Kind.Word None (term_of (codes "a")) false) 7 8 ∷ token (Kind.Close) 8 9 ∷ []) ∷
    cut (codes "body:\"?\"") (token (Kind.Word None (term_of (codes "body")) false) 0 4 ∷ []) ∷
    cut (codes "body: red") (token (Kind.Word None (term_of (codes "body")) false) 0 4 ∷ token (Kind.Word None (term_of (codes "red")) false) 6 9 ∷ []) ∷
    cut (codes "body:+a") (token (Kind.Word None (term_of (codes "body")) false) 0 4 ∷ token (Kind.Word None (term_of (codes "a")) false) 6 7 ∷ []) ∷
    cut (codes "body:AND") (token (Kind.Word (Some 0) (term_of (codes "AND")) true) 0 8 ∷ []) ∷
    cut (codes "body:NEAR/3") (token (Kind.Joined (Some 0) ((term_of (codes "NEAR")) ∷ (term_of (codes "3")) ∷ [])) 0 11 ∷ []) ∷
    cut (codes "body:body:a") (token (Kind.Joined (Some 0) ((term_of (codes "body")) ∷ (term_of (codes "a")) ∷ [])) 0 11 ∷ []) ∷
    cut (codes "color:red") (token (Kind.Joined None ((term_of (codes "color")) ∷ (term_of (codes "red")) ∷ [])) 0 9 ∷ []) ∷
    cut (codes "Body:red") (token (Kind.Joined None ((term_of (codes "Body")) ∷ (term_of (codes "red")) ∷ [])) 0 8 ∷ []) ∷
    cut (codes "body_x:b") (token (Kind.Joined None ((term_of (codes "body_x")) ∷ (term_of (codes "b")) ∷ [])) 0 8 ∷ []) ∷
    cut (codes "a.body:b") (token (Kind.Joined None ((term_of (codes "a")) ∷ (term_of (codes "body")) ∷ (term_of (codes "b")) ∷ [])) 0 8 ∷ []) ∷
    [])
unfolding value_in general_category general_category_rows encode
text_fields = refl

-- A filter takes a quote, good or not, or all up to white space or a closing bracket.
filters : AreCut (
    cut (codes "lang:en") (token (Kind.Filter 2 (codes "en")) 0 7 ∷ []) ∷
    cut (codes "lang:\"en us\"") (token (Kind.Filter 2 (codes "en us")) 0 12 ∷ []) ∷
    cut (codes "lang:\"\"") (token (Kind.Filter 2 []) 0 7 ∷ []) ∷
    cut (codes "lang:\"?") (token (Kind.Filter 2 (codes "?")) 0 7 ∷ []) ∷
    cut (codes "lang:x(") (token (Kind.Filter 2 (codes "x(")) 0 7 ∷ []) ∷
    cut (codes "lang:a\"b c") (token (Kind.Filter 2 (codes "a\"b")) 0 8 ∷ token (Kind.Word None (term_of (codes "c")) false) 9 10 ∷ []) ∷
    cut (codes "(lang:en)") (token (Kind.Open None) 0 1 ∷ token (Kind.Filter 2 (codes "en")) 1 8 ∷ token (Kind.Close) 8 9 ∷ []) ∷
    cut (codes "lang: en") (token (Kind.Word None (term_of (codes "lang")) false) 0 4 ∷ token (Kind.Word None (term_of (codes "en")) false) 6 8 ∷ []) ∷
    cut (codes "lang:)") (token (Kind.Word None (term_of (codes "lang")) false) 0 4 ∷ token (Kind.Close) 5 6 ∷ []) ∷
    cut (codes "lang:") (token (Kind.Word None (term_of (codes "lang")) false) 0 4 ∷ []) ∷
    [])
unfolding value_in general_category general_category_rows encode
filters = refl

-- A number and a word take all up to white space or a closing bracket, quotes and all.
ranges : AreCut (
    cut (codes "year:1990..1999") (token (Kind.Range 3 (codes "1990..1999")) 0 15 ∷ []) ∷
    cut (codes "year:(5") (token (Kind.Range 3 (codes "(5")) 0 7 ∷ []) ∷
    cut (codes "year:5)") (token (Kind.Range 3 (codes "5")) 0 6 ∷ token (Kind.Close) 6 7 ∷ []) ∷
    cut (codes "site:\"a b\"") (token (Kind.Range 4 (codes "\"a")) 0 7 ∷ token (Kind.Word None (term_of (codes "b")) false) 8 9 ∷ []) ∷
    cut (codes "site:é") (token (Kind.Range 4 (encode_utf8_all (codes "é"))) 0 7 ∷ []) ∷
    cut (codes "site:a\u{200b}b c") (token (Kind.Range 4 (encode_utf8_all (codes "a\u{200b}b"))) 0 10 ∷ token (Kind.Word None (term_of (codes "c")) false) 11 12 ∷ []) ∷
    cut (codes "year: 5") (token (Kind.Word None (term_of (codes "year")) false) 0 4 ∷ token (Kind.Word None (term_of (codes "5")) false) 6 7 ∷ []) ∷
    [])
unfolding value_in general_category general_category_rows encode
ranges = refl

-- A star behind one word, and no word character behind that.
stars : AreCut (
    cut (codes "red*") (token (Kind.Wild None (term_of (codes "red"))) 0 4 ∷ []) ∷
    cut (codes "red*'a") (token (Kind.Wild None (term_of (codes "red"))) 0 4 ∷ token (Kind.Word None (term_of (codes "a")) false) 5 6 ∷ []) ∷
    cut (codes "red*x") (token (Kind.Word None (term_of (codes "red")) false) 0 3 ∷ token (Kind.Word None (term_of (codes "x")) false) 4 5 ∷ []) ∷
    cut (codes "red *") (token (Kind.Word None (term_of (codes "red")) false) 0 3 ∷ []) ∷
    cut (codes "a-b*") (token (Kind.Joined None ((term_of (codes "a")) ∷ (term_of (codes "b")) ∷ [])) 0 3 ∷ []) ∷
    cut (codes "AND*") (token (Kind.Wild None (term_of (codes "AND"))) 0 4 ∷ []) ∷
    [])
unfolding value_in general_category general_category_rows encode
stars = refl

-- An operator is spelled exactly so, and stands alone.
operators : AreCut (
    cut (codes "AND OR XOR NOT") (token (Kind.And) 0 3 ∷ token (Kind.Or) 4 6 ∷ token (Kind.Xor) 7 10 ∷ token (Kind.Not) 11 14 ∷ []) ∷
    cut (codes "and") (token (Kind.Word None (term_of (codes "and")) false) 0 3 ∷ []) ∷
    cut (codes "ANDx") (token (Kind.Word None (term_of (codes "ANDx")) true) 0 4 ∷ []) ∷
    cut (codes "AND-OR") (token (Kind.Joined None ((term_of (codes "AND")) ∷ (term_of (codes "OR")) ∷ [])) 0 6 ∷ []) ∷
    cut (codes "AND'") (token (Kind.And) 0 3 ∷ []) ∷
    cut (codes "NEAR ADJ") (token (Kind.Near 10) 0 4 ∷ token (Kind.Adj 10) 5 8 ∷ []) ∷
    cut (codes "NEAR/3") (token (Kind.Near 3) 0 6 ∷ []) ∷
    cut (codes "ADJ/0") (token (Kind.Adj 0) 0 5 ∷ []) ∷
    cut (codes "NEAR/65535") (token (Kind.Near 65535) 0 10 ∷ []) ∷
    cut (codes "NEAR/99999999999") (token (Kind.Near 65535) 0 16 ∷ []) ∷
    cut (codes "NEAR/3x") (token (Kind.Joined None ((term_of (codes "NEAR")) ∷ (term_of (codes "3x")) ∷ [])) 0 7 ∷ []) ∷
    cut (codes "NEAR/3/4") (token (Kind.Joined None ((term_of (codes "NEAR")) ∷ (term_of (codes "3")) ∷ (term_of (codes "4")) ∷ [])) 0 8 ∷ []) ∷
    cut (codes "NEAR/") (token (Kind.Near 10) 0 4 ∷ []) ∷
    cut (codes "NEAR//3") (token (Kind.Joined None ((term_of (codes "NEAR")) ∷ (term_of (codes "3")) ∷ [])) 0 7 ∷ []) ∷
    cut (codes "NEAR/\u{663}") (token (Kind.Joined None ((term_of (codes "NEAR")) ∷ (term_of (encode_utf8_all (codes "\u{663}"))) ∷ [])) 0 7 ∷ []) ∷
    cut (codes "NEAR-3") (token (Kind.Joined None ((term_of (codes "NEAR")) ∷ (term_of (codes "3")) ∷ [])) 0 6 ∷ []) ∷
    cut (codes "NEAR/3*") (token (Kind.Near 3) 0 6 ∷ []) ∷
    [])
unfolding value_in general_category general_category_rows encode
operators = refl
