-- Small values that the definitions must give, worked out by hand.
use Rattle.std.proofs.Common.{◌≡◌, ℕ, true, false, ◌∷◌, [], List, refl, Option, Some, None, map, codes}
use Rattle.sk_base.specs.declared.doc.Doc.{Doc}
use Rattle.sk_base.specs.declared.doc_entry.DocTerm.{DocTerm}
use Rattle.sk_base.specs.declared.record.Edit.{Edit}
use Rattle.sk_base.specs.declared.record.FieldValue.TheVariants as FieldValue
use Rattle.sk_base.specs.declared.record.Reply.TheVariants as Reply
use Rattle.sk_base.specs.declared.schema.Schema.{Schema}
use Rattle.sk_base.specs.declared.schema.FieldKind.TheVariants as FieldKind
use Rattle.sk_base.specs.declared.doc_entry.SlotValue.{SlotValue}
use Rattle.sk_base.specs.declared.find.Collapse.{Collapse}
use Rattle.sk_base.specs.declared.find.Paging.{Paging}
use Rattle.sk_base.specs.declared.find.Scheme.{Scheme}
use Rattle.sk_base.specs.declared.rank.Order.{Order}
use Rattle.sk_base.specs.declared.rank.OrderBy.{OrderBy}
use Rattle.sk_base.specs.declared.rank.Rank.{Rank}
use Rattle.sk_base.specs.Numbers.{Docs, wild_length_of, wild_greatest_of, slot_length_of}
use Rattle.sk_stem.specs.Rules.{by_rules, rules_1a, rules_completing, rules_1c, rules_2, rules_3, rules_4}
use Rattle.sk_stem.specs.Stems.{stem, step_1a, step_1b, step_1c, step_2, step_3, step_4, step_5a, step_5b}
use Rattle.sk_model.specs.Documents.{Occurrence, mentions_from, terms_of, document_of}
use Rattle.sk_model.specs.Edits.{Live, nothing_live, edited, reply_to, live_after}
use Rattle.sk_model.specs.Scores.{score}
use Rattle.sk_model.specs.Matches.{matches}
use Rattle.sk_model.specs.Page.{best_first, slice}
use Rattle.sk_model.specs.Bounds.{ceil, static_count}
use Rattle.sk_model.specs.Counts.{wanted, seen, kept_by, dropped_by, duplicates}
use Rattle.sk_model.specs.Allowance.{allowance, leaf_readings}
use Rattle.sk_model.specs.Positions.{is_near, is_phrase}
use Rattle.sk_model.specs.Ranges.{end_of, is_within, is_crossed}
use Rattle.sk_model.specs.Settled.{settled, decay_point}
use Rattle.sk_model.specs.Sharp.{stop_number, rare_number, decay_number, sharp}
use Rattle.sk_query.specs.declared.form.Form.{Form}
use Rattle.sk_query.specs.Trees.{unbounded, number, bytes, Tree, nothing, all, term, wildcard, parts, near, phrase, synonym, scale, range, Trees, no_trees, tree}

-- ids rise
abbrev pub rising : OrderBy → Order
rising by = record { by = by; falling = false }

abbrev pub relevance : Order
relevance = rising OrderBy.Relevance

-- a filter `lang` and a number `year`
abbrev schema : Schema
schema = record { fields = record { name = codes "lang"; kind = FieldKind.Filter (codes "L") } ∷ record { name = codes "year"; kind = FieldKind.Number 3 } ∷ []; stem = false }

-- a record in English of this year
abbrev added : ℕ → Edit
added year = Edit.Add (record { values = record { field = 0; value = FieldValue.Filter (codes "en" ∷ [] ∷ codes "en" ∷ []) } ∷ record { field = 1; value = FieldValue.Number year } ∷ []; payload = codes "p" })

-- a repeated text of a filter counts once, an empty one not at all, and the number 0 is a value of eight bytes
filtered : document_of schema (record { values = record { field = 0; value = FieldValue.Filter (codes "en" ∷ [] ∷ codes "en" ∷ []) } ∷ record { field = 1; value = FieldValue.Number 0 } ∷ []; payload = codes "p" })
    ≡ record { terms = record { term = codes "Len"; wdf = 0; positions = [] } ∷ []; values = record { slot = 3; value = 0 ∷ 0 ∷ 0 ∷ 0 ∷ 0 ∷ 0 ∷ 0 ∷ 0 ∷ [] } ∷ []; payload = codes "p" }
filtered = refl

-- an occurrence behind so many text fields
abbrev at : List ℕ → ℕ → ℕ → Occurrence
at t step before = record { prefix = []; term = t; step = step; before = before }

-- the third word stands behind two text fields, one of which had none
gaps : map (λ (one : DocTerm). one.positions) (mentions_from false 1 (at (codes "a") 1 0 ∷ at (codes "b") 1 0 ∷ at (codes "a") 5 2 ∷ [])) ≡ (1 ∷ []) ∷ (2 ∷ []) ∷ (203 ∷ []) ∷ []
gaps = refl

-- the mentions of a term are one, in byte order
gathered : terms_of (mentions_from false 1 (at (codes "b") 1 0 ∷ at (codes "a") 1 0 ∷ at (codes "b") 5 2 ∷ []))
    ≡ record { term = codes "a"; wdf = 1; positions = 2 ∷ [] } ∷ record { term = codes "b"; wdf = 6; positions = 1 ∷ 203 ∷ [] } ∷ []
gathered = refl

-- where stems are asked for, each word adds its step to its stem, which has no place
stemmed : terms_of (mentions_from true 1 (record { prefix = codes "S"; term = codes "cats"; step = 3; before = 0 } ∷ record { prefix = codes "S"; term = codes "cat"; step = 3; before = 0 } ∷ []))
    ≡ record { term = codes "Scat"; wdf = 3; positions = 2 ∷ [] } ∷ record { term = codes "Scats"; wdf = 3; positions = 1 ∷ [] } ∷ record { term = codes "ZScat"; wdf = 6; positions = [] } ∷ []
unfolding stem step_1a step_1b step_1c step_2 step_3 step_4 step_5a step_5b by_rules rules_1a rules_completing rules_1c rules_2 rules_3 rules_4
stemmed = refl

-- two documents in English
abbrev two : Live
two = live_after schema nothing_live (added 1990 ∷ added 2000 ∷ [])

-- ids begin at 1 and rise
ids : map (λ one. one.0) two.documents ≡ 1 ∷ 2 ∷ []
ids = refl

first_reply : reply_to nothing_live (added 1990) ≡ Reply.Id 1
first_reply = refl

-- the last id is given, and none behind it
last_reply : reply_to (record { documents = []; highest = 4294967294 }) (added 1990) ≡ Reply.Id 4294967295
last_reply = refl

no_reply : reply_to (record { documents = []; highest = 4294967295 }) (added 1990) ≡ Reply.NoIdLeft
no_reply = refl

no_edit : edited schema (record { documents = []; highest = 4294967295 }) (added 1990) ≡ record { documents = []; highest = 4294967295 }
no_edit = refl

-- a deleted id is not given again
not_again : map (λ one. one.0) (let live : Live = live_after schema two (Edit.Delete 2 ∷ added 1990 ∷ []) in live.documents) ≡ 1 ∷ 3 ∷ []
not_again = refl

-- only a live document is deleted
found_live : reply_to two (Edit.Delete 2) ≡ Reply.Done 1
found_live = refl

found_none : reply_to two (Edit.Delete 3) ≡ Reply.NotFound
found_none = refl

-- the lowest that has the term is replaced, and the others are gone
replaced : map (λ one. one.0) (let live : Live = edited schema two (Edit.ReplaceBy (codes "Len") (record { values = []; payload = [] })) in live.documents) ≡ 1 ∷ []
replaced = refl

deleted : reply_to two (Edit.DeleteBy (codes "Len")) ≡ Reply.Done 2
deleted = refl

-- an id above the highest becomes the highest
raised : (let live : Live = edited schema two (Edit.Replace 9 (record { values = []; payload = [] })) in live.highest) ≡ 9
raised = refl

-- ---- what one document scores

-- a document with `red` so often, and `redder` once
abbrev red : ℕ → Doc
red wdf = record { terms = record { term = codes "red"; wdf = wdf; positions = [] } ∷ record { term = codes "redder"; wdf = 1; positions = [] } ∷ []; values = []; payload = [] }

-- a document without terms
abbrev bare : Doc
bare = record { terms = []; values = []; payload = [] }

abbrev three : Docs
three = (1, red 2) ∷ (4, red 1) ∷ (7, bare) ∷ []

-- a word that a document lacks scores nothing, which is not the weight 0
no_score : score (term (codes "hen")) Scheme.Nnn 1 (red 2) ≡ None
no_score = refl

bool_score : score (term (codes "red")) Scheme.Bool 1 (red 2) ≡ Some 0
bool_score = refl

-- a term is no part of a longer one
no_part : matches (term (codes "re")) Scheme.Nnn relevance three ≡ []
no_part = refl

matches_of_red : matches (term (codes "red")) Scheme.Nnn relevance three ≡ record { weight = 2; value = []; id = 1 } ∷ record { weight = 1; value = []; id = 4 } ∷ []
matches_of_red = refl

-- a term of a document, and a document of terms alone
abbrev pub has : List ℕ → ℕ → List ℕ → DocTerm
has t wdf positions = record { term = t; wdf = wdf; positions = positions }

abbrev text : List DocTerm → Doc
text terms = record { terms = terms; values = []; payload = [] }

-- `a b a`, `a b c`, and `b` alone
abbrev aba : Doc
aba = text (has (codes "a") 2 (1 ∷ 3 ∷ []) ∷ has (codes "b") 1 (2 ∷ []) ∷ [])

abbrev abc : Doc
abc = text (has (codes "a") 1 (1 ∷ []) ∷ has (codes "b") 1 (2 ∷ []) ∷ has (codes "c") 1 (3 ∷ []) ∷ [])

abbrev just_b : Doc
just_b = text (has (codes "b") 1 (1 ∷ []) ∷ [])

-- terms by name
abbrev a : Tree
a = term (codes "a")

abbrev b : Tree
b = term (codes "b")

abbrev c : Tree
c = term (codes "c")

abbrev l : Tree
l = term (codes "l")

-- two and three parts
abbrev two_parts : Tree → Tree → Trees
two_parts p q = tree p (tree q no_trees)

abbrev three_parts : Tree → Tree → Tree → Trees
three_parts p q r = tree p (tree q (tree r no_trees))

-- what a query scores as it is
abbrev nnn : Tree → Doc → Option ℕ
nnn query d = score query Scheme.Nnn 1 d

-- no document matches `nothing`, and each matches `all`, also one without terms
nothing_scores : nnn nothing bare ≡ None
nothing_scores = refl

all_scores : nnn all bare ≡ Some 0
all_scores = refl

-- all of an and: the sum
and_sum : nnn (parts Form.And (two_parts a b)) aba ≡ Some 3
and_sum = refl

and_lacks : nnn (parts Form.And (two_parts a c)) aba ≡ None
and_lacks = refl

-- those of an or that match: the sum
or_some : nnn (parts Form.Or (three_parts c b a)) aba ≡ Some 3
or_some = refl

or_none : nnn (parts Form.Or (two_parts c l)) aba ≡ None
or_none = refl

-- three of three match, so an odd number does; two of two do not
xor_three : nnn (parts Form.Xor (three_parts a b c)) abc ≡ Some 3
xor_three = refl

xor_two : nnn (parts Form.Xor (two_parts a b)) abc ≡ None
xor_two = refl

-- `c l b`: the inner xor of `l` and `c` matches twice and so not, and `b` alone weighs 1; over all three at once it would be 3
xor_inside : nnn (parts Form.Xor (two_parts (parts Form.Xor (two_parts l c)) b)) (text (has (codes "b") 1 (3 ∷ []) ∷ has (codes "c") 1 (1 ∷ []) ∷ has (codes "l") 1 (2 ∷ []) ∷ [])) ≡ Some 1
xor_inside = refl

xor_over_all : nnn (parts Form.Xor (three_parts l c b)) (text (has (codes "b") 1 (3 ∷ []) ∷ has (codes "c") 1 (1 ∷ []) ∷ has (codes "l") 1 (2 ∷ []) ∷ [])) ≡ Some 3
xor_over_all = refl

-- `b abc`: `ab` is not there, and the or weighs 2; as one operator over all three it would be 1
max_of_or : nnn (parts Form.Max (two_parts (term (codes "ab")) (parts Form.Or (two_parts (term (codes "abc")) b)))) (text (has (codes "abc") 1 (2 ∷ []) ∷ has (codes "b") 1 (1 ∷ []) ∷ [])) ≡ Some 2
max_of_or = refl

max_greatest : nnn (parts Form.Max (two_parts b a)) aba ≡ Some 2
max_greatest = refl

-- the first and no other
not_first : nnn (parts Form.AndNot (two_parts a c)) aba ≡ Some 2
not_first = refl

not_second : nnn (parts Form.AndNot (three_parts a c b)) aba ≡ None
not_second = refl

-- `fox` with `red` and `den` where they are there: each adds its own
maybe_both : nnn (parts Form.AndMaybe (three_parts (term (codes "fox")) (term (codes "red")) (term (codes "den")))) (text (has (codes "den") 1 [] ∷ has (codes "fox") 1 [] ∷ has (codes "red") 2 [] ∷ [])) ≡ Some 4
maybe_both = refl

maybe_one : nnn (parts Form.AndMaybe (three_parts (term (codes "fox")) (term (codes "red")) (term (codes "den")))) (text (has (codes "den") 1 [] ∷ has (codes "fox") 1 [] ∷ [])) ≡ Some 2
maybe_one = refl

maybe_not_first : nnn (parts Form.AndMaybe (two_parts (term (codes "fox")) (term (codes "red")))) (text (has (codes "red") 2 [] ∷ [])) ≡ None
maybe_not_first = refl

-- all of a filter, and the first's weight
filter_first : nnn (parts Form.Filter (two_parts a b)) aba ≡ Some 2
filter_first = refl

filter_lacks : nnn (parts Form.Filter (two_parts a c)) aba ≡ None
filter_lacks = refl

-- one of the terms is there: their wdfs as one, which weighs 1 under Coord, where an or of them weighs 2
synonym_sum : nnn (synonym (codes "a" ∷ codes "b" ∷ [])) aba ≡ Some 3
synonym_sum = refl

synonym_coord : score (synonym (codes "a" ∷ codes "b" ∷ [])) Scheme.Coord 1 aba ≡ Some 1
synonym_coord = refl

or_coord : score (parts Form.Or (two_parts a b)) Scheme.Coord 1 aba ≡ Some 2
or_coord = refl

-- all the terms that begin so, as one
wild_sum : nnn (wildcard (codes "re")) (red 2) ≡ Some 3
wild_sum = refl

wild_coord : score (wildcard (codes "re")) Scheme.Coord 1 (red 2) ≡ Some 1
wild_coord = refl

wild_none : nnn (wildcard (codes "zz")) (red 2) ≡ None
wild_none = refl

-- factors along a path multiply, and one beside it has its own
factors : nnn (scale 3 (parts Form.Or (two_parts (scale 5 a) b))) aba ≡ Some 33
factors = refl

-- a factor of 0 takes the weight and not the match
no_factor : nnn (scale 0 a) aba ≡ Some 0
no_factor = refl

no_factor_no_match : nnn (scale 0 c) aba ≡ None
no_factor_no_match = refl

-- ---- words that stand near, and as a phrase

-- near takes one position twice, and a phrase does not
near_itself : nnn (near 1 (codes "b" ∷ codes "b" ∷ [])) aba ≡ Some 2
near_itself = refl

phrase_itself : nnn (phrase 1 (codes "b" ∷ codes "b" ∷ [])) aba ≡ None
phrase_itself = refl

-- in any order, with the greatest less the least below the window
near_any_order : is_near 2 ((4 ∷ []) ∷ (3 ∷ []) ∷ []) ≡ true
near_any_order = refl

near_too_far : is_near 2 ((4 ∷ []) ∷ (2 ∷ []) ∷ []) ≡ false
near_too_far = refl

-- three words: it is the whole that lies within the window, and not each pair of neighbours
near_whole : is_near 3 ((1 ∷ []) ∷ (3 ∷ []) ∷ (5 ∷ []) ∷ []) ≡ false
near_whole = refl

near_inside : is_near 5 ((5 ∷ []) ∷ (1 ∷ []) ∷ (3 ∷ []) ∷ []) ≡ true
near_inside = refl

-- `a b a` has `b a` and `a b`; `a a` stands within 3 and not within 2
phrase_back : nnn (phrase 2 (codes "b" ∷ codes "a" ∷ [])) aba ≡ Some 3
phrase_back = refl

phrase_order : is_phrase 9 ((4 ∷ []) ∷ (3 ∷ []) ∷ []) ≡ false
phrase_order = refl

phrase_twice : nnn (phrase 3 (codes "a" ∷ codes "a" ∷ [])) aba ≡ Some 4
phrase_twice = refl

phrase_narrow : nnn (phrase 2 (codes "a" ∷ codes "a" ∷ [])) aba ≡ None
phrase_narrow = refl

-- from 1 on the phrase does not end in time, and from 6 on it does
phrase_later : is_phrase 3 ((1 ∷ 6 ∷ []) ∷ (2 ∷ 7 ∷ []) ∷ (8 ∷ []) ∷ []) ≡ true
phrase_later = refl

-- of the places of the second word, 2 goes on to 3, and 5 does not
phrase_rises : is_phrase 3 ((1 ∷ []) ∷ (2 ∷ 5 ∷ []) ∷ (3 ∷ []) ∷ []) ≡ true
phrase_rises = refl

-- a word without positions is in no phrase and near nothing, also alone
near_no_place : nnn (near 9 (codes "red" ∷ [])) (red 2) ≡ None
near_no_place = refl

phrase_no_place : nnn (phrase 9 (codes "red" ∷ [])) (red 2) ≡ None
phrase_no_place = refl

phrase_alone : nnn (phrase 1 (codes "b" ∷ [])) aba ≡ Some 1
phrase_alone = refl

-- ---- ranges

-- both ends are within, byte by byte: `b` lies behind `ab` and before `ba`
range_ends : is_within (Some (codes "b")) (Some (codes "b")) (codes "b") ≡ true
range_ends = refl

range_bytes : is_within (Some (codes "ab")) (Some (codes "b")) (codes "ba") ≡ false
range_bytes = refl

-- a number stands for its eight bytes, the highest first: 256 is above 255
range_number : is_within (end_of (number 255)) None (0 ∷ 0 ∷ 0 ∷ 0 ∷ 0 ∷ 0 ∷ 1 ∷ 0 ∷ []) ≡ true
range_number = refl

range_below : is_within (end_of (number 257)) None (0 ∷ 0 ∷ 0 ∷ 0 ∷ 0 ∷ 0 ∷ 1 ∷ 0 ∷ []) ≡ false
range_below = refl

-- a document without the value lies in no range, also where the lower end is open, or both are
range_no_value : nnn (range 0 unbounded (bytes (codes "z"))) bare ≡ None
range_no_value = refl

range_open : nnn (range 0 unbounded unbounded) bare ≡ None
range_open = refl

-- the lower end above the upper one
range_crossed : is_crossed (end_of (number 2000)) (end_of (number 1990)) ≡ true
range_crossed = refl

range_point : is_crossed (end_of (number 2000)) (end_of (number 2000)) ≡ false
range_point = refl

-- ---- order

-- the heavier first, and of equal weights the lower id
in_order :
    best_first relevance (record { weight = 1; value = []; id = 1 } ∷ record { weight = 2; value = []; id = 9 } ∷ record { weight = 2; value = []; id = 3 } ∷ [])
    ≡ record { weight = 2; value = []; id = 3 } ∷ record { weight = 2; value = []; id = 9 } ∷ record { weight = 1; value = []; id = 1 } ∷ []
in_order = refl

-- by value, the greater first; the id still decides upwards
by_value :
    best_first (rising (OrderBy.Value (record { slot = 0; reverse = true }))) (record { weight = 1; value = codes "b"; id = 9 } ∷ record { weight = 2; value = codes "b"; id = 3 } ∷ record { weight = 2; value = codes "ba"; id = 4 } ∷ [])
    ≡ record { weight = 2; value = codes "ba"; id = 4 } ∷ record { weight = 2; value = codes "b"; id = 3 } ∷ record { weight = 1; value = codes "b"; id = 9 } ∷ []
by_value = refl

-- of equal weights the empty value is first, since it is the least
empty_first :
    best_first (rising (OrderBy.RelevanceThenValue (record { slot = 0; reverse = false }))) (record { weight = 2; value = codes "a"; id = 1 } ∷ record { weight = 3; value = codes "z"; id = 2 } ∷ record { weight = 2; value = []; id = 3 } ∷ [])
    ≡ record { weight = 3; value = codes "z"; id = 2 } ∷ record { weight = 2; value = []; id = 3 } ∷ record { weight = 2; value = codes "a"; id = 1 } ∷ []
empty_first = refl

-- of equal values the heavier first
value_then_weight :
    best_first (rising (OrderBy.ValueThenRelevance (record { slot = 0; reverse = false }))) (record { weight = 2; value = codes "a"; id = 1 } ∷ record { weight = 3; value = codes "z"; id = 2 } ∷ record { weight = 4; value = codes "a"; id = 3 } ∷ [])
    ≡ record { weight = 4; value = codes "a"; id = 3 } ∷ record { weight = 2; value = codes "a"; id = 1 } ∷ record { weight = 3; value = codes "z"; id = 2 } ∷ []
value_then_weight = refl

-- ---- four documents: their language, a year in slot 0, and a site in slot 1

-- the year as eight bytes: 1792 is 7 times 256
abbrev pub year : ℕ → SlotValue
year low = record { slot = 0; value = 0 ∷ 0 ∷ 0 ∷ 0 ∷ 0 ∷ 0 ∷ 7 ∷ low ∷ [] }

abbrev pub site : List ℕ → SlotValue
site name = record { slot = 1; value = name }

-- `red fox red` of 1990; `Red hen` of 2000; `fox den` of 2010; `the red-fox den` of no year
abbrev pub four : Docs
four =
    (1, record { terms = has (codes "Len") 0 [] ∷ has (codes "fox") 1 (2 ∷ []) ∷ has (codes "red") 2 (1 ∷ 3 ∷ []) ∷ []; values = year 198 ∷ site (codes "a") ∷ []; payload = codes "one" })
    ∷ (2, record { terms = has (codes "Len") 0 [] ∷ has (codes "hen") 1 (2 ∷ []) ∷ has (codes "red") 1 (1 ∷ []) ∷ []; values = year 208 ∷ site (codes "a") ∷ []; payload = [] })
    ∷ (3, record { terms = has (codes "Lfr") 0 [] ∷ has (codes "den") 1 (2 ∷ []) ∷ has (codes "fox") 1 (1 ∷ []) ∷ []; values = year 218 ∷ site (codes "b") ∷ []; payload = [] })
    ∷ (4, record { terms = has (codes "Len") 0 [] ∷ has (codes "den") 1 (4 ∷ []) ∷ has (codes "fox") 1 (3 ∷ []) ∷ has (codes "red") 1 (2 ∷ []) ∷ has (codes "the") 1 (1 ∷ []) ∷ []; values = site (codes "b") ∷ []; payload = [] })
    ∷ []

-- a find of its first hits, so many, counting no further than it must
abbrev first_hits : Scheme → ℕ → Order → Option Collapse → Paging
first_hits scheme size order collapse = record { options = record { scheme = scheme; first = 0; size = size; check = 0; cutoff = 0 }; order = order; collapse = collapse }

abbrev ten : Paging
ten = first_hits Scheme.Nnn 10 relevance None

-- ids with weights
abbrev weights : List Rank → List (ℕ × ℕ)
weights ranks = map (λ rank. (rank.id, rank.weight)) ranks

-- what a find keeps, and what a query finds as it is
abbrev hits : Tree → Paging → List (ℕ × ℕ)
hits query paging = weights (kept_by paging four (matches query paging.options.scheme paging.order four))

abbrev finds : Tree → List (ℕ × ℕ)
finds query = hits query ten

abbrev red_term : Tree
red_term = term (codes "red")

abbrev fox : Tree
fox = term (codes "fox")

abbrev red_fox : Tree
red_fox = parts Form.Or (two_parts red_term fox)

red_fox_found : finds red_fox ≡ (1, 3) ∷ (4, 2) ∷ (2, 1) ∷ (3, 1) ∷ []
red_fox_found = refl

love_red : finds (parts Form.AndMaybe (two_parts red_term fox)) ≡ (1, 3) ∷ (4, 2) ∷ (2, 1) ∷ []
love_red = refl

not_fox : finds (parts Form.AndNot (two_parts red_term fox)) ≡ (2, 1) ∷ []
not_fox = refl

-- without a weight, since it is `all` that is found
not_red : finds (parts Form.AndNot (two_parts all red_term)) ≡ (3, 0) ∷ []
not_red = refl

-- document 2 matches two sides and is not there
xor_red_twice : finds (parts Form.Xor (three_parts red_term fox red_term)) ≡ (1, 5) ∷ (4, 3) ∷ (3, 1) ∷ []
xor_red_twice = refl

phrase_found : finds (phrase 2 (codes "red" ∷ codes "fox" ∷ [])) ≡ (1, 3) ∷ (4, 2) ∷ []
phrase_found = refl

wild_found : finds (wildcard (codes "fo")) ≡ (1, 1) ∷ (3, 1) ∷ (4, 1) ∷ []
wild_found = refl

-- from 1995 on, and of 2000 just
range_found : finds (range 0 (number 1995) unbounded) ≡ (2, 0) ∷ (3, 0) ∷ []
range_found = refl

range_of_one : finds (range 0 (number 2000) (number 2000)) ≡ (2, 0) ∷ []
range_of_one = refl

crossed_found : finds (range 0 (number 2000) (number 1990)) ≡ []
crossed_found = refl

scaled_found : finds (scale 5 (term (codes "hen"))) ≡ (2, 5) ∷ []
scaled_found = refl

filter_found : finds (parts Form.Filter (two_parts red_term (term (codes "den")))) ≡ (4, 1) ∷ []
filter_found = refl

-- by year, the later first: a document of no year is last
by_year : hits red_fox (first_hits Scheme.Nnn 10 (rising (OrderBy.Value (record { slot = 0; reverse = true }))) None) ≡ (3, 1) ∷ (2, 1) ∷ (1, 3) ∷ (4, 2) ∷ []
by_year = refl

-- of equal weights the one of no year first
coord_by_year : hits red_fox (first_hits Scheme.Coord 10 (rising (OrderBy.RelevanceThenValue (record { slot = 0; reverse = false }))) None) ≡ (4, 2) ∷ (1, 2) ∷ (2, 1) ∷ (3, 1) ∷ []
coord_by_year = refl

second_page : weights (slice 1 2 (kept_by ten four (matches red_fox Scheme.Nnn relevance four))) ≡ (4, 2) ∷ (2, 1) ∷ []
second_page = refl

-- ---- collapsing

-- collapsed on the site, so many of each
abbrev sites : ℕ → Order → Paging
sites most order = first_hits Scheme.Nnn 10 order (Some (record { slot = 1; max = most }))

-- the best of each site, and one dropped of each
one_of_each : hits red_fox (sites 1 relevance) ≡ (1, 3) ∷ (4, 2) ∷ []
one_of_each = refl

one_dropped : dropped_by (sites 1 relevance) four (codes "a") (matches red_fox Scheme.Nnn relevance four) ≡ 1
one_dropped = refl

two_of_each : hits red_fox (sites 2 relevance) ≡ (1, 3) ∷ (4, 2) ∷ (2, 1) ∷ (3, 1) ∷ []
two_of_each = refl

-- which is the best depends on the order
best_by_year : hits red_fox (sites 1 (rising (OrderBy.Value (record { slot = 0; reverse = true })))) ≡ (3, 1) ∷ (2, 1) ∷ []
best_by_year = refl

-- what has no value in the slot is kept: of the years all are different, and document 4 has none
all_years : hits red_fox (first_hits Scheme.Nnn 10 relevance (Some (record { slot = 0; max = 1 }))) ≡ (1, 3) ∷ (4, 2) ∷ (2, 1) ∷ (3, 1) ∷ []
all_years = refl

-- no document has a value in slot 7, so all are kept and none is dropped
no_keys : hits red_fox (first_hits Scheme.Nnn 10 relevance (Some (record { slot = 7; max = 1 }))) ≡ (1, 3) ∷ (4, 2) ∷ (2, 1) ∷ (3, 1) ∷ []
no_keys = refl

no_key_dropped : dropped_by (first_hits Scheme.Nnn 10 relevance (Some (record { slot = 7; max = 1 }))) four [] (matches red_fox Scheme.Nnn relevance four) ≡ 0
no_key_dropped = refl

-- ---- counts

-- a find wants to see its page, or what it is told to check where that is more
wanted_page : wanted (record ten { options = record ten.options { first = 3; check = 12 } }) ≡ 13
wanted_page = refl

wanted_check : wanted (record ten { options = record ten.options { check = 12 } }) ≡ 12
wanted_check = refl

-- it sees the first by id, and not the best: of the first two of one site one is a duplicate
seen_first : weights (seen (record ten { options = record ten.options { size = 2 } }) (matches red_fox Scheme.Nnn relevance four)) ≡ (1, 3) ∷ (2, 1) ∷ []
seen_first = refl

one_duplicate : (let paging : Paging = record (sites 1 relevance) { options = record (first_hits Scheme.Nnn 2 relevance None).options { size = 2 } } in duplicates paging four (seen paging (matches red_fox Scheme.Nnn relevance four))) ≡ 1
one_duplicate = refl

-- ---- bounds

greatest_weight : ceil (term (codes "red")) Scheme.Nnn 1 three ≡ 2
greatest_weight = refl

-- no document has it, so its greatest weight is 0 also where each document that had it would weigh 1
no_weight : ceil (term (codes "owl")) Scheme.Coord 1 three ≡ 0
no_weight = refl

-- 2 and 1: those of an or are added, of a max the greatest is taken, and of a filter the first's, five times
or_ceil : ceil red_fox Scheme.Nnn 1 four ≡ 3
or_ceil = refl

max_ceil : ceil (parts Form.Max (two_parts red_term fox)) Scheme.Nnn 1 four ≡ 2
max_ceil = refl

filter_ceil : ceil (parts Form.Filter (two_parts (scale 5 red_term) fox)) Scheme.Nnn 1 four ≡ 10
filter_ceil = refl

-- the greatest wdfs of the two are 2 and 1, though no document has both so often
synonym_ceil : ceil (synonym (codes "hen" ∷ codes "red" ∷ [])) Scheme.Nnn 1 four ≡ 3
synonym_ceil = refl

synonym_coord_ceil : ceil (synonym (codes "hen" ∷ codes "red" ∷ [])) Scheme.Coord 1 four ≡ 1
synonym_coord_ceil = refl

-- no wdf is above 2^29 - 1
capped_ceil : ceil (synonym (codes "a" ∷ codes "b" ∷ [])) Scheme.Nnn 1 ((1, text (has (codes "a") 536870911 [] ∷ [])) ∷ (2, text (has (codes "b") 1 [] ∷ [])) ∷ []) ≡ 536870911
capped_ceil = refl

phrase_ceil : ceil (phrase 2 (codes "red" ∷ codes "fox" ∷ [])) Scheme.Nnn 1 four ≡ 3
phrase_ceil = refl

range_ceil : ceil (range 0 unbounded unbounded) Scheme.Coord 1 four ≡ 0
range_ceil = refl

most_matches : static_count (term (codes "red")) three ≡ 2
most_matches = refl

-- 3 and 3, but there are four documents
or_static : static_count red_fox four ≡ 4
or_static = refl

and_static : static_count (parts Form.And (three_parts red_term (term (codes "hen")) all)) four ≡ 1
and_static = refl

not_static : static_count (parts Form.AndNot (two_parts red_term (term (codes "hen")))) four ≡ 3
not_static = refl

phrase_static : static_count (phrase 2 (codes "red" ∷ codes "den" ∷ [])) four ≡ 2
phrase_static = refl

-- three documents have a year, and none lies between ends that are crossed
range_static : static_count (range 0 (number 1995) unbounded) four ≡ 3
range_static = refl

crossed_static : static_count (range 0 (number 2000) (number 1990)) four ≡ 0
crossed_static = refl

-- two terms begin so: two documents each, of three that are live; 2 and 1
wild_length : wild_length_of (codes "re") three ≡ 3
wild_length = refl

wild_greatest : wild_greatest_of (codes "re") three ≡ 3
wild_greatest = refl

no_slot : slot_length_of 0 three ≡ 0
no_slot = refl

-- ---- steps

-- two entries of one list, and two hits
steps_of_red : allowance (term (codes "red")) ten three 2 2 ≡ 4
steps_of_red = refl

-- three and three entries, and four hits
steps_of_red_fox : allowance red_fox ten four 4 4 ≡ 10
steps_of_red_fox = refl

-- by value, and collapsed: four readings more for each; two hits
steps_by_value : allowance red_fox (sites 1 (rising (OrderBy.Value (record { slot = 0; reverse = true })))) four 4 2 ≡ 16
steps_by_value = refl

-- the lists of a phrase twice, a wildcard's lists, and those of a range and of `all`
leaf_steps : leaf_readings (phrase 2 (codes "red" ∷ codes "fox" ∷ [])) four ≡ 12
leaf_steps = refl

wild_steps : leaf_readings (wildcard (codes "L")) four ≡ 4
wild_steps = refl

other_steps : leaf_readings (parts Form.And (two_parts (range 0 unbounded unbounded) all)) four ≡ 7
other_steps = refl

-- ---- where a page is settled

-- no match after the first is so heavy as all can be: one is wanted, and two are never there
settled_one : settled (record ten { options = record ten.options { size = 1 } }) (matches red_fox Scheme.Nnn relevance four) 3 ≡ 1
settled_one = refl

settled_two : settled (record ten { options = record ten.options { size = 2 } }) (matches red_fox Scheme.Nnn relevance four) 3 ≡ 4294967295
settled_two = refl

-- two that weigh 2 are there at document 4
settled_lighter : settled (record ten { options = record ten.options { size = 2 } }) (matches red_fox Scheme.Nnn relevance four) 2 ≡ 4
settled_lighter = refl

-- three matches are to be checked, though the page is full at the first
settled_check : settled (record ten { options = record ten.options { size = 1; check = 3 } }) (matches red_fox Scheme.Nnn relevance four) 3 ≡ 3
settled_check = refl

-- nothing is wanted
settled_none : settled (record ten { options = record ten.options { size = 0 } }) (matches red_fox Scheme.Nnn relevance four) 3 ≡ 0
settled_none = refl

-- a part that weighs 1 at most cannot matter alone behind the first document
decays : decay_point red_fox fox (record ten { options = record ten.options { size = 1 } }) four ≡ 1
decays = refl

-- below the cutoff nothing is looked for
settled_below : settled (record ten { options = record ten.options { size = 1; cutoff = 4 } }) (matches red_fox Scheme.Nnn relevance four) 3 ≡ 0
settled_below = refl

settled_at : settled (record ten { options = record ten.options { size = 1; cutoff = 3 } }) (matches red_fox Scheme.Nnn relevance four) 3 ≡ 1
settled_at = refl

-- where ids fall a later one that weighs as much comes before, so only a greater weight settles a place
settled_falling : settled (record ten { options = record ten.options { size = 1 }; order = record relevance { falling = true } }) (matches red_fox Scheme.Nnn relevance four) 2 ≡ 1
settled_falling = refl

settled_never : settled (record ten { options = record ten.options { size = 1 }; order = record relevance { falling = true } }) (matches red_fox Scheme.Nnn relevance four) 3 ≡ 4294967295
settled_never = refl

-- without weights two hits are settled at document 2: two entries of `red` and one of `fox`, one more for each list, and two hits
stops : sharp red_fox (first_hits Scheme.Bool 2 relevance None) four 2 ≡ 7
stops = refl

-- a scale is not a flat query
no_stop : stop_number (scale 2 red_fox) (first_hits Scheme.Bool 2 relevance None) four 2 ≡ None
no_stop = refl

-- the lists are shorter than 128 readings for each entry of the rare one
rare : rare_number (parts Form.And (two_parts red_term (term (codes "hen")))) ten four 1 1 ≡ Some 5
rare = refl

no_rare : rare_number (parts Form.And (two_parts red_term (range 0 unbounded unbounded))) ten four 1 1 ≡ None
no_rare = refl

-- with size 1: three entries of `red`, one of `fox` up to document 1, 256 readings each for the two entries of `red` behind it and one more, and a hit; the other way round `red` settles at document 1, too
decay : decay_number red_fox (record ten { options = record ten.options { size = 1 } }) four 1 ≡ Some 773
decay = refl

no_decay : decay_number (parts Form.Or (three_parts red_term fox red_term)) (record ten { options = record ten.options { size = 1 } }) four 1 ≡ None
no_decay = refl
