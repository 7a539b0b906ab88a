-- Small values that the definitions must give, worked out by hand.
use Rattle.std.proofs.Common.{◌≡◌, ◌<◌, ◌^◌, ℕ, true, false, [], ◌∷◌, None, codes, refl}
use Rattle.std.proofs.lemmas.Nat.{from_be_bytes-to_be_bytes_8}
use Rattle.std.specs.Fmt.{digits}
use Rattle.std.specs.Int.{w64, to_be_bytes}
use Rattle.std.specs.Str.{is_utf8, chars}
use lib.Utf8.{encode}
use Rattle.json.specs.Print.{escape_byte}
use Rattle.sk_base.specs.declared.facets.ValueKind.TheVariants as ValueKind
use Rattle.sk_grammar.specs.declared.fault.FaultKind.TheVariants as FaultKind
use Rattle.sk_run.specs.declared.refusal.Refusal.TheVariants as Refusal
use Rattle.sk_run.specs.declared.response.Printing.TheVariants as Printing
use Rattle.sk_run.specs.declared.response.Response.TheVariants as Response
use Rattle.sk_run.specs.Facets.{number_in}
use Rattle.sk_run.specs.Responses.{text_of, text_under}
use Rattle.sk_run.specs.Meaning.{meaning, blank}

-- the number of hits stands before the bounds, and each hit has its line
found_text_of_one :
    text_of (Response.Found 0 (record { hits = record { id = 7; weight = 2; collapsed = 0; payload = [] } ∷ []; lower = 1; estimate = 1; upper = 1; greatest = 2; steps = 2 }))
    ≡ codes "found hits=1 lower=1 estimate=1 upper=1 max=2 steps=2\nhit rank=0 id=7 weight=2 collapsed=0 data=\"\"\n"
unfolding digits
found_text_of_one = refl

-- ranks count from the page's first on
found_text_of_none : text_of (Response.Found 3 (record { hits = []; lower = 0; estimate = 0; upper = 0; greatest = 0; steps = 0 })) ≡ codes "found hits=0 lower=0 estimate=0 upper=0 max=0 steps=0\n"
unfolding digits
found_text_of_none = refl

-- a number field's values are numbers
numbers_text :
    text_of (Response.Facets ValueKind.Number (record { values = record { value = 0 ∷ 0 ∷ 0 ∷ 0 ∷ 0 ∷ 0 ∷ 7 ∷ 198 ∷ []; count = 2 } ∷ record { value = 255 ∷ []; count = 1 } ∷ []; distinct = 3; without = 1; matches = 5; steps = 9 }))
    ≡ codes "facets matches=5 distinct=3 without=1 steps=9\nfacet count=2 value=1990\nfacet count=1 value=0\n"
unfolding digits
numbers_text = refl

-- a word field's are strings
words_text :
    text_of (Response.Facets ValueKind.Word (record { values = record { value = codes "a\"b"; count = 2 } ∷ record { value = 255 ∷ []; count = 1 } ∷ []; distinct = 2; without = 0; matches = 3; steps = 4 }))
    ≡ codes "facets matches=3 distinct=2 without=0 steps=4\nfacet count=2 value=\"a\\\"b\"\nfacet count=1 value=\"\"\n"
unfolding digits is_utf8 chars encode escape_byte
words_text = refl

facets_text_of_none : text_of (Response.Facets ValueKind.Word (record { values = []; distinct = 0; without = 0; matches = 0; steps = 0 })) ≡ codes "facets matches=0 distinct=0 without=0 steps=0\n"
unfolding digits
facets_text_of_none = refl

-- what a number is kept as is told as that number
number_back : (n : ℕ) → n < 2 ^ 64 → number_in (to_be_bytes w64 n) ≡ n
number_back n small = from_be_bytes-to_be_bytes_8 n small

refused_text : text_of (Response.Refused Refusal.BadField) ≡ codes "refused 6 BadField\n"
unfolding digits
refused_text = refl

query_refused_text : text_of (Response.Refused (Refusal.BadQuery FaultKind.MissingOperand 4)) ≡ codes "refused 9 BadQuery MissingOperand at 4\n"
unfolding digits
query_refused_text = refl

tree_refused_text : text_of (Response.Refused Refusal.BadTree) ≡ codes "refused 10 BadTree\n"
unfolding digits
tree_refused_text = refl

parts_refused_text : text_of (Response.Refused Refusal.InParts) ≡ codes "refused 11 InParts\n"
unfolding digits
parts_refused_text = refl

schema_text : text_of (Response.Schema 4) ≡ codes "ok schema 4\n"
unfolding digits
schema_text = refl

deleted_text : text_of (Response.Deleted 0) ≡ codes "ok deleted 0\n"
unfolding digits
deleted_text = refl

-- searches in flight by their numbers: what was read for an answer stands not in it
opened_text : text_of (Response.Opened 1 5) ≡ codes "ok open 1\n"
unfolding digits
opened_text = refl

more_text : text_of (Response.Turned 1 false 3) ≡ codes "ok turn 1 more\n"
unfolding digits
more_text = refl

done_text : text_of (Response.Turned 1 true 0) ≡ codes "ok turn 1 done\n"
unfolding digits
done_text = refl

-- one that closes has the lines of a find
closed_text :
    text_of (Response.Closed 3 (record { hits = record { id = 7; weight = 2; collapsed = 0; payload = [] } ∷ []; lower = 4; estimate = 4; upper = 4; greatest = 2; steps = 9 }) 1)
    ≡ codes "found hits=1 lower=4 estimate=4 upper=4 max=2 steps=9\nhit rank=3 id=7 weight=2 collapsed=0 data=\"\"\n"
unfolding digits
closed_text = refl

-- one that is dropped tells its readings, and each that is still open at the end
dropped_text : text_of (Response.Dropped 2 1) ≡ codes "dropped 2 steps=1\n"
unfolding digits
dropped_text = refl

open_text : text_of (Response.StillOpen ((2, 1) ∷ (5, 1) ∷ [])) ≡ codes "open 2 steps=1\nopen 5 steps=1\n"
unfolding digits
open_text = refl

open_text_of_none : text_of (Response.StillOpen []) ≡ []
open_text_of_none = refl

-- where no answer is printed that says `ok`, those of an opening and of turns are not, and the others are
opened_unsaid : text_under Printing.WithoutOk (Response.Opened 1 5) ≡ []
opened_unsaid = refl

done_unsaid : text_under Printing.WithoutOk (Response.Turned 1 true 0) ≡ []
done_unsaid = refl

dropped_said : text_under Printing.WithoutOk (Response.Dropped 2 1) ≡ codes "dropped 2 steps=1\n"
unfolding digits
dropped_said = refl

open_said : text_under Printing.WithoutOk (Response.StillOpen ((2, 1) ∷ [])) ≡ codes "open 2 steps=1\n"
unfolding digits
open_said = refl

too_many_text : text_of (Response.Refused Refusal.TooManyOpen) ≡ codes "refused 12 TooManyOpen\n"
unfolding digits
too_many_text = refl

not_open_text : text_of (Response.Refused Refusal.NotOpen) ≡ codes "refused 13 NotOpen\n"
unfolding digits
not_open_text = refl

not_done_text : text_of (Response.Refused Refusal.NotDone) ≡ codes "refused 14 NotDone\n"
unfolding digits
not_done_text = refl

-- a line of spaces and tabs is blank, and so is an empty one
blank_line : meaning None (codes " \t\r ") ≡ blank
blank_line = refl

empty_line : meaning None [] ≡ blank
empty_line = refl
