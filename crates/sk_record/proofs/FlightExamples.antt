-- Lines on searches in flight, and what they give, worked out by hand from the rules. A ' stands for a ".
use Rattle.std.proofs.Common.{◌∷◌, [], refl, Some, None, codes, true, false}
use Rattle.sk_base.specs.declared.find.Join.{Join}
use Rattle.sk_base.specs.declared.find.Scheme.{Scheme}
use Rattle.sk_base.specs.declared.rank.OrderBy.TheVariants as OrderBy
use Rattle.sk_base.specs.declared.find.Ask.{Ask}
use Rattle.sk_record.proofs.ExampleLines.{on_lines, AreGiven, row, schema, plain, rising, relevance, key, collapsed_on, opened_search, turned, closed, dropped, schema_again, bad_shape, bad_field}

-- A text, and how its words are joined, as a find by text has them.
texts : AreGiven (Some schema) (
    row (codes "{'open':'red'}") (opened_search (Ask.Text (codes "red") Join.Or) plain relevance None) ∷
    row (codes "{'open':''}") (opened_search (Ask.Text [] Join.Or) plain relevance None) ∷
    row (codes "{'op':'and','open':'a'}") (opened_search (Ask.Text (codes "a") Join.And) plain relevance None) ∷
    row (codes "{'open':'a','op':'or'}") (opened_search (Ask.Text (codes "a") Join.Or) plain relevance None) ∷
    row (codes "{'open':'a','open':'b'}") (opened_search (Ask.Text (codes "b") Join.Or) plain relevance None) ∷
    row (codes "{'open':'a','op':'xor'}") bad_shape ∷
    row (codes "{'open':'a','op':null}") bad_shape ∷
    row (codes "{'open':7}") bad_shape ∷
    row (codes "{'open':null}") bad_shape ∷
    row (codes "{'open':['red']}") bad_shape ∷
    row (codes "{'open':{'all':[]}}") bad_shape ∷
    row (codes "{'Open':'a'}") bad_shape ∷
    row (codes "{'opens':'a'}") bad_shape ∷
    row (codes "{}") bad_shape ∷
    [])
unfolding on_lines
texts = refl

-- Each option of a find, in its range.
options : AreGiven (Some schema) (
    row (codes "{'open':'a','scheme':'coord'}") (opened_search (Ask.Text (codes "a") Join.Or) (record plain { scheme = Scheme.Coord }) relevance None) ∷
    row (codes "{'open':'a','scheme':'nnn'}") (opened_search (Ask.Text (codes "a") Join.Or) plain relevance None) ∷
    row (codes "{'open':'a','scheme':'tfn'}") bad_shape ∷
    row (codes "{'open':'a','first':99990}") (opened_search (Ask.Text (codes "a") Join.Or) (record plain { first = 99990 }) relevance None) ∷
    row (codes "{'open':'a','first':99991}") bad_shape ∷
    row (codes "{'open':'a','size':100000}") (opened_search (Ask.Text (codes "a") Join.Or) (record plain { size = 100000 }) relevance None) ∷
    row (codes "{'open':'a','size':100001}") bad_shape ∷
    row (codes "{'open':'a','size':0}") (opened_search (Ask.Text (codes "a") Join.Or) (record plain { size = 0 }) relevance None) ∷
    row (codes "{'open':'a','size':-1}") bad_shape ∷
    row (codes "{'open':'a','size':1.0}") bad_shape ∷
    row (codes "{'open':'a','check':4294967295}") (opened_search (Ask.Text (codes "a") Join.Or) (record plain { check = 4294967295 }) relevance None) ∷
    row (codes "{'open':'a','check':4294967296}") bad_shape ∷
    row (codes "{'open':'a','cutoff':18446744073709551615}") (opened_search (Ask.Text (codes "a") Join.Or) (record plain { cutoff = 18446744073709551615 }) relevance None) ∷
    row (codes "{'open':'a','cutoff':18446744073709551616}") bad_shape ∷
    row (codes "{'open':'a','ids':'falling'}") (opened_search (Ask.Text (codes "a") Join.Or) plain (record relevance { falling = true }) None) ∷
    row (codes "{'open':'a','ids':true}") bad_shape ∷
    row (codes "{'open':'a','order':'relevance'}") (opened_search (Ask.Text (codes "a") Join.Or) plain relevance None) ∷
    row (codes "{'open':'a','order':'relevance','by':'year'}") bad_shape ∷
    row (codes "{'open':'a','order':'value','by':'year'}") (opened_search (Ask.Text (codes "a") Join.Or) plain (rising (OrderBy.Value (key 0 false))) None) ∷
    row (codes "{'open':'a','order':'value_relevance','by':'site','reverse':true}") (opened_search (Ask.Text (codes "a") Join.Or) plain (rising (OrderBy.ValueThenRelevance (key 1 true))) None) ∷
    row (codes "{'open':'a','order':'relevance_value','by':'site','reverse':false}") (opened_search (Ask.Text (codes "a") Join.Or) plain (rising (OrderBy.RelevanceThenValue (key 1 false))) None) ∷
    row (codes "{'open':'a','order':'value'}") bad_shape ∷
    row (codes "{'open':'a','by':'year'}") bad_shape ∷
    row (codes "{'open':'a','reverse':false}") bad_shape ∷
    row (codes "{'open':'a','collapse':'site'}") (opened_search (Ask.Text (codes "a") Join.Or) plain relevance (collapsed_on 1 1)) ∷
    row (codes "{'open':'a','collapse':'year','max':100000}") (opened_search (Ask.Text (codes "a") Join.Or) plain relevance (collapsed_on 0 100000)) ∷
    row (codes "{'open':'a','collapse':'site','max':0}") bad_shape ∷
    row (codes "{'open':'a','collapse':'site','max':100001}") bad_shape ∷
    row (codes "{'open':'a','max':1}") bad_shape ∷
    row (codes "{'open':'a','op':'and','scheme':'bool','first':1,'size':2,'check':3,'cutoff':4,'order':'value','by':'year','reverse':true,'ids':'falling','collapse':'site','max':5}") (opened_search (Ask.Text (codes "a") Join.And) (record { scheme = Scheme.Bool; first = 1; size = 2; check = 3; cutoff = 4 }) (record (rising (OrderBy.Value (key 0 true))) { falling = true }) (collapsed_on 1 5)) ∷
    [])
unfolding on_lines
options = refl

-- A field that is named has values; the shape is asked for first.
fields : AreGiven (Some schema) (
    row (codes "{'open':'a','order':'value','by':'body'}") bad_field ∷
    row (codes "{'open':'a','order':'value','by':'lang'}") bad_field ∷
    row (codes "{'open':'a','order':'value','by':'nope'}") bad_field ∷
    row (codes "{'open':'a','collapse':'cat'}") bad_field ∷
    row (codes "{'open':'a','collapse':'nope'}") bad_field ∷
    row (codes "{'open':'a','order':'value','by':'nope','first':-1}") bad_shape ∷
    row (codes "{'open':'a','collapse':'nope','max':0}") bad_shape ∷
    row (codes "{'open':7,'collapse':'nope'}") bad_shape ∷
    row (codes "{'open':'a','collapse':'nope','times':1}") bad_shape ∷
    [])
unfolding on_lines
fields = refl

-- Turns: the number of a search is any of 64 bits.
turns : AreGiven (Some schema) (
    row (codes "{'turn':0}") (turned 0 1) ∷
    row (codes "{'turn':7}") (turned 7 1) ∷
    row (codes "{'turn':4294967296}") (turned 4294967296 1) ∷
    row (codes "{'turn':18446744073709551615}") (turned 18446744073709551615 1) ∷
    row (codes "{'turn':18446744073709551616}") bad_shape ∷
    row (codes "{'turn':-1}") bad_shape ∷
    row (codes "{'turn':-0}") bad_shape ∷
    row (codes "{'turn':1.0}") bad_shape ∷
    row (codes "{'turn':1e2}") bad_shape ∷
    row (codes "{'turn':'7'}") bad_shape ∷
    row (codes "{'turn':null}") bad_shape ∷
    row (codes "{'turn':true}") bad_shape ∷
    row (codes "{'turn':[7]}") bad_shape ∷
    row (codes "{'turn':{}}") bad_shape ∷
    row (codes "{'turn':7,'turn':8}") (turned 8 1) ∷
    row (codes "{'turns':7}") bad_shape ∷
    [])
unfolding on_lines
turns = refl

-- How many turns: 1 to 100,000, and 1 where nothing is said.
times : AreGiven (Some schema) (
    row (codes "{'turn':7,'times':1}") (turned 7 1) ∷
    row (codes "{'times':2,'turn':0}") (turned 0 2) ∷
    row (codes "{'turn':7,'times':100000}") (turned 7 100000) ∷
    row (codes "{'turn':7,'times':0}") bad_shape ∷
    row (codes "{'turn':7,'times':100001}") bad_shape ∷
    row (codes "{'turn':7,'times':4294967297}") bad_shape ∷
    row (codes "{'turn':7,'times':18446744073709551615}") bad_shape ∷
    row (codes "{'turn':7,'times':18446744073709551617}") bad_shape ∷
    row (codes "{'turn':7,'times':-1}") bad_shape ∷
    row (codes "{'turn':7,'times':1.0}") bad_shape ∷
    row (codes "{'turn':7,'times':1e2}") bad_shape ∷
    row (codes "{'turn':7,'times':'1'}") bad_shape ∷
    row (codes "{'turn':7,'times':null}") bad_shape ∷
    row (codes "{'turn':7,'times':[1]}") bad_shape ∷
    row (codes "{'turn':7,'times':0,'times':3}") (turned 7 3) ∷
    row (codes "{'times':1}") bad_shape ∷
    [])
unfolding on_lines
times = refl

-- The report of a search.
closes : AreGiven (Some schema) (
    row (codes "{'close':0}") (closed 0) ∷
    row (codes "{'close':7}") (closed 7) ∷
    row (codes "{'close':4294967296}") (closed 4294967296) ∷
    row (codes "{'close':18446744073709551615}") (closed 18446744073709551615) ∷
    row (codes "{'close':18446744073709551616}") bad_shape ∷
    row (codes "{'close':-1}") bad_shape ∷
    row (codes "{'close':-0}") bad_shape ∷
    row (codes "{'close':1.0}") bad_shape ∷
    row (codes "{'close':1e2}") bad_shape ∷
    row (codes "{'close':'7'}") bad_shape ∷
    row (codes "{'close':null}") bad_shape ∷
    row (codes "{'close':true}") bad_shape ∷
    row (codes "{'close':[7]}") bad_shape ∷
    row (codes "{'close':{}}") bad_shape ∷
    row (codes "{'close':7,'close':8}") (closed 8) ∷
    row (codes "{'closes':7}") bad_shape ∷
    [])
unfolding on_lines
closes = refl

-- The end of a search.
drops : AreGiven (Some schema) (
    row (codes "{'drop':0}") (dropped 0) ∷
    row (codes "{'drop':7}") (dropped 7) ∷
    row (codes "{'drop':4294967296}") (dropped 4294967296) ∷
    row (codes "{'drop':18446744073709551615}") (dropped 18446744073709551615) ∷
    row (codes "{'drop':18446744073709551616}") bad_shape ∷
    row (codes "{'drop':-1}") bad_shape ∷
    row (codes "{'drop':-0}") bad_shape ∷
    row (codes "{'drop':1.0}") bad_shape ∷
    row (codes "{'drop':1e2}") bad_shape ∷
    row (codes "{'drop':'7'}") bad_shape ∷
    row (codes "{'drop':null}") bad_shape ∷
    row (codes "{'drop':true}") bad_shape ∷
    row (codes "{'drop':[7]}") bad_shape ∷
    row (codes "{'drop':{}}") bad_shape ∷
    row (codes "{'drop':7,'drop':8}") (dropped 8) ∷
    row (codes "{'drops':7}") bad_shape ∷
    [])
unfolding on_lines
drops = refl

-- A further member, and members of two rows.
strangers : AreGiven (Some schema) (
    row (codes "{'open':'a','limit':1}") bad_shape ∷
    row (codes "{'open':'a','data':'x'}") bad_shape ∷
    row (codes "{'open':'a','times':1}") bad_shape ∷
    row (codes "{'open':'a','find':'a'}") bad_shape ∷
    row (codes "{'open':'a','tree':null}") bad_shape ∷
    row (codes "{'open':'a','show':'a'}") bad_shape ∷
    row (codes "{'open':'a','turn':7}") bad_shape ∷
    row (codes "{'open':'a','close':7}") bad_shape ∷
    row (codes "{'open':'a','add':{}}") bad_shape ∷
    row (codes "{'turn':7,'size':1}") bad_shape ∷
    row (codes "{'turn':7,'op':'or'}") bad_shape ∷
    row (codes "{'turn':7,'close':7}") bad_shape ∷
    row (codes "{'turn':7,'drop':7}") bad_shape ∷
    row (codes "{'turn':7,'find':'a'}") bad_shape ∷
    row (codes "{'close':7,'times':1}") bad_shape ∷
    row (codes "{'close':7,'drop':7}") bad_shape ∷
    row (codes "{'close':7,'delete':7}") bad_shape ∷
    row (codes "{'close':7,'data':'x'}") bad_shape ∷
    row (codes "{'drop':7,'times':1}") bad_shape ∷
    row (codes "{'drop':7,'delete':7}") bad_shape ∷
    row (codes "{'drop':7,'data':'x'}") bad_shape ∷
    row (codes "{'drop':7,'facets':'a','by':'site'}") bad_shape ∷
    row (codes "{'open':'a','schema':[]}") schema_again ∷
    row (codes "{'drop':7,'schema':7}") schema_again ∷
    [])
unfolding on_lines
strangers = refl
