-- Lines that ask, and what they give, worked out by hand from the rules. A ' stands for a ".
use Rattle.std.proofs.Common.{◌∷◌, [], refl, Some, None, codes, true, false}
use Rattle.sk_base.specs.declared.find.Join.{Join}
use Rattle.sk_base.specs.declared.find.Scheme.{Scheme}
use Rattle.sk_base.specs.declared.facets.ValueKind.TheVariants as ValueKind
use Rattle.sk_base.specs.declared.rank.OrderBy.TheVariants as OrderBy
use Rattle.sk_base.specs.declared.find.Ask.{Ask}
use Rattle.sk_record.proofs.ExampleLines.{on_lines, AreGiven, row, schema, plain, rising, relevance, key, collapsed_on, tree_of, found, sought, shown, faceted, bad_shape, bad_field}

-- A text, and how its words are joined.
texts : AreGiven (Some schema) (
    row (codes "{'find':'red'}") (found (Ask.Text (codes "red") Join.Or)) ∷
    row (codes "{'find':''}") (found (Ask.Text [] Join.Or)) ∷
    row (codes "{'find':7}") bad_shape ∷
    row (codes "{'find':null}") bad_shape ∷
    row (codes "{'find':['red']}") bad_shape ∷
    row (codes "{'find':'a','op':'or'}") (found (Ask.Text (codes "a") Join.Or)) ∷
    row (codes "{'find':'a','op':'and'}") (found (Ask.Text (codes "a") Join.And)) ∷
    row (codes "{'find':'a','op':'xor'}") bad_shape ∷
    row (codes "{'find':'a','op':'AND'}") bad_shape ∷
    row (codes "{'find':'a','op':null}") bad_shape ∷
    row (codes "{'find':'a','limit':1}") bad_shape ∷
    row (codes "{'find':'a','data':'x'}") bad_shape ∷
    row (codes "{'find':'a','show':'a'}") bad_shape ∷
    row (codes "{'find':'a','open':'a'}") bad_shape ∷
    row (codes "{'find':'a','times':1}") bad_shape ∷
    [])
unfolding on_lines
texts = refl

-- A scheme.
schemes : AreGiven (Some schema) (
    row (codes "{'find':'a','scheme':'bool'}") (sought (Ask.Text (codes "a") Join.Or) (record plain { scheme = Scheme.Bool }) relevance None) ∷
    row (codes "{'find':'a','scheme':'coord'}") (sought (Ask.Text (codes "a") Join.Or) (record plain { scheme = Scheme.Coord }) relevance None) ∷
    row (codes "{'find':'a','scheme':'bnn'}") (sought (Ask.Text (codes "a") Join.Or) (record plain { scheme = Scheme.Bnn }) relevance None) ∷
    row (codes "{'find':'a','scheme':'snn'}") (sought (Ask.Text (codes "a") Join.Or) (record plain { scheme = Scheme.Snn }) relevance None) ∷
    row (codes "{'find':'a','scheme':'nnn'}") (found (Ask.Text (codes "a") Join.Or)) ∷
    row (codes "{'find':'a','scheme':'tfn'}") bad_shape ∷
    row (codes "{'find':'a','scheme':7}") bad_shape ∷
    row (codes "{'find':'a','scheme':null}") bad_shape ∷
    [])
unfolding on_lines
schemes = refl

-- A page ends within 100,000.
pages : AreGiven (Some schema) (
    row (codes "{'find':'a','first':99990}") (sought (Ask.Text (codes "a") Join.Or) (record plain { first = 99990 }) relevance None) ∷
    row (codes "{'find':'a','first':99991}") bad_shape ∷
    row (codes "{'find':'a','size':100000}") (sought (Ask.Text (codes "a") Join.Or) (record plain { size = 100000 }) relevance None) ∷
    row (codes "{'find':'a','size':100001}") bad_shape ∷
    row (codes "{'find':'a','size':0}") (sought (Ask.Text (codes "a") Join.Or) (record plain { size = 0 }) relevance None) ∷
    row (codes "{'find':'a','first':100000,'size':0}") (sought (Ask.Text (codes "a") Join.Or) (record plain { first = 100000; size = 0 }) relevance None) ∷
    row (codes "{'find':'a','first':100000,'size':1}") bad_shape ∷
    row (codes "{'find':'a','first':100001,'size':0}") bad_shape ∷
    row (codes "{'find':'a','first':18446744073709551615,'size':1}") bad_shape ∷
    row (codes "{'find':'a','first':18446744073709551615,'size':18446744073709551615}") bad_shape ∷
    row (codes "{'find':'a','first':4294967296,'size':0}") bad_shape ∷
    row (codes "{'find':'a','first':1.0}") bad_shape ∷
    row (codes "{'find':'a','first':-0}") bad_shape ∷
    row (codes "{'find':'a','size':1e2}") bad_shape ∷
    row (codes "{'find':'a','size':-1}") bad_shape ∷
    row (codes "{'find':'a','first':'0'}") bad_shape ∷
    row (codes "{'find':'a','first':null}") bad_shape ∷
    row (codes "{'find':'a','size':18446744073709551616}") bad_shape ∷
    [])
unfolding on_lines
pages = refl

-- How many matches are counted.
checks : AreGiven (Some schema) (
    row (codes "{'find':'a','check':4294967295}") (sought (Ask.Text (codes "a") Join.Or) (record plain { check = 4294967295 }) relevance None) ∷
    row (codes "{'find':'a','check':4294967296}") bad_shape ∷
    row (codes "{'find':'a','check':1e2}") bad_shape ∷
    row (codes "{'find':'a','check':true}") bad_shape ∷
    [])
unfolding on_lines
checks = refl

-- An order, and the field that it is by.
orders : AreGiven (Some schema) (
    row (codes "{'find':'a','order':'relevance'}") (found (Ask.Text (codes "a") Join.Or)) ∷
    row (codes "{'find':'a','order':'relevance','by':'year'}") bad_shape ∷
    row (codes "{'find':'a','order':'relevance','reverse':false}") bad_shape ∷
    row (codes "{'find':'a','by':'year'}") bad_shape ∷
    row (codes "{'find':'a','reverse':true}") bad_shape ∷
    row (codes "{'find':'a','reverse':false}") bad_shape ∷
    row (codes "{'find':'a','order':'value'}") bad_shape ∷
    row (codes "{'find':'a','order':'value','reverse':true}") bad_shape ∷
    row (codes "{'find':'a','order':'year','by':'year'}") bad_shape ∷
    row (codes "{'find':'a','order':null,'by':'year'}") bad_shape ∷
    row (codes "{'find':'a','order':'value','by':'year'}") (sought (Ask.Text (codes "a") Join.Or) plain (rising (OrderBy.Value (key 0 false))) None) ∷
    row (codes "{'find':'a','order':'value_relevance','by':'site','reverse':true}") (sought (Ask.Text (codes "a") Join.Or) plain (rising (OrderBy.ValueThenRelevance (key 1 true))) None) ∷
    row (codes "{'find':'a','order':'relevance_value','by':'site','reverse':false}") (sought (Ask.Text (codes "a") Join.Or) plain (rising (OrderBy.RelevanceThenValue (key 1 false))) None) ∷
    row (codes "{'find':'a','order':'value','by':'year','reverse':null}") bad_shape ∷
    row (codes "{'find':'a','order':'value','by':'year','reverse':1}") bad_shape ∷
    row (codes "{'find':'a','order':'value','by':null}") bad_shape ∷
    row (codes "{'find':'a','order':'value','by':0}") bad_shape ∷
    row (codes "{'find':'a','order':'value','by':'body'}") bad_field ∷
    row (codes "{'find':'a','order':'value','by':'lang'}") bad_field ∷
    row (codes "{'find':'a','order':'value','by':'nope'}") bad_field ∷
    row (codes "{'find':'a','order':'value','by':'nope','first':-1}") bad_shape ∷
    [])
unfolding on_lines
orders = refl

-- The least weight of a match, and ids that fall.
cutoffs : AreGiven (Some schema) (
    row (codes "{'find':'a','cutoff':0}") (found (Ask.Text (codes "a") Join.Or)) ∷
    row (codes "{'find':'a','cutoff':18446744073709551615}") (sought (Ask.Text (codes "a") Join.Or) (record plain { cutoff = 18446744073709551615 }) relevance None) ∷
    row (codes "{'find':'a','cutoff':18446744073709551616}") bad_shape ∷
    row (codes "{'find':'a','cutoff':-1}") bad_shape ∷
    row (codes "{'find':'a','cutoff':2.0}") bad_shape ∷
    row (codes "{'find':'a','cutoff':'2'}") bad_shape ∷
    row (codes "{'find':'a','cutoff':null}") bad_shape ∷
    row (codes "{'find':'a','ids':'rising'}") (found (Ask.Text (codes "a") Join.Or)) ∷
    row (codes "{'find':'a','ids':'falling'}") (sought (Ask.Text (codes "a") Join.Or) plain (record relevance { falling = true }) None) ∷
    row (codes "{'find':'a','ids':'Falling'}") bad_shape ∷
    row (codes "{'find':'a','ids':true}") bad_shape ∷
    row (codes "{'find':'a','ids':null}") bad_shape ∷
    row (codes "{'tree':7,'ids':'falling','cutoff':3}") (sought (tree_of (codes "7")) (record plain { cutoff = 3 }) (record relevance { falling = true }) None) ∷
    row (codes "{'find':'a','order':'value','by':'year','ids':'falling'}") (sought (Ask.Text (codes "a") Join.Or) plain (record (rising (OrderBy.Value (key 0 false))) { falling = true }) None) ∷
    row (codes "{'show':'a','cutoff':1}") bad_shape ∷
    [])
unfolding on_lines
cutoffs = refl

-- A field that is collapsed on, and how many are kept.
collapses : AreGiven (Some schema) (
    row (codes "{'find':'a','collapse':'site'}") (sought (Ask.Text (codes "a") Join.Or) plain relevance (collapsed_on 1 1)) ∷
    row (codes "{'find':'a','collapse':'year','max':100000}") (sought (Ask.Text (codes "a") Join.Or) plain relevance (collapsed_on 0 100000)) ∷
    row (codes "{'find':'a','collapse':'site','max':0}") bad_shape ∷
    row (codes "{'find':'a','collapse':'site','max':100001}") bad_shape ∷
    row (codes "{'find':'a','collapse':'site','max':1.0}") bad_shape ∷
    row (codes "{'find':'a','collapse':'site','max':null}") bad_shape ∷
    row (codes "{'find':'a','max':2}") bad_shape ∷
    row (codes "{'find':'a','max':1}") bad_shape ∷
    row (codes "{'find':'a','collapse':null}") bad_shape ∷
    row (codes "{'find':'a','collapse':7}") bad_shape ∷
    row (codes "{'find':'a','collapse':'cat'}") bad_field ∷
    row (codes "{'find':'a','collapse':'nope'}") bad_field ∷
    row (codes "{'find':'a','collapse':'nope','max':0}") bad_shape ∷
    [])
unfolding on_lines
collapses = refl

-- A tree is any value.
trees : AreGiven (Some schema) (
    row (codes "{'tree':null}") (found (tree_of (codes "null"))) ∷
    row (codes "{'tree':{'b':[1,'x'],'a':-0}}") (found (tree_of (codes "{'a':-0.0,'b':[1,'x']}"))) ∷
    row (codes "{'tree':7,'scheme':'bool','first':1,'size':2,'check':3}") (sought (tree_of (codes "7")) (record plain { scheme = Scheme.Bool; first = 1; size = 2; check = 3 }) relevance None) ∷
    row (codes "{'tree':[],'order':'value','by':'year','collapse':'site','max':2}") (sought (tree_of (codes "[]")) plain (rising (OrderBy.Value (key 0 false))) (collapsed_on 1 2)) ∷
    row (codes "{'tree':null,'op':'or'}") bad_shape ∷
    row (codes "{'tree':null,'find':'a'}") bad_shape ∷
    row (codes "{'tree':null,'by':'year'}") bad_shape ∷
    row (codes "{'tree':null,'collapse':'body'}") bad_field ∷
    [])
unfolding on_lines
trees = refl

-- A text that is shown.
texts_to_show : AreGiven (Some schema) (
    row (codes "{'show':'red'}") (shown (codes "red") Join.Or) ∷
    row (codes "{'show':'','op':'and'}") (shown [] Join.And) ∷
    row (codes "{'show':7}") bad_shape ∷
    row (codes "{'show':null}") bad_shape ∷
    row (codes "{'show':'a','op':'not'}") bad_shape ∷
    row (codes "{'show':'a','scheme':'nnn'}") bad_shape ∷
    row (codes "{'show':'a','size':1}") bad_shape ∷
    [])
unfolding on_lines
texts_to_show = refl

-- How often each value of a field stands: the field has values, and no more than 100,000 are told.
facets : AreGiven (Some schema) (
    row (codes "{'facets':'red','by':'year'}") (faceted (codes "red") Join.Or 0 ValueKind.Number 10) ∷
    row (codes "{'facets':'red','by':'site'}") (faceted (codes "red") Join.Or 1 ValueKind.Word 10) ∷
    row (codes "{'by':'site','size':7,'op':'and','facets':''}") (faceted [] Join.And 1 ValueKind.Word 7) ∷
    row (codes "{'facets':'red','by':'site','op':'or','size':0}") (faceted (codes "red") Join.Or 1 ValueKind.Word 0) ∷
    row (codes "{'facets':'red','by':'site','size':100000}") (faceted (codes "red") Join.Or 1 ValueKind.Word 100000) ∷
    row (codes "{'facets':'red','by':'site','size':100001}") bad_shape ∷
    row (codes "{'facets':'red','by':'site','size':18446744073709551615}") bad_shape ∷
    row (codes "{'facets':'red','by':'site','size':18446744073709551616}") bad_shape ∷
    row (codes "{'facets':'red','by':'site','size':-1}") bad_shape ∷
    row (codes "{'facets':'red','by':'site','size':1.0}") bad_shape ∷
    row (codes "{'facets':'red','by':'site','size':null}") bad_shape ∷
    row (codes "{'facets':'red','by':'site','op':'xor'}") bad_shape ∷
    row (codes "{'facets':'red'}") bad_shape ∷
    row (codes "{'facets':'red','size':10}") bad_shape ∷
    row (codes "{'facets':'red','by':null}") bad_shape ∷
    row (codes "{'facets':'red','by':['site']}") bad_shape ∷
    row (codes "{'facets':7,'by':'site'}") bad_shape ∷
    row (codes "{'facets':null,'by':'site'}") bad_shape ∷
    row (codes "{'facets':{'all':[]},'by':'site'}") bad_shape ∷
    row (codes "{'facets':'red','by':'site','first':0}") bad_shape ∷
    row (codes "{'facets':'red','by':'site','cutoff':0}") bad_shape ∷
    row (codes "{'facets':'red','by':'site','scheme':'bool'}") bad_shape ∷
    row (codes "{'facets':'red','by':'site','check':0}") bad_shape ∷
    row (codes "{'facets':'red','by':'site','reverse':false}") bad_shape ∷
    row (codes "{'facets':'red','by':'site','find':'red'}") bad_shape ∷
    row (codes "{'facets':'red','by':'site','show':'red'}") bad_shape ∷
    row (codes "{'facets':'red','by':'body'}") bad_field ∷
    row (codes "{'facets':'red','by':'lang'}") bad_field ∷
    row (codes "{'facets':'red','by':'nope'}") bad_field ∷
    row (codes "{'facets':'red','by':''}") bad_field ∷
    row (codes "{'facets':'red','by':'nope','size':100001}") bad_shape ∷
    row (codes "{'facets':'(','by':'site'}") (faceted (codes "(") Join.Or 1 ValueKind.Word 10) ∷
    [])
unfolding on_lines
facets = refl
