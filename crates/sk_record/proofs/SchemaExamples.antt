-- Lines before a schema was accepted, and what they give, worked out by hand from the rules. A ' stands for a ".
use Rattle.std.proofs.Common.{◌∷◌, [], refl, None, codes}
use Rattle.sk_base.specs.declared.schema.FieldKind.TheVariants as FieldKind
use Rattle.sk_record.proofs.ExampleLines.{on_lines, AreGiven, row, field, opened, opened_stemming, opened_in, not_json, no_schema, bad_shape, bad_field}

-- Bytes that are no JSON value.
no_json : AreGiven None (
    row (codes "") not_json ∷
    row (codes "{") not_json ∷
    row (codes "nul") not_json ∷
    row (codes "{} {}") not_json ∷
    row (codes "1e400") not_json ∷
    row (codes "'\\ud800'") not_json ∷
    row (codes "{'schema':[{'name':'a','kind':'text'}]") not_json ∷
    [])
unfolding on_lines
no_json = refl

-- A value without the member `schema`.
no_schema_yet : AreGiven None (
    row (codes "{}") no_schema ∷
    row (codes "[]") no_schema ∷
    row (codes "null") no_schema ∷
    row (codes "7") no_schema ∷
    row (codes "'schema'") no_schema ∷
    row (codes "['schema']") no_schema ∷
    row (codes "{'find':'red'}") no_schema ∷
    row (codes "{'find':7}") no_schema ∷
    row (codes "{'facets':'red','by':'site'}") no_schema ∷
    row (codes "{'open':'red'}") no_schema ∷
    row (codes "{'turn':0}") no_schema ∷
    row (codes "{'turn':-1}") no_schema ∷
    row (codes "{'close':0}") no_schema ∷
    row (codes "{'drop':0}") no_schema ∷
    row (codes "{'schemas':[]}") no_schema ∷
    row (codes "{'add':{'schema':[]}}") no_schema ∷
    [])
unfolding on_lines
no_schema_yet = refl

-- One member, and an array of objects. The members of an object stand in any order, and the last of two counts.
lines : AreGiven None (
    row (codes "{'schema':[]}") bad_shape ∷
    row (codes "{'schema':null}") bad_shape ∷
    row (codes "{'schema':{'name':'a','kind':'text'}}") bad_shape ∷
    row (codes "{'schema':[{'name':'a','kind':'text'}],'find':'red'}") bad_shape ∷
    row (codes "{'schema':[7]}") bad_shape ∷
    row (codes "{'schema':[[]]}") bad_shape ∷
    row (codes "{'schema':[{}]}") bad_shape ∷
    row (codes "{'schema':[{'name':'a','kind':'text'},null]}") bad_shape ∷
    row (codes " {'schema' : [ {'kind':'text','name':'a'} ] } ") (opened (field (codes "a") (FieldKind.Text [] 1) ∷ [])) ∷
    row (codes "{'schema':7,'schema':[{'name':'a','kind':'text'}]}") (opened (field (codes "a") (FieldKind.Text [] 1) ∷ [])) ∷
    row (codes "{'schema':[{'name':'b','kind':'word','slot':3},{'name':'a','kind':'text'}]}") (opened (field (codes "b") (FieldKind.Word 3) ∷ field (codes "a") (FieldKind.Text [] 1) ∷ [])) ∷
    [])
unfolding on_lines
lines = refl

-- Whether words are stemmed: true or false, and false where nothing is said.
stems : AreGiven None (
    row (codes "{'schema':[{'name':'a','kind':'text'}],'stem':true}") (opened_stemming (field (codes "a") (FieldKind.Text [] 1) ∷ [])) ∷
    row (codes "{'stem':false,'schema':[{'name':'a','kind':'text'}]}") (opened (field (codes "a") (FieldKind.Text [] 1) ∷ [])) ∷
    row (codes "{'stem':7,'schema':[{'name':'a','kind':'text'}],'stem':true}") (opened_stemming (field (codes "a") (FieldKind.Text [] 1) ∷ [])) ∷
    row (codes "{'schema':[{'name':'a','kind':'text'}],'stem':null}") bad_shape ∷
    row (codes "{'schema':[{'name':'a','kind':'text'}],'stem':1}") bad_shape ∷
    row (codes "{'schema':[{'name':'a','kind':'text'}],'stem':'true'}") bad_shape ∷
    row (codes "{'schema':[{'name':'a','kind':'text'}],'stem':[]}") bad_shape ∷
    row (codes "{'schema':[{'name':'a','kind':'text','stem':true}]}") bad_shape ∷
    row (codes "{'schema':[{'name':'A','kind':'text'}],'stem':true}") bad_field ∷
    row (codes "{'schema':[{'name':'A','kind':'text'}],'stem':1}") bad_shape ∷
    row (codes "{'stem':true}") no_schema ∷
    [])
unfolding on_lines
stems = refl

-- The number of parts: 1 to 16, and 1 where nothing is said. The fields are judged behind it.
parts : AreGiven None (
    row (codes "{'schema':[{'name':'a','kind':'text'}],'parts':1}") (opened (field (codes "a") (FieldKind.Text [] 1) ∷ [])) ∷
    row (codes "{'parts':2,'schema':[{'name':'a','kind':'text'}]}") (opened_in 2 (field (codes "a") (FieldKind.Text [] 1) ∷ [])) ∷
    row (codes "{'schema':[{'name':'a','kind':'text'}],'parts':16,'stem':false}") (opened_in 16 (field (codes "a") (FieldKind.Text [] 1) ∷ [])) ∷
    row (codes "{'parts':0,'schema':[{'name':'a','kind':'text'}],'parts':3}") (opened_in 3 (field (codes "a") (FieldKind.Text [] 1) ∷ [])) ∷
    row (codes "{'schema':[{'name':'a','kind':'text'}],'parts':0}") bad_shape ∷
    row (codes "{'schema':[{'name':'a','kind':'text'}],'parts':17}") bad_shape ∷
    row (codes "{'schema':[{'name':'a','kind':'text'}],'parts':-1}") bad_shape ∷
    row (codes "{'schema':[{'name':'a','kind':'text'}],'parts':null}") bad_shape ∷
    row (codes "{'schema':[{'name':'a','kind':'text'}],'parts':1.5}") bad_shape ∷
    row (codes "{'schema':[{'name':'a','kind':'text'}],'parts':'2'}") bad_shape ∷
    row (codes "{'schema':[{'name':'a','kind':'text'}],'parts':18446744073709551616}") bad_shape ∷
    row (codes "{'schema':[{'name':'A','kind':'text'}],'parts':2}") bad_field ∷
    row (codes "{'schema':[{'name':'A','kind':'text'}],'parts':17}") bad_shape ∷
    row (codes "{'parts':2}") no_schema ∷
    [])
unfolding on_lines
parts = refl

-- A field has a name and a kind.
names_and_kinds : AreGiven None (
    row (codes "{'schema':[{'name':'a'}]}") bad_shape ∷
    row (codes "{'schema':[{'kind':'text'}]}") bad_shape ∷
    row (codes "{'schema':[{'name':7,'kind':'text'}]}") bad_shape ∷
    row (codes "{'schema':[{'name':null,'kind':'text'}]}") bad_shape ∷
    row (codes "{'schema':[{'name':'a','kind':'Text'}]}") bad_shape ∷
    row (codes "{'schema':[{'name':'a','kind':null}]}") bad_shape ∷
    row (codes "{'schema':[{'name':'a','kind':'text','size':1}]}") bad_shape ∷
    row (codes "{'schema':[{'name':'','kind':'text'}]}") bad_field ∷
    row (codes "{'schema':[{'name':'1a','kind':'text'}]}") bad_field ∷
    row (codes "{'schema':[{'name':'A','kind':'text'}]}") bad_field ∷
    row (codes "{'schema':[{'name':'abcdefghijklmnopqrstuvwxyz_01234','kind':'text'}]}") (opened (field (codes "abcdefghijklmnopqrstuvwxyz_01234") (FieldKind.Text [] 1) ∷ [])) ∷
    row (codes "{'schema':[{'name':'abcdefghijklmnopqrstuvwxyz_012345','kind':'text'}]}") bad_field ∷
    row (codes "{'schema':[{'name':'A','kind':'text'},{'name':'b'}]}") bad_shape ∷
    [])
unfolding on_lines
names_and_kinds = refl

-- A text field may have a prefix and a step.
text_fields : AreGiven None (
    row (codes "{'schema':[{'name':'a','kind':'text','prefix':'XA','step':256}]}") (opened (field (codes "a") (FieldKind.Text (codes "XA") 256) ∷ [])) ∷
    row (codes "{'schema':[{'name':'a','kind':'text','prefix':'','step':1}]}") (opened (field (codes "a") (FieldKind.Text [] 1) ∷ [])) ∷
    row (codes "{'schema':[{'name':'a','kind':'text','prefix':null}]}") bad_shape ∷
    row (codes "{'schema':[{'name':'a','kind':'text','prefix':7}]}") bad_shape ∷
    row (codes "{'schema':[{'name':'a','kind':'text','prefix':'Z'}]}") bad_field ∷
    row (codes "{'schema':[{'name':'a','kind':'text','step':0}]}") bad_field ∷
    row (codes "{'schema':[{'name':'a','kind':'text','step':257}]}") bad_field ∷
    row (codes "{'schema':[{'name':'a','kind':'text','step':4294967296}]}") bad_field ∷
    row (codes "{'schema':[{'name':'a','kind':'text','step':4294967297}]}") bad_field ∷
    row (codes "{'schema':[{'name':'a','kind':'text','step':18446744073709551615}]}") bad_field ∷
    row (codes "{'schema':[{'name':'a','kind':'text','step':18446744073709551616}]}") bad_shape ∷
    row (codes "{'schema':[{'name':'a','kind':'text','step':1.0}]}") bad_shape ∷
    row (codes "{'schema':[{'name':'a','kind':'text','step':1e2}]}") bad_shape ∷
    row (codes "{'schema':[{'name':'a','kind':'text','step':-0}]}") bad_shape ∷
    row (codes "{'schema':[{'name':'a','kind':'text','step':-1}]}") bad_shape ∷
    row (codes "{'schema':[{'name':'a','kind':'text','step':'1'}]}") bad_shape ∷
    row (codes "{'schema':[{'name':'a','kind':'text','step':null}]}") bad_shape ∷
    row (codes "{'schema':[{'name':'a','kind':'text','slot':1}]}") bad_shape ∷
    [])
unfolding on_lines
text_fields = refl

-- A filter has a prefix.
filters : AreGiven None (
    row (codes "{'schema':[{'name':'a','kind':'filter','prefix':'L'}]}") (opened (field (codes "a") (FieldKind.Filter (codes "L")) ∷ [])) ∷
    row (codes "{'schema':[{'name':'a','kind':'filter'}]}") bad_shape ∷
    row (codes "{'schema':[{'name':'a','kind':'filter','prefix':''}]}") bad_field ∷
    row (codes "{'schema':[{'name':'a','kind':'filter','prefix':'X'}]}") bad_field ∷
    row (codes "{'schema':[{'name':'a','kind':'filter','prefix':'XABCDEFGHIJKLMNO'}]}") (opened (field (codes "a") (FieldKind.Filter (codes "XABCDEFGHIJKLMNO")) ∷ [])) ∷
    row (codes "{'schema':[{'name':'a','kind':'filter','prefix':'XABCDEFGHIJKLMNOP'}]}") bad_field ∷
    row (codes "{'schema':[{'name':'a','kind':'filter','prefix':'L','step':1}]}") bad_shape ∷
    row (codes "{'schema':[{'name':'a','kind':'filter','prefix':'L','slot':1}]}") bad_shape ∷
    row (codes "{'schema':[{'name':'a','kind':'filter','prefix':7}]}") bad_shape ∷
    [])
unfolding on_lines
filters = refl

-- A number and a word have a slot.
slots : AreGiven None (
    row (codes "{'schema':[{'name':'a','kind':'number','slot':0}]}") (opened (field (codes "a") (FieldKind.Number 0) ∷ [])) ∷
    row (codes "{'schema':[{'name':'a','kind':'word','slot':255}]}") (opened (field (codes "a") (FieldKind.Word 255) ∷ [])) ∷
    row (codes "{'schema':[{'name':'a','kind':'number'}]}") bad_shape ∷
    row (codes "{'schema':[{'name':'a','kind':'word'}]}") bad_shape ∷
    row (codes "{'schema':[{'name':'a','kind':'number','slot':256}]}") bad_field ∷
    row (codes "{'schema':[{'name':'a','kind':'word','slot':4294967296}]}") bad_field ∷
    row (codes "{'schema':[{'name':'a','kind':'word','slot':18446744073709551616}]}") bad_shape ∷
    row (codes "{'schema':[{'name':'a','kind':'number','slot':1.0}]}") bad_shape ∷
    row (codes "{'schema':[{'name':'a','kind':'number','slot':-0}]}") bad_shape ∷
    row (codes "{'schema':[{'name':'a','kind':'word','slot':null}]}") bad_shape ∷
    row (codes "{'schema':[{'name':'a','kind':'number','slot':0,'prefix':''}]}") bad_shape ∷
    row (codes "{'schema':[{'name':'a','kind':'word','slot':0,'step':1}]}") bad_shape ∷
    [])
unfolding on_lines
slots = refl

-- Names, slots and the prefixes of filters are not shared.
clashes : AreGiven None (
    row (codes "{'schema':[{'name':'a','kind':'text'},{'name':'a','kind':'number','slot':0}]}") bad_field ∷
    row (codes "{'schema':[{'name':'a','kind':'number','slot':5},{'name':'b','kind':'word','slot':5}]}") bad_field ∷
    row (codes "{'schema':[{'name':'a','kind':'filter','prefix':'L'},{'name':'b','kind':'filter','prefix':'L'}]}") bad_field ∷
    row (codes "{'schema':[{'name':'a','kind':'text','prefix':'L'},{'name':'b','kind':'filter','prefix':'L'}]}") bad_field ∷
    row (codes "{'schema':[{'name':'a','kind':'text','prefix':'L'},{'name':'b','kind':'text','prefix':'L'}]}") (opened (field (codes "a") (FieldKind.Text (codes "L") 1) ∷ field (codes "b") (FieldKind.Text (codes "L") 1) ∷ [])) ∷
    [])
unfolding on_lines
clashes = refl
