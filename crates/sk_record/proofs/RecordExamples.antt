-- Lines that change documents, and what they give, worked out by hand from the rules. A ' stands for a ".
use Rattle.std.proofs.Common.{◌∷◌, [], refl, Some, codes}
use Rattle.sk_base.specs.declared.record.FieldValue.TheVariants as FieldValue
use Rattle.sk_record.proofs.ExampleLines.{on_lines, AreGiven, row, schema, entry, added, replaced, replaced_by, deleted, deleted_by, not_json, schema_again, bad_shape, bad_field}

-- What is no row of an edit.
no_rows : AreGiven (Some schema) (
    row (codes "red") not_json ∷
    row (codes "{'schema':") not_json ∷
    row (codes "{'schema':[{'name':'a','kind':'text'}]}") schema_again ∷
    row (codes "{'schema':7}") schema_again ∷
    row (codes "{'schema':null,'find':'red'}") schema_again ∷
    row (codes "{}") bad_shape ∷
    row (codes "[]") bad_shape ∷
    row (codes "null") bad_shape ∷
    row (codes "'add'") bad_shape ∷
    row (codes "{'with':{}}") bad_shape ∷
    row (codes "{'data':'x'}") bad_shape ∷
    row (codes "{'ADD':{}}") bad_shape ∷
    [])
unfolding on_lines
no_rows = refl

-- A record and a payload.
additions : AreGiven (Some schema) (
    row (codes "{'add':{}}") (added [] []) ∷
    row (codes "{'add':{},'data':'x'}") (added [] (codes "x")) ∷
    row (codes "{'data':'','add':{}}") (added [] []) ∷
    row (codes "{'add':{},'data':null}") bad_shape ∷
    row (codes "{'add':{},'data':7}") bad_shape ∷
    row (codes "{'add':[]}") bad_shape ∷
    row (codes "{'add':null}") bad_shape ∷
    row (codes "{'add':'red'}") bad_shape ∷
    row (codes "{'add':{},'with':{}}") bad_shape ∷
    row (codes "{'add':{},'delete':1}") bad_shape ∷
    row (codes "{'add':{},'find':'red'}") bad_shape ∷
    [])
unfolding on_lines
additions = refl

-- Values stand by the place of their field; `null` is none, and the last of two counts.
values : AreGiven (Some schema) (
    row (codes "{'add':{'body':'red fox','lang':'en','year':1990,'site':'x.org','cat':['a','b','a','']},'data':'p'}") (added (entry 0 (FieldValue.Text (codes "red fox")) ∷ entry 1 (FieldValue.Filter ((codes "en") ∷ [])) ∷ entry 2 (FieldValue.Number 1990) ∷ entry 3 (FieldValue.Word (codes "x.org")) ∷ entry 4 (FieldValue.Filter ((codes "a") ∷ (codes "b") ∷ (codes "a") ∷ [] ∷ [])) ∷ []) (codes "p")) ∷
    row (codes "{'add':{'year':7,'site':'s','lang':'l','cat':'c','body':'b'}}") (added (entry 0 (FieldValue.Text (codes "b")) ∷ entry 1 (FieldValue.Filter ((codes "l") ∷ [])) ∷ entry 2 (FieldValue.Number 7) ∷ entry 3 (FieldValue.Word (codes "s")) ∷ entry 4 (FieldValue.Filter ((codes "c") ∷ [])) ∷ []) []) ∷
    row (codes "{'add':{'body':null,'lang':null,'year':null,'site':null}}") (added [] []) ∷
    row (codes "{'add':{'body':null,'year':0}}") (added (entry 2 (FieldValue.Number 0) ∷ []) []) ∷
    row (codes "{'add':{'year':1,'year':2}}") (added (entry 2 (FieldValue.Number 2) ∷ []) []) ∷
    row (codes "{'add':{'year':1,'year':null}}") (added [] []) ∷
    row (codes "{'add':7,'add':{}}") (added [] []) ∷
    [])
unfolding on_lines
values = refl

-- Each member names a field.
unknown_fields : AreGiven (Some schema) (
    row (codes "{'add':{'bodi':'x'}}") bad_field ∷
    row (codes "{'add':{'bodi':null}}") bad_field ∷
    row (codes "{'add':{'':'x'}}") bad_field ∷
    row (codes "{'add':{'Body':'x'}}") bad_field ∷
    row (codes "{'add':{'bodi':'x'},'data':7}") bad_shape ∷
    [])
unfolding on_lines
unknown_fields = refl

-- A text is a string, a filter one or an array of them.
texts : AreGiven (Some schema) (
    row (codes "{'add':{'body':''}}") (added (entry 0 (FieldValue.Text []) ∷ []) []) ∷
    row (codes "{'add':{'body':7}}") bad_field ∷
    row (codes "{'add':{'body':['a']}}") bad_field ∷
    row (codes "{'add':{'body':true}}") bad_field ∷
    row (codes "{'add':{'body':{}}}") bad_field ∷
    row (codes "{'add':{'lang':''}}") (added (entry 1 (FieldValue.Filter ([] ∷ [])) ∷ []) []) ∷
    row (codes "{'add':{'lang':[]}}") (added (entry 1 (FieldValue.Filter []) ∷ []) []) ∷
    row (codes "{'add':{'lang':['b','a','b']}}") (added (entry 1 (FieldValue.Filter ((codes "b") ∷ (codes "a") ∷ (codes "b") ∷ [])) ∷ []) []) ∷
    row (codes "{'add':{'lang':7}}") bad_field ∷
    row (codes "{'add':{'lang':[7]}}") bad_field ∷
    row (codes "{'add':{'lang':['a',null]}}") bad_field ∷
    row (codes "{'add':{'lang':[['a']]}}") bad_field ∷
    row (codes "{'add':{'lang':{'a':'b'}}}") bad_field ∷
    [])
unfolding on_lines
texts = refl

-- A number is whole and has 64 bits, a word is a string.
numbers_and_words : AreGiven (Some schema) (
    row (codes "{'add':{'year':18446744073709551615}}") (added (entry 2 (FieldValue.Number 18446744073709551615) ∷ []) []) ∷
    row (codes "{'add':{'year':18446744073709551616}}") bad_field ∷
    row (codes "{'add':{'year':-1}}") bad_field ∷
    row (codes "{'add':{'year':1.0}}") bad_field ∷
    row (codes "{'add':{'year':1e2}}") bad_field ∷
    row (codes "{'add':{'year':-0}}") bad_field ∷
    row (codes "{'add':{'year':'7'}}") bad_field ∷
    row (codes "{'add':{'year':[7]}}") bad_field ∷
    row (codes "{'add':{'site':''}}") (added (entry 3 (FieldValue.Word []) ∷ []) []) ∷
    row (codes "{'add':{'site':7}}") bad_field ∷
    row (codes "{'add':{'site':['a']}}") bad_field ∷
    [])
unfolding on_lines
numbers_and_words = refl

-- A record in the place of an id.
replacements : AreGiven (Some schema) (
    row (codes "{'replace':1,'with':{}}") (replaced 1 [] []) ∷
    row (codes "{'replace':4294967295,'with':{'year':3},'data':'d'}") (replaced 4294967295 (entry 2 (FieldValue.Number 3) ∷ []) (codes "d")) ∷
    row (codes "{'replace':0,'with':{}}") bad_shape ∷
    row (codes "{'replace':4294967296,'with':{}}") bad_shape ∷
    row (codes "{'replace':18446744073709551616,'with':{}}") bad_shape ∷
    row (codes "{'replace':'1','with':{}}") bad_shape ∷
    row (codes "{'replace':1.0,'with':{}}") bad_shape ∷
    row (codes "{'replace':1e2,'with':{}}") bad_shape ∷
    row (codes "{'replace':-0,'with':{}}") bad_shape ∷
    row (codes "{'replace':-1,'with':{}}") bad_shape ∷
    row (codes "{'replace':null,'with':{}}") bad_shape ∷
    row (codes "{'replace':1}") bad_shape ∷
    row (codes "{'replace':1,'with':[]}") bad_shape ∷
    row (codes "{'replace':1,'with':null}") bad_shape ∷
    row (codes "{'replace':1,'with':{},'data':null}") bad_shape ∷
    row (codes "{'replace':1,'with':{},'add':{}}") bad_shape ∷
    row (codes "{'replace':1,'with':{'nope':1}}") bad_field ∷
    row (codes "{'replace':0,'with':{'nope':1}}") bad_shape ∷
    [])
unfolding on_lines
replacements = refl

-- A record in the place of those with a term.
replacements_by_term : AreGiven (Some schema) (
    row (codes "{'replace_by':['cat','Dog'],'with':{'year':1}}") (replaced_by (codes "XCAT:Dog") (entry 2 (FieldValue.Number 1) ∷ []) []) ∷
    row (codes "{'replace_by':['lang','En'],'with':{},'data':'d'}") (replaced_by (codes "LEn") [] (codes "d")) ∷
    row (codes "{'replace_by':['lang',''],'with':{}}") (replaced_by (codes "L") [] []) ∷
    row (codes "{'replace_by':['body','x'],'with':{}}") bad_field ∷
    row (codes "{'replace_by':['year','1'],'with':{}}") bad_field ∷
    row (codes "{'replace_by':['nope','x'],'with':{}}") bad_field ∷
    row (codes "{'replace_by':['lang','x'],'with':{'nope':1}}") bad_field ∷
    row (codes "{'replace_by':['lang'],'with':{}}") bad_shape ∷
    row (codes "{'replace_by':['lang','a','b'],'with':{}}") bad_shape ∷
    row (codes "{'replace_by':['lang',7],'with':{}}") bad_shape ∷
    row (codes "{'replace_by':[7,'a'],'with':{}}") bad_shape ∷
    row (codes "{'replace_by':'lang','with':{}}") bad_shape ∷
    row (codes "{'replace_by':[],'with':{}}") bad_shape ∷
    row (codes "{'replace_by':['nope','x']}") bad_shape ∷
    row (codes "{'replace_by':['lang','x'],'replace':1,'with':{}}") bad_shape ∷
    [])
unfolding on_lines
replacements_by_term = refl

-- The end of an id.
deletions : AreGiven (Some schema) (
    row (codes "{'delete':1}") (deleted 1) ∷
    row (codes "{'delete':4294967295}") (deleted 4294967295) ∷
    row (codes "{'delete':0}") bad_shape ∷
    row (codes "{'delete':4294967296}") bad_shape ∷
    row (codes "{'delete':18446744073709551616}") bad_shape ∷
    row (codes "{'delete':1.0}") bad_shape ∷
    row (codes "{'delete':1e2}") bad_shape ∷
    row (codes "{'delete':-0}") bad_shape ∷
    row (codes "{'delete':null}") bad_shape ∷
    row (codes "{'delete':[1]}") bad_shape ∷
    row (codes "{'delete':1,'data':'x'}") bad_shape ∷
    row (codes "{'delete':1,'delete_by':['lang','a']}") bad_shape ∷
    row (codes "{'delete':1,'delete':2}") (deleted 2) ∷
    [])
unfolding on_lines
deletions = refl

-- The end of those with a term.
deletions_by_term : AreGiven (Some schema) (
    row (codes "{'delete_by':['cat','dog']}") (deleted_by (codes "XCATdog")) ∷
    row (codes "{'delete_by':['cat',':x']}") (deleted_by (codes "XCAT::x")) ∷
    row (codes "{'delete_by':['site','x']}") bad_field ∷
    row (codes "{'delete_by':['nope','x']}") bad_field ∷
    row (codes "{'delete_by':['lang']}") bad_shape ∷
    row (codes "{'delete_by':['lang',null]}") bad_shape ∷
    row (codes "{'delete_by':{'lang':'a'}}") bad_shape ∷
    row (codes "{'delete_by':['lang','a'],'with':{}}") bad_shape ∷
    [])
unfolding on_lines
deletions_by_term = refl
