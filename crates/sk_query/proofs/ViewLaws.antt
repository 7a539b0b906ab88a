-- What a query of each form is seen as.
use Rattle.std.proofs.Common.{◌≡◌, ℕ, List, rules, Box, Global, Vec}
use Rattle.sk_query.specs.declared.form.Form.{Form}
use Rattle.sk_query.specs.declared.query.Bound.{Bound}
use Rattle.sk_query.specs.declared.query.Query.{Query, the_lemmas}
use Rattle.sk_query.specs.declared.query.Query.TheVariants as Query
use Rattle.sk_query.specs.Trees.{nothing, all, term, wildcard, parts, near, phrase, synonym, scale, range, limit_of, query_view, queries_view}

pub view-Nothing : query_view Query.Nothing ≡ nothing
view-Nothing = search (rules, the_lemmas)

pub view-All : query_view Query.All ≡ all
view-All = search (rules, the_lemmas)

pub view-Term : (t : List ℕ) → query_view (Query.Term t) ≡ term t
view-Term t = search (rules, the_lemmas)

pub view-Wildcard : (prefix : List ℕ) → query_view (Query.Wildcard prefix) ≡ wildcard prefix
view-Wildcard prefix = search (rules, the_lemmas)

pub view-And : (v : Vec Query Global) → query_view (Query.And v) ≡ parts Form.And (queries_view v.items)
view-And v = search (rules, the_lemmas)

pub view-Or : (v : Vec Query Global) → query_view (Query.Or v) ≡ parts Form.Or (queries_view v.items)
view-Or v = search (rules, the_lemmas)

pub view-Xor : (v : Vec Query Global) → query_view (Query.Xor v) ≡ parts Form.Xor (queries_view v.items)
view-Xor v = search (rules, the_lemmas)

pub view-Max : (v : Vec Query Global) → query_view (Query.Max v) ≡ parts Form.Max (queries_view v.items)
view-Max v = search (rules, the_lemmas)

pub view-AndNot : (v : Vec Query Global) → query_view (Query.AndNot v) ≡ parts Form.AndNot (queries_view v.items)
view-AndNot v = search (rules, the_lemmas)

pub view-AndMaybe : (v : Vec Query Global) → query_view (Query.AndMaybe v) ≡ parts Form.AndMaybe (queries_view v.items)
view-AndMaybe v = search (rules, the_lemmas)

pub view-Filter : (v : Vec Query Global) → query_view (Query.Filter v) ≡ parts Form.Filter (queries_view v.items)
view-Filter v = search (rules, the_lemmas)

pub view-Near : (window : ℕ) (texts : List (List ℕ)) → query_view (Query.Near window texts) ≡ near window texts
view-Near window texts = search (rules, the_lemmas)

pub view-Phrase : (window : ℕ) (texts : List (List ℕ)) → query_view (Query.Phrase window texts) ≡ phrase window texts
view-Phrase window texts = search (rules, the_lemmas)

pub view-Synonym : (texts : List (List ℕ)) → query_view (Query.Synonym texts) ≡ synonym texts
view-Synonym texts = search (rules, the_lemmas)

pub view-Scale : (factor : ℕ) (q : Box Query Global) → query_view (Query.Scale factor q) ≡ scale factor (query_view q.value)
view-Scale factor q = search (rules, the_lemmas)

pub view-Range : (slot : ℕ) (lo hi : Bound) → query_view (Query.Range slot lo hi) ≡ range slot (limit_of lo) (limit_of hi)
view-Range slot lo hi = search (rules, the_lemmas)
