-- The tokens of a list as parts of a query, each bracket being one part already.
use Rattle.std.specs.Prelude.{ℕ, ◌+◌, ◌-◌, ◌&&◌, not, max, Bool, true, false, List, [], ◌∷◌, ◌++◌, length, map, if◌then◌else◌, Option, Some, None, unwrap_or}
use Rattle.std.specs.List.{slice_get}
use Rattle.std.specs.Str.Parse.{digits_value}
use Rattle.sk_base.specs.declared.schema.Field.{Field}
use Rattle.sk_base.specs.declared.schema.Schema.{Schema}
use Rattle.sk_base.specs.declared.schema.FieldKind.{FieldKind}
use Rattle.sk_base.specs.Fields.{kind_prefix, kind_slot}
use Rattle.sk_base.specs.Terms.{prefixed}
use Rattle.sk_stem.specs.Terms.{stem_term}
use Rattle.sk_query.specs.Trees.{Tree, nothing, term, wildcard, near, phrase, range, Limit, unbounded, number, bytes}
use Rattle.sk_grammar.specs.declared.token.Kind.{Kind}
use Rattle.sk_grammar.specs.Bounds.{halves, is_number_kind}

-- A part of a list of tokens.
pub data Part : Type 0 where
  -- Words that NEAR or, where the order counts, ADJ holds together, with the greatest distance; or a word alone, with the term of its stem where that is asked for in its place.
  chain : Bool → ℕ → Option (List ℕ) → List (List ℕ) → Part
  -- Another unit that is no filter.
  unit : Tree → Part
  -- A filter or a range, with its field.
  chosen : ℕ → Tree → Part
  -- Brackets with nothing inside.
  empty : Part
  -- NEAR or, where the order counts, ADJ, with its distance.
  link : Bool → ℕ → Part
  -- Another operator, or a mark.
  operator : Kind → Part

-- The prefix of a field's terms.
abbrev pub prefix_of : Option Field → List ℕ
prefix_of None = []
prefix_of (Some field) = kind_prefix (Field.kind field)

-- The prefix under a token's own field, or else the one of the brackets around it.
abbrev pub prefix_in : Schema → List ℕ → Option ℕ → List ℕ
prefix_in schema around None = around
prefix_in schema around (Some f) = prefix_of (slice_get schema.fields f)

-- Words that stand side by side: in their order, within as many places as there are words; one word is a term.
abbrev pub side_by_side : List (List ℕ) → Tree
side_by_side [] = nothing
side_by_side (t ∷ []) = term t
side_by_side (t ∷ u ∷ ts) = phrase (length (t ∷ u ∷ ts)) (t ∷ u ∷ ts)

-- A bound of a field of this kind: an open one, a number, or the text as it is written.
abbrev pub limit_in : FieldKind → List ℕ → Limit
limit_in kind [] = unbounded
limit_in kind (b ∷ bs) = if is_number_kind kind then number (digits_value 10 (b ∷ bs)) else bytes (b ∷ bs)

-- The slot of a field, 0 where it has none.
abbrev pub slot_of : FieldKind → ℕ
slot_of kind = unwrap_or (kind_slot kind) 0

-- The range of a field: its slot, between the two bounds of the text.
abbrev pub range_in : Option Field → List ℕ → Tree
range_in None text = nothing
range_in (Some field) text =
    range (slot_of (Field.kind field)) (limit_in (Field.kind field) (halves text).0) (limit_in (Field.kind field) (halves text).1)

-- The terms under a prefix.
abbrev pub all_prefixed : List ℕ → List (List ℕ) → List (List ℕ)
all_prefixed prefix terms = map (prefixed prefix) terms

-- The term that is asked for in the place of a word that stands alone: its stem's, where the schema asks for stems and no capital letter begins the word.
abbrev pub stem_asked : Bool → Bool → List ℕ → List ℕ → Option (List ℕ)
stem_asked stems capital prefix t = if stems && not capital then Some (stem_term prefix t) else None

-- The part that a token is, which is no bracket, where the brackets around it give this prefix.
abbrev pub single_part : Schema → List ℕ → Kind → Part
single_part schema around (Kind.Word field t capital) =
    chain false 0 (stem_asked schema.stem capital (prefix_in schema around field) t) (prefixed (prefix_in schema around field) t ∷ [])
single_part schema around (Kind.Wild field t) = unit (wildcard (prefixed (prefix_in schema around field) t))
single_part schema around (Kind.Joined field ts) = unit (side_by_side (all_prefixed (prefix_in schema around field) ts))
single_part schema around (Kind.Quote field ts) = unit (side_by_side (all_prefixed (prefix_in schema around field) ts))
single_part schema around (Kind.Filter f text) = chosen f (term (prefixed (prefix_of (slice_get schema.fields f)) text))
single_part schema around (Kind.Range f text) = chosen f (range_in (slice_get schema.fields f) text)
single_part schema around (Kind.Near n) = link false n
single_part schema around (Kind.Adj n) = link true n
single_part schema around k = operator k

-- Words behind a link, with what stands before that, the last first: they go to the chain there, which then has the greater distance, and asks for no stem.
abbrev pub linked : Bool → ℕ → List Part → Bool → ℕ → Option (List ℕ) → List (List ℕ) → List Part
linked ordered n (chain o m s ts ∷ before) p k r us = chain ordered (max m n) None (ts ++ us) ∷ before
linked ordered n before p k r us = chain p k r us ∷ link ordered n ∷ before

-- Words behind other parts, the last of which stands first.
abbrev pub with_words : List Part → Bool → ℕ → Option (List ℕ) → List (List ℕ) → List Part
with_words (link ordered n ∷ before) p k r us = linked ordered n before p k r us
with_words before p k r us = chain p k r us ∷ before

-- A part behind others, the last of which stands first.
abbrev pub with_part : List Part → Part → List Part
with_part before (chain ordered n s ts) = with_words before ordered n s ts
with_part before p = p ∷ before

-- Parts behind others, the last of which stands first, with the words that are linked put together.
abbrev pub chained : List Part → List Part → List Part
chained before [] = before
chained before (p ∷ ps) = chained (with_part before p) ps

-- The query of a chain: its window is the greatest distance and one for each word but the first. One word is its term, or its stem's.
abbrev pub chain_tree : Bool → ℕ → Option (List ℕ) → List (List ℕ) → Tree
chain_tree ordered n s [] = nothing
chain_tree ordered n s (t ∷ []) = term (unwrap_or s t)
chain_tree true n s (t ∷ u ∷ ts) = phrase (n + length (t ∷ u ∷ ts) - 1) (t ∷ u ∷ ts)
chain_tree false n s (t ∷ u ∷ ts) = near (n + length (t ∷ u ∷ ts) - 1) (t ∷ u ∷ ts)
