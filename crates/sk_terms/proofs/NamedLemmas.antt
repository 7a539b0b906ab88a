-- What numbered terms are where a dictionary grows, and the loops over them.
use Rattle.std.proofs.Common.{◌≡◌, ℕ, ◌+◌, ◌<◌, ◌≤◌, Bool, true, false, if◌then◌else◌, List, [], ◌∷◌, ◌++◌, length, get_or, take, drop, is_some, refl, sym, subst, ◌∙◌, arith}
use Rattle.std.proofs.lemmas.List.{take_more, map-append, length_push, length-map, get_or-map, drop_all}
use Rattle.std.proofs.lemmas.List.Elements.{All-from_recursion}
use Rattle.sk_base.specs.declared.doc_entry.DocTerm.{DocTerm}
use Rattle.sk_base.specs.Documents.{AreTerms}
use Rattle.sk_dict.specs.Terms.{term_at, number_of, with_term}
use Rattle.sk_dict.proofs.NumberLaws.{term_at-kept}
use Rattle.sk_packed.specs.Packed.{NumberedTerm, no_term, numbered_at, AreKnown}
use Rattle.sk_packed.proofs.PackedLemmas.{AllByRecursion-push}
use Rattle.sk_terms.specs.Listed.{Listed, TakesOut, TakesOutAll}
use Rattle.sk_terms.specs.Named.{with_its_text, named_all, Grows}
use Rattle.sk_terms.proofs.ListedLemmas.{takes_on}

-- a dictionary that stays, grows and grows again
pub Grows-refl : (terms : List (List ℕ)) → Grows terms terms
Grows-refl terms = record { longer = omega arith; same = λ n lt. refl }

pub Grows-then : (old mid new : List (List ℕ)) → Grows old mid → Grows mid new → Grows old new
Grows-then old mid new g h = record { longer = omega (arith, g.longer, h.longer); same = λ n lt. h.same n (omega (arith, lt, g.longer)) ∙ g.same n lt }

-- by whether the term is there
longer_by : (terms : List (List ℕ)) (term : List ℕ) (b : Bool) → length terms ≤ length (if b then terms else terms ++ term ∷ [])
longer_by terms term true = omega arith
longer_by terms term false = omega (arith, length_push terms term)

pub Grows-with_term : (terms : List (List ℕ)) (term : List ℕ) → Grows terms (with_term term terms)
Grows-with_term terms term = record { longer = longer_by terms term (is_some (number_of term terms)); same = λ n lt. term_at-kept terms term n lt }

-- numbers below a bound are below a higher one
pub known-higher : (low high : ℕ) (terms : List NumberedTerm) → low ≤ high → AreKnown low terms → AreKnown high terms
known-higher low high [] le known = tt
known-higher low high (one ∷ more) le known = (omega (arith, le, known.0), known-higher low high more le known.1)

-- each known term keeps its text
pub named-grown : (old new : List (List ℕ)) (terms : List NumberedTerm) → Grows old new → AreKnown (length old) terms → named_all new terms ≡ named_all old terms
named-grown old new [] g known = refl
named-grown old new (one ∷ more) g known =
    (λ i. record { term = g.same one.number known.0 i; wdf = one.wdf; positions = one.positions } ∷ named-grown old new more g known.1 i)

-- one term more is named
pub names_on : (old new : List (List ℕ)) (terms : List DocTerm) (i n : ℕ) (x : DocTerm) (made : List NumberedTerm) → Grows old new → AreKnown (length old) made → named_all old made ≡ take i terms
    → i < length terms → x ≡ get_or terms i x → term_at new n ≡ x.term
    → named_all new (made ++ record { number = n; wdf = x.wdf; positions = x.positions } ∷ []) ≡ take (i + 1) terms
names_on old new terms i n x made g known before lt is text =
    let one : NumberedTerm = record { number = n; wdf = x.wdf; positions = x.positions } in
    let here : with_its_text new one ≡ x = λ k. record { term = text k; wdf = x.wdf; positions = x.positions } in
    map-append (with_its_text new) made (one ∷ []) ∙ (λ k. (named-grown old new made g known ∙ before) k ++ (here ∙ is) k ∷ []) ∙ sym (take_more terms i x lt)

pub knows_on : (old new : List (List ℕ)) (made : List NumberedTerm) (one : NumberedTerm) → Grows old new → AreKnown (length old) made → one.number < length new → AreKnown (length new) (made ++ one ∷ [])
knows_on old new made one g known lt = AllByRecursion-push (λ (t : NumberedTerm). t.number < length new) made one (known-higher (length old) (length new) made g.longer known) lt

-- a known term by its place
pub known_at : (bound : ℕ) (terms : List NumberedTerm) (i : ℕ) → AreKnown bound terms → i < length terms → (numbered_at terms i).number < bound
known_at bound terms i known lt = All-from_recursion (λ (one : NumberedTerm). one.number < bound) terms known i no_term lt

-- a named term by its place
pub named_at : (dict : List (List ℕ)) (packed : List NumberedTerm) (i : ℕ) (d : DocTerm) → i < length packed → with_its_text dict (numbered_at packed i) ≡ get_or (named_all dict packed) i d
named_at dict packed i d lt = sym (get_or-map (with_its_text dict) packed i no_term d lt)

-- the loop: one term is taken out
pub takes_next : (id i n : ℕ) (packed : List NumberedTerm) (start mid next : Listed) → AreTerms (named_all start.terms packed) → i < length packed → n ≡ (numbered_at packed i).number → mid.terms ≡ start.terms
    → ((new : Listed) → TakesOutAll id (drop i (named_all start.terms packed)) mid new → TakesOutAll id (named_all start.terms packed) start new)
    → TakesOut id (term_at mid.terms n) mid next
    → (new : Listed) → TakesOutAll id (drop (i + 1) (named_all start.terms packed)) next new → TakesOutAll id (named_all start.terms packed) start new
takes_next id i n packed start mid next rising lt is same before one =
    let x : DocTerm = with_its_text start.terms (numbered_at packed i) in
    takes_on id i (named_all start.terms packed) x start mid next rising (omega (arith, lt, length-map packed (with_its_text start.terms))) (named_at start.terms packed i x lt) before
    (subst (λ (w : List ℕ). TakesOut id w mid next) (λ k. term_at (same k) (is k)) one)

-- none is left
pub takes_end : (id i : ℕ) (packed : List NumberedTerm) (start last : Listed) → length packed ≤ i
    → ((new : Listed) → TakesOutAll id (drop i (named_all start.terms packed)) last new → TakesOutAll id (named_all start.terms packed) start new)
    → TakesOutAll id (named_all start.terms packed) start last
takes_end id i packed start last le rest =
    let none : drop i (named_all start.terms packed) ≡ [] = drop_all i (named_all start.terms packed) (omega (arith, le, length-map packed (with_its_text start.terms))) in
    rest last (subst (λ w. TakesOutAll id w last last) (sym none) (λ t. refl))
