-- What the list of a term, and that of all documents, gives.
use Rattle.std.proofs.Common.{◌≡◌, ◌^◌, ℕ, nat_lt, Bool, true, false, List, [], ◌∷◌, length, Option, None, Some, if◌then◌else◌, inl, inr, refl, sym, subst, ap, ◌∙◌, arith, ◌||◌}
use Rattle.std.specs.Option.{option_map}
use Rattle.std.proofs.lemmas.Bool.{cases_eq}
use Rattle.sk_base.specs.declared.find.Scheme.{Scheme}
use Rattle.sk_base.specs.Documents.{has_term, wdf_of}
use Rattle.sk_base.specs.Numbers.{Docs, some_has}
use Rattle.sk_sorted.specs.Entries.{RiseAbove, LieBelow, AreSorted}
use Rattle.sk_sorted.proofs.EntryLaws.{found-here, found-other}
use Rattle.sk_chunks.specs.Postings.{Postings, greatest_wdf}
use Rattle.sk_query.specs.Trees as Query
use Rattle.sk_model.specs.Documents.{Document}
use Rattle.sk_model.specs.Edits.{document_at}
use Rattle.sk_model.specs.Weights.{weigh_by}
use Rattle.sk_model.specs.Scores.{weight_if}
use Rattle.sk_model.specs.Bounds.{term_ceil}
use Rattle.sk_index.specs.Indexed.{Indexed, postings, all_postings}
use Rattle.sk_index.proofs.NumberLemmas.{length-postings, greatest-postings}
use Rattle.sk_nodes.specs.Leaves.{weighed, leaf_greatest}
use Rattle.sk_nodes.specs.declared.top.Top.{Top}
use Rattle.sk_nodes.specs.Shapes.{Shape, ended}
use Rattle.sk_tree.specs.Opened.{score_of, Opens}
use Rattle.sk_nodes.proofs.NodeLaws.{ended_top}
use Rattle.sk_nodes.proofs.ListLaws.{found-postings, wdf_at, zero_at, found-all}

-- ---- documents by rising ids

pub RiseAbove-all : (low : ℕ) (docs : Docs) → RiseAbove low (all_postings docs) → RiseAbove low docs
RiseAbove-all low [] up = tt
RiseAbove-all low (one ∷ more) up = (up.0, RiseAbove-all one.0 more up.1)

pub LieBelow-all : (high : ℕ) (docs : Docs) → LieBelow high (all_postings docs) → LieBelow high docs
LieBelow-all high [] lie = tt
LieBelow-all high (one ∷ more) lie = (lie.0, LieBelow-all high more lie.1)

-- the list of all documents is in order, and so are they
pub AreSorted-all : (docs : Docs) → AreSorted (all_postings docs) → AreSorted docs
AreSorted-all docs sorted = record { rise = RiseAbove-all 0 docs sorted.rise; small = LieBelow-all (2 ^ 32) docs sorted.small }

-- ---- numbers

-- the bound of a term's leaf is that of the term
pub greatest-term : (factor : ℕ) (scheme : Scheme) (t : List ℕ) (docs : Docs) → leaf_greatest factor scheme (postings t docs) ≡ term_ceil scheme factor t docs
greatest-term factor scheme t docs = λ i. if nat_lt 0 (length-postings t docs i) then weigh_by factor scheme (greatest-postings t docs i) else 0

-- ---- scores

weighed_if : (factor : ℕ) (scheme : Scheme) (b : Bool) (w : ℕ) → option_map (weigh_by factor scheme) (if b then Some w else None) ≡ weight_if b (weigh_by factor scheme w)
weighed_if factor scheme true w = refl
weighed_if factor scheme false w = refl

term_of : (factor : ℕ) (scheme : Scheme) (t : List ℕ) (o : Option Document) → option_map (weigh_by factor scheme) (wdf_at t o) ≡ score_of (Query.term t) scheme factor o
term_of factor scheme t None = refl
term_of factor scheme t (Some d) = weighed_if factor scheme (has_term t d.terms) (wdf_of t d.terms)

-- the list of a term gives what the documents score for it
pub weighed-term : (factor : ℕ) (scheme : Scheme) (t : List ℕ) (docs : Docs) → AreSorted docs → (id : ℕ) → weighed factor scheme (postings t docs) id ≡ score_of (Query.term t) scheme factor (document_at id docs)
weighed-term factor scheme t docs sorted id = ap (option_map (weigh_by factor scheme)) (found-postings t 0 id docs sorted.rise) ∙ term_of factor scheme t (document_at id docs)

no_weight : (scheme : Scheme) (w : ℕ) → weigh_by 0 scheme w ≡ 0
no_weight scheme w = omega arith

all_of : (scheme : Scheme) (factor : ℕ) (o : Option Document) → option_map (weigh_by 0 scheme) (zero_at o) ≡ score_of Query.all scheme factor o
all_of scheme factor None = refl
all_of scheme factor (Some d) = ap Some (no_weight scheme 0)

-- the list of all documents gives each without weight
pub weighed-all : (factor : ℕ) (scheme : Scheme) (docs : Docs) (id : ℕ) → weighed 0 scheme (all_postings docs) id ≡ score_of Query.all scheme factor (document_at id docs)
weighed-all factor scheme docs id = ap (option_map (weigh_by 0 scheme)) (found-all id docs) ∙ all_of scheme factor (document_at id docs)

pub greatest-all : (scheme : Scheme) (es : Postings) → leaf_greatest 0 scheme es ≡ 0
greatest-all scheme es = by (nat_lt 0 (length es))
  where
    by : (b : Bool) → (if b then weigh_by 0 scheme (greatest_wdf es) else 0) ≡ 0
    by true = no_weight scheme (greatest_wdf es)
    by false = refl

-- a term that no document has scores nothing
none_scores : (scheme : Scheme) (factor : ℕ) (t : List ℕ) (docs : Docs) (id : ℕ) → some_has t docs ≡ false → None ≡ score_of (Query.term t) scheme factor (document_at id docs)
none_scores scheme factor t [] id none = refl
none_scores scheme factor t (one ∷ more) id none =
    elim (cases_eq one.0 id) as (λ _. None ≡ score_of (Query.term t) scheme factor (document_at id (one ∷ more))) [
      | inl same ↦ sym (ap (score_of (Query.term t) scheme factor) (found-here id one more same) ∙ ap (λ b. weight_if b (weigh_by factor scheme (wdf_of t one.1.terms))) (front (has_term t one.1.terms) (some_has t more) none))
      | inr other ↦ none_scores scheme factor t more id (behind (has_term t one.1.terms) (some_has t more) none) ∙ sym (ap (score_of (Query.term t) scheme factor) (found-other id one more other))
    ]
  where
    front : (a b : Bool) → (a || b) ≡ false → a ≡ false
    front true b e = cc
    front false b e = refl

    behind : (a b : Bool) → (a || b) ≡ false → b ≡ false
    behind true b e = cc
    behind false b e = e

pub term-none : (scheme : Scheme) (factor : ℕ) (t : List ℕ) (docs : Docs) (id : ℕ) → some_has t docs ≡ false → None ≡ score_of (Query.term t) scheme factor (document_at id docs)
term-none scheme factor t docs id none = none_scores scheme factor t docs id none

-- nothing, where nothing scores
pub nothing_opened : (i : Indexed) (t : Top) (s : Shape) (f : Option Document → Option ℕ) (most : ℕ) → t ≡ record { head = 2 ^ 32; weight = 0; greatest = 0 } → s ≡ ended
    → ((id : ℕ) → None ≡ f (document_at id i.live.documents)) → Opens i t s f most
nothing_opened i t s f most e shape none =
    subst (λ (u : Top). Opens i u s f most) (sym e) (subst (λ (r : Shape). Opens i (record { head = 2 ^ 32; weight = 0; greatest = 0 }) r f most) (sym shape)
    (record { top = ended_top i; sound = tt; gives = none; ceiling = omega arith }))
