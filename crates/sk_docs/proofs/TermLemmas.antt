-- Lists with the same mentions of each term make the same terms.
use Rattle.std.proofs.Common.{◌≡◌, ◌+◌, ℕ, Bool, true, false, ◌||◌, List, [], ◌∷◌, ◌++◌, cond, fold, refl, sym, ap, ◌∙◌, true≢false, All, arith, bytes_eq, sum_by}
use Rattle.std.proofs.lemmas.List.Elements.{All-cons, All-weaker}
use Rattle.std.proofs.lemmas.List.Folds.{list_any_none}
use Rattle.std.proofs.lemmas.List.Sums.{sum_by-cons}
use Rattle.std.proofs.lemmas.Map.Lookups.{exact_bytes}
use Rattle.std.specs.Prelude.{Option, Some, None, is_some, unwrap_or}
use Rattle.std.specs.Cmp.Lexicographic.{slice_cmp, nat_list_cmp_total, bytes_decides}
use Rattle.std.specs.Ordering.{match_ordering, nat_cmp}
use Rattle.std.specs.declared.cmp.Ordering.{Ordering}
use Rattle.std.specs.declared.cmp.Ordering.TheVariants.{Less, Equal, Greater}
use Rattle.sk_base.specs.declared.doc_entry.DocTerm.{DocTerm}
use Rattle.sk_base.specs.Order.{Precedes}
use Rattle.sk_base.specs.Documents.{AreTerms, has_term, wdf_of, positions_of}
use Rattle.sk_base.specs.Loads.{load_of}
use Rattle.sk_model.specs.Documents.{merged, noted, terms_of, mentions_of}
use Rattle.sk_model.proofs.TermLaws.{less_differs, terms_rise, has_mentioned, wdf_of_mentions, positions_of_mentions, turned}
use Rattle.sk_docs.proofs.PairLemmas.{pairs_head, pairs_tail}

-- ---- two lists of terms that answer alike are one

-- the entry of a term
abbrev entry : List ℕ → List DocTerm → Option DocTerm
entry t terms = cond (has_term t terms) (Some (record { term = t; wdf = wdf_of t terms; positions = positions_of t terms })) None

pub own : (t : List ℕ) → bytes_eq t t ≡ true
own t = (bytes_decides t t).1 refl

entry_first : (one : DocTerm) (more : List DocTerm) → entry one.term (one ∷ more) ≡ Some one
entry_first one more =
    ap (λ b. cond (b || has_term one.term more) (Some (record { term = one.term; wdf = cond b one.wdf (wdf_of one.term more); positions = cond b one.positions (positions_of one.term more) })) None) (own one.term)

entry_later : (t : List ℕ) (one : DocTerm) (more : List DocTerm) → bytes_eq one.term t ≡ false → entry t (one ∷ more) ≡ entry t more
entry_later t one more other =
    ap (λ b. cond (b || has_term t more) (Some (record { term = t; wdf = cond b one.wdf (wdf_of t more); positions = cond b one.positions (positions_of t more) })) None) other

-- all terms stand behind this one
entry_absent : (t : List ℕ) (terms : List DocTerm) → All (λ (s : DocTerm). Precedes t s.term) terms → entry t terms ≡ None
entry_absent t terms behind =
    ap (λ b. cond b (Some (record { term = t; wdf = wdf_of t terms; positions = positions_of t terms })) None)
    (list_any_none (λ one. bytes_eq one.term t) terms (All-weaker (λ (s : DocTerm). Precedes t s.term) (λ s. bytes_eq s.term t ≡ false) (λ s. less_differs t s.term) terms behind))

some_none : (one : DocTerm) → Some one ≡ None → ⊥
some_none one h = true≢false (ap is_some h)

-- the first of one list stands before all of the other
all_behind : (s t : DocTerm) (ts : List DocTerm) → Precedes s.term t.term → AreTerms (t ∷ ts) → entry s.term (t ∷ ts) ≡ None
all_behind s t ts h rising =
    entry_absent s.term (t ∷ ts)
    (All-cons (λ (x : DocTerm). Precedes s.term x.term) t ts h
    (All-weaker (λ (x : DocTerm). Precedes t.term x.term) (λ x. Precedes s.term x.term) (λ x. nat_list_cmp_total.trans s.term t.term x.term h) ts
    (pairs_head (λ (a b : DocTerm). Precedes a.term b.term) t ts rising)))

rest_step : (u : List ℕ) (s t : DocTerm) (ss ts : List DocTerm) (b : Bool) → bytes_eq s.term u ≡ b → s.term ≡ t.term → AreTerms (s ∷ ss) → AreTerms (t ∷ ts)
    → entry u (s ∷ ss) ≡ entry u (t ∷ ts) → entry u ss ≡ entry u ts
rest_step u s t ss ts true here same rising others alike =
    let its : s.term ≡ u = (bytes_decides s.term u).0 here in
    ap (λ v. entry v ss) (sym its) ∙ entry_absent s.term ss (pairs_head (λ (a b : DocTerm). Precedes a.term b.term) s ss rising)
    ∙ sym (ap (λ v. entry v ts) (sym its ∙ same) ∙ entry_absent t.term ts (pairs_head (λ (a b : DocTerm). Precedes a.term b.term) t ts others))
rest_step u s t ss ts false here same rising others alike =
    sym (entry_later u s ss here) ∙ alike ∙ entry_later u t ts (ap (λ v. bytes_eq v u) (sym same) ∙ here)

first_step : (s t : DocTerm) (ss ts : List DocTerm) (r : Ordering) → slice_cmp nat_cmp s.term t.term ≡ r → AreTerms (s ∷ ss) → AreTerms (t ∷ ts)
    → ((u : List ℕ) → entry u (s ∷ ss) ≡ entry u (t ∷ ts)) → s ≡ t
first_step s t ss ts Less h rising others alike = absurd (some_none s (sym (entry_first s ss) ∙ alike s.term ∙ all_behind s t ts h others))
first_step s t ss ts Equal h rising others alike =
    ap (λ o. unwrap_or o s) (sym (entry_first s ss) ∙ alike s.term ∙ ap (λ u. entry u (t ∷ ts)) (exact_bytes s.term t.term h) ∙ entry_first t ts)
first_step s t ss ts Greater h rising others alike =
    absurd (some_none t (sym (entry_first t ts) ∙ sym (alike t.term) ∙ all_behind t s ss (turned s.term t.term h) rising))

alike_same : (ss ts : List DocTerm) → AreTerms ss → AreTerms ts → ((u : List ℕ) → entry u ss ≡ entry u ts) → ss ≡ ts
alike_same [] [] rising others alike = refl
alike_same [] (t ∷ ts) rising others alike = absurd (some_none t (sym (entry_first t ts) ∙ sym (alike t.term)))
alike_same (s ∷ ss) [] rising others alike = absurd (some_none s (sym (entry_first s ss) ∙ alike s.term))
alike_same (s ∷ ss) (t ∷ ts) rising others alike =
    let first : s ≡ t = first_step s t ss ts (slice_cmp nat_cmp s.term t.term) refl rising others alike in
    let rest : ss ≡ ts = alike_same ss ts (pairs_tail (λ (a b : DocTerm). Precedes a.term b.term) s ss rising) (pairs_tail (λ (a b : DocTerm). Precedes a.term b.term) t ts others)
    (λ u. rest_step u s t ss ts (bytes_eq s.term u) refl (ap (λ (x : DocTerm). x.term) first) rising others (alike u)) in
    λ i. first i ∷ rest i

-- ---- what is mentioned decides the terms

has_step : (t : List ℕ) (m : DocTerm) (ms : List DocTerm) (b : Bool) → bytes_eq m.term t ≡ b → has_term t ms ≡ has_term t (mentions_of t ms)
    → (b || has_term t ms) ≡ has_term t (cond b (m ∷ mentions_of t ms) (mentions_of t ms))
has_step t m ms true e h = sym (ap (λ b. b || has_term t (mentions_of t ms)) e)
has_step t m ms false e h = h

has_kept : (t : List ℕ) (ms : List DocTerm) → has_term t ms ≡ has_term t (mentions_of t ms)
has_kept t [] = refl
has_kept t (m ∷ ms) = has_step t m ms (bytes_eq m.term t) refl (has_kept t ms)

-- the entry that these mentions of a term make
abbrev entry_of : List ℕ → List DocTerm → Option DocTerm
entry_of t own = cond (has_term t own) (Some (record { term = t; wdf = sum_by (λ m. m.wdf) own; positions = fold (λ places m. places ++ m.positions) [] own })) None

entry_made : (t : List ℕ) (ms : List DocTerm) → entry t (terms_of ms) ≡ entry_of t (mentions_of t ms)
entry_made t ms =
    let has : has_term t (terms_of ms) ≡ has_term t (mentions_of t ms) = has_mentioned t ms ∙ has_kept t ms in
    let wdf = wdf_of_mentions t ms in
    let places = positions_of_mentions t ms in
    λ i. cond (has i) (Some (record { term = t; wdf = wdf i; positions = places i })) None

-- lists with the same mentions of each term make the same terms
pub same_terms : (ms ns : List DocTerm) → ((t : List ℕ) → mentions_of t ms ≡ mentions_of t ns) → terms_of ms ≡ terms_of ns
same_terms ms ns same =
    alike_same (terms_of ms) (terms_of ns) (terms_rise ms) (terms_rise ns) (λ t. entry_made t ms ∙ ap (entry_of t) (same t) ∙ sym (entry_made t ns))

-- ---- their wdfs

load_step : (one m : DocTerm) (more put : List DocTerm) (r : Ordering) → load_of put ≡ load_of more + m.wdf
    → load_of (match_ordering r (m ∷ one ∷ more) (merged one m ∷ more) (one ∷ put)) ≡ load_of (one ∷ more) + m.wdf
load_step one m more put Less h = omega (arith)
load_step one m more put Equal h = omega (arith)
load_step one m more put Greater h = omega (arith, h)

load-noted : (terms : List DocTerm) (m : DocTerm) → load_of (noted terms m) ≡ load_of terms + m.wdf
load-noted [] m = omega arith
load-noted (one ∷ more) m = load_step one m more (noted more m) (slice_cmp nat_cmp m.term one.term) (load-noted more m)

load-fold : (terms ms : List DocTerm) → load_of (fold noted terms ms) ≡ load_of terms + load_of ms
load-fold terms [] = omega arith
load-fold terms (m ∷ ms) = load-fold (noted terms m) ms ∙ omega (arith, load-noted terms m)

-- the wdfs of terms are those of the mentions, added
pub load-terms_of : (ms : List DocTerm) → load_of (terms_of ms) ≡ load_of ms
load-terms_of ms = omega (arith, load-fold [] ms)

pub load-append : (ms ns : List DocTerm) → load_of (ms ++ ns) ≡ load_of ms + load_of ns
load-append [] ns = omega arith
load-append (m ∷ ms) ns = omega (arith, load-append ms ns)

pub load_is : (ms : List DocTerm) → load_of ms ≡ sum_by (λ m. m.wdf) ms
load_is [] = refl
load_is (m ∷ ms) = ap (λ n. m.wdf + n) (load_is ms) ∙ sym (sum_by-cons (λ (m : DocTerm). m.wdf) m ms)
