-- Words one by one: their numbers, and as queries.
use Rattle.std.proofs.Common.{◌≡◌, ◌<◌, ◌≤◌, ◌+◌, ℕ, zero, suc, cond, List, [], ◌∷◌, ◌++◌, map, length, drop, get_or, is_some, None, Some, refl, sym, subst, ap, ◌∙◌, arith}
use Rattle.std.proofs.Math.Seq.{drop-cons}
use Rattle.std.proofs.lemmas.List.{append-nil, append_assoc, map-append}
use Rattle.sk_dict.specs.Terms.{term_at, number_of}
use Rattle.sk_query.specs.declared.query.Query.{Query}
use Rattle.sk_query.specs.Trees as Trees
use Rattle.sk_query.specs.Trees.{query_view, queries_view}
use Rattle.sk_index.specs.Indexed.{Indexed}
use Rattle.sk_tree.specs.Opened.{term_trees, numbered}
use Rattle.sk_nodes.specs.Proximity.{AreThere}
use Rattle.sk_tree.proofs.OpenLaws.{joined}

pub cut : {X : Type 0} (xs : List X) (k : ℕ) (x : X) → k < length xs → x ≡ get_or xs k x → drop k xs ≡ x ∷ drop (k + 1) xs
cut {X} xs k x lt is =
    let next : suc k ≡ k + 1 = omega arith in
    drop-cons xs k x lt ∙ ap (λ (y : X). y ∷ drop (suc k) xs) (sym is) ∙ ap (λ n. x ∷ drop n xs) next

pub cut_at : {X : Type 0} (xs : List X) (k : ℕ) (d : X) → k < length xs → drop k xs ≡ get_or xs k d ∷ drop (k + 1) xs
cut_at {X} xs k d lt =
    let next : suc k ≡ k + 1 = omega arith in
    drop-cons xs k d lt ∙ ap (λ n. get_or xs k d ∷ drop n xs) next

-- ---- numbers

there-more : (i : Indexed) (ns : List ℕ) (n : ℕ) → AreThere i ns → n < length i.terms → AreThere i (ns ++ n ∷ [])
there-more i [] n there lt = (lt, tt)
there-more i (m ∷ ns) n there lt = (there.0, there-more i ns n there.1 lt)

pub found_there : (i : Indexed) (ns ms : List ℕ) (n : ℕ) → ms ≡ ns ++ n ∷ [] → AreThere i ns → n < length i.terms → AreThere i ms
found_there i ns ms n e there lt = subst (λ (xs : List ℕ). AreThere i xs) (sym e) (there-more i ns n there lt)

kept : (i : Indexed) (w : List ℕ) (n : ℕ) (rest : List (List ℕ)) → number_of w i.terms ≡ Some n → numbered i (w ∷ rest) ≡ w ∷ numbered i rest
kept i w n rest e = ap (λ o. cond (is_some o) (w ∷ numbered i rest) (numbered i rest)) e

left_out : (i : Indexed) (w : List ℕ) (rest : List (List ℕ)) → number_of w i.terms ≡ None → numbered i (w ∷ rest) ≡ numbered i rest
left_out i w rest e = ap (λ o. cond (is_some o) (w ∷ numbered i rest) (numbered i rest)) e

-- one word more has a number
pub found_next : (i : Indexed) (ws : List (List ℕ)) (k : ℕ) (w : List ℕ) (ns ms : List ℕ) (n : ℕ) → k < length ws → w ≡ get_or ws k w → ms ≡ ns ++ n ∷ [] → number_of w i.terms ≡ Some n → term_at i.terms n ≡ w
    → map (term_at i.terms) ns ++ numbered i (drop k ws) ≡ numbered i ws → map (term_at i.terms) ms ++ numbered i (drop (k + 1) ws) ≡ numbered i ws
found_next i ws k w ns ms n lt is e found named before =
    ap (λ (xs : List ℕ). map (term_at i.terms) xs ++ numbered i (drop (k + 1) ws)) e
    ∙ ap (λ (ts : List (List ℕ)). ts ++ numbered i (drop (k + 1) ws)) (map-append (term_at i.terms) ns (n ∷ []))
    ∙ append_assoc (map (term_at i.terms) ns) (term_at i.terms n ∷ []) (numbered i (drop (k + 1) ws))
    ∙ ap (λ (t : List ℕ). map (term_at i.terms) ns ++ (t ∷ numbered i (drop (k + 1) ws))) named
    ∙ ap (λ (ts : List (List ℕ)). map (term_at i.terms) ns ++ ts) (sym (kept i w n (drop (k + 1) ws) found) ∙ ap (numbered i) (sym (cut ws k w lt is)))
    ∙ before

-- and has none
pub missing_next : (i : Indexed) (ws : List (List ℕ)) (k : ℕ) (w : List ℕ) (ns : List ℕ) → k < length ws → w ≡ get_or ws k w → number_of w i.terms ≡ None
    → map (term_at i.terms) ns ++ numbered i (drop k ws) ≡ numbered i ws → map (term_at i.terms) ns ++ numbered i (drop (k + 1) ws) ≡ numbered i ws
missing_next i ws k w ns lt is none before =
    ap (λ (ts : List (List ℕ)). map (term_at i.terms) ns ++ ts) (sym (left_out i w (drop (k + 1) ws) none) ∙ ap (numbered i) (sym (cut ws k w lt is))) ∙ before

past : {X : Type 0} (xs : List X) (k : ℕ) → length xs ≤ k → drop k xs ≡ []
past [] zero le = refl
past [] (suc k) le = refl
past (x ∷ xs) zero le = absurd (omega (arith, le))
past (x ∷ xs) (suc k) le = past xs k (omega (arith, le))

pub found_all : (i : Indexed) (ws : List (List ℕ)) (k : ℕ) (ns : List ℕ) → length ws ≤ k → map (term_at i.terms) ns ++ numbered i (drop k ws) ≡ numbered i ws → map (term_at i.terms) ns ≡ numbered i ws
found_all i ws k ns le before =
    sym (append-nil (map (term_at i.terms) ns)) ∙ ap (λ (ts : List (List ℕ)). map (term_at i.terms) ns ++ numbered i ts) (sym (past ws k le)) ∙ before

-- ---- as queries

joined-apart : (ts us vs : Trees.Trees) → joined (joined ts us) vs ≡ joined ts (joined us vs)
joined-apart Trees.no_trees us vs = refl
joined-apart (Trees.tree t ts) us vs = ap (Trees.tree t) (joined-apart ts us vs)

queries-more : (qs : List Query) (q : Query) → queries_view (qs ++ q ∷ []) ≡ joined (queries_view qs) (Trees.tree (query_view q) Trees.no_trees)
queries-more [] q = refl
queries-more (p ∷ qs) q = ap (Trees.tree (query_view p)) (queries-more qs q)

pub taken_next : (ws : List (List ℕ)) (k : ℕ) (w : List ℕ) (qs rs : List Query) (q : Query) → k < length ws → w ≡ get_or ws k w → rs ≡ qs ++ q ∷ [] → query_view q ≡ Trees.term w
    → joined (queries_view qs) (term_trees (drop k ws)) ≡ term_trees ws → joined (queries_view rs) (term_trees (drop (k + 1) ws)) ≡ term_trees ws
taken_next ws k w qs rs q lt is e view before =
    ap (λ (ps : List Query). joined (queries_view ps) (term_trees (drop (k + 1) ws))) e
    ∙ ap (λ (ts : Trees.Trees). joined ts (term_trees (drop (k + 1) ws))) (queries-more qs q)
    ∙ joined-apart (queries_view qs) (Trees.tree (query_view q) Trees.no_trees) (term_trees (drop (k + 1) ws))
    ∙ ap (λ (t : Trees.Tree). joined (queries_view qs) (Trees.tree t (term_trees (drop (k + 1) ws)))) view
    ∙ ap (λ (us : List (List ℕ)). joined (queries_view qs) (term_trees us)) (sym (cut ws k w lt is))
    ∙ before

joined-none : (ts : Trees.Trees) → joined ts Trees.no_trees ≡ ts
joined-none Trees.no_trees = refl
joined-none (Trees.tree t ts) = ap (Trees.tree t) (joined-none ts)

pub taken_all : (ws : List (List ℕ)) (k : ℕ) (qs : List Query) → length ws ≤ k → joined (queries_view qs) (term_trees (drop k ws)) ≡ term_trees ws → queries_view qs ≡ term_trees ws
taken_all ws k qs le before = sym (joined-none (queries_view qs)) ∙ ap (λ (us : List (List ℕ)). joined (queries_view qs) (term_trees us)) (sym (past ws k le)) ∙ before
