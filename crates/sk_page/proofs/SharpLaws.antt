-- The steps of a search are within the sharper bounds, where what it read of lists is.
use Rattle.std.proofs.Common.{◌≡◌, ◌≤◌, ◌+◌, ℕ, Bool, true, false, cond, List, [], ◌∷◌, length, Option, None, Some, option_map, IfSome, refl, sym, ap, subst, arith, true≢false}
use Rattle.sk_base.specs.declared.find.Collapse.{Collapse}
use Rattle.sk_base.specs.declared.find.Paging.{Paging}
use Rattle.sk_base.specs.declared.rank.OrderBy.{OrderBy}
use Rattle.sk_base.specs.Numbers.{Docs}
use Rattle.sk_query.specs.declared.form.Form.{Form}
use Rattle.sk_query.specs.Trees.{Tree, parts, Trees}
use Rattle.sk_model.specs.Allowance.{key_readings, value_readings, extra, allowance}
use Rattle.sk_model.specs.Joined.{term_lists, joined_ups, joined_stop_point, joined_stop, joined_most}
use Rattle.sk_model.specs.Matches.{found_by}
use Rattle.sk_model.specs.Settled.{stop_point}
use Rattle.sk_model.specs.Sharp.{is_plain, flat_lists, ups, stop_number, rare_lists, rare_readings, rare_number, terms_in, of_two, decay_of, decay_number, at_most}
use Rattle.sk_page.specs.Tells.{IsSpent, IsSpentOver}

-- a plain find goes by relevance and does not collapse
pub plain_is : (paging : Paging) → is_plain paging ≡ true → (paging.order.by ≡ OrderBy.Relevance) × (paging.collapse ≡ None)
plain_is paging e = (by_order paging.order.by refl, by_collapse paging.collapse refl)
  where
    by_order : (by : OrderBy) → paging.order.by ≡ by → paging.order.by ≡ OrderBy.Relevance
    by_order OrderBy.Relevance f = f
    by_order (OrderBy.Value key) f = absurd (true≢false (sym (subst (λ by. is_plain (record paging { order = record paging.order { by = by } }) ≡ true) f e)))
    by_order (OrderBy.ValueThenRelevance key) f = absurd (true≢false (sym (subst (λ by. is_plain (record paging { order = record paging.order { by = by } }) ≡ true) f e)))
    by_order (OrderBy.RelevanceThenValue key) f = absurd (true≢false (sym (subst (λ by. is_plain (record paging { order = record paging.order { by = by } }) ≡ true) f e)))

    by_collapse : (c : Option Collapse) → paging.collapse ≡ c → paging.collapse ≡ None
    by_collapse None f = f
    by_collapse (Some k) f =
        absurd (true≢false (sym (subst (λ by. is_plain (record paging { order = record paging.order { by = by }; collapse = Some k }) ≡ true) (by_order paging.order.by refl) (subst (λ c. is_plain (record paging { collapse = c }) ≡ true) f e))))

-- and reads neither values nor keys
pub plain_free : (paging : Paging) (n : ℕ) → is_plain paging ≡ true → key_readings paging.collapse n + value_readings paging.order.by n ≡ 0
plain_free paging n e =
    let is = plain_is paging e in
    let keys : key_readings paging.collapse n ≡ 0 = ap (λ c. key_readings c n) is.1 in
    let values : value_readings paging.order.by n ≡ 0 = ap (λ by. value_readings by n) is.0 in
    omega (arith, keys, values)

pub within_stop : (query : Tree) (paging : Paging) (docs : Docs) (spent seen hits steps : ℕ) → IsSpent query paging docs spent → steps ≤ spent + (key_readings paging.collapse seen + value_readings paging.order.by seen + hits)
    → IfSome (stop_number query paging docs hits) (λ n. steps ≤ n)
within_stop query paging docs spent seen hits steps within most = by_plain (is_plain paging) refl (flat_lists query docs) refl
  where
    by_plain : (b : Bool) → is_plain paging ≡ b → (o : Option (List (List ℕ))) → flat_lists query docs ≡ o → IfSome (cond b (option_map (λ lists. ups lists (stop_point query paging docs) docs + hits) o) None) (λ n. steps ≤ n)
    by_plain true e (Some lists) f =
        let few = within.stop e lists f in
        omega (arith, few, most, plain_free paging seen e)
    by_plain true e None f = cc
    by_plain false e o f = cc

pub within_rare : (query : Tree) (paging : Paging) (docs : Docs) (spent matching hits steps : ℕ) → IsSpent query paging docs spent → steps ≤ spent + (key_readings paging.collapse matching + value_readings paging.order.by matching + hits)
    → IfSome (rare_number query paging docs matching hits) (λ n. steps ≤ n)
within_rare query paging docs spent matching hits steps within most = by_lists (rare_lists query docs) refl
  where
    by_lists : (o : Option (List (List ℕ) × ℕ)) → rare_lists query docs ≡ o → IfSome (option_map (λ p. rare_readings p.0 p.1 docs + extra paging matching hits) o) (λ n. steps ≤ n)
    by_lists (Some p) f = let few = within.rare p.0 p.1 f in omega (arith, few, most)
    by_lists None f = cc

pub within_decay : (query : Tree) (paging : Paging) (docs : Docs) (spent seen hits steps : ℕ) → IsSpent query paging docs spent → steps ≤ spent + (key_readings paging.collapse seen + value_readings paging.order.by seen + hits)
    → IfSome (decay_number query paging docs hits) (λ n. steps ≤ n)
within_decay query paging docs spent seen hits steps within most = by_form query refl
  where
    by_lists : (ts : Trees) → query ≡ parts Form.Or ts → is_plain paging ≡ true → (o : Option (List (List ℕ))) → terms_in ts ≡ o → IfSome (decay_of query paging docs hits (of_two o)) (λ n. steps ≤ n)
    by_lists ts is e (Some (a ∷ b ∷ [])) f =
        let few = within.decay e ts a b is f in
        omega (arith, few, most, plain_free paging seen e)
    by_lists ts is e None f = cc
    by_lists ts is e (Some []) f = cc
    by_lists ts is e (Some (a ∷ [])) f = cc
    by_lists ts is e (Some (a ∷ b ∷ c ∷ more)) f = cc

    by_plain : (ts : Trees) → query ≡ parts Form.Or ts → (p : Bool) → is_plain paging ≡ p → IfSome (cond p (decay_of query paging docs hits (of_two (terms_in ts))) None) (λ n. steps ≤ n)
    by_plain ts is true e = by_lists ts is e (terms_in ts) refl
    by_plain ts is false e = cc

    by_form : (q : Tree) → query ≡ q → IfSome (decay_number q paging docs hits) (λ n. steps ≤ n)
    by_form (parts Form.Or ts) is = subst (λ (q : Tree). IfSome (cond (is_plain paging) (decay_of q paging docs hits (of_two (terms_in ts))) None) (λ n. steps ≤ n)) is (by_plain ts is (is_plain paging) refl)
    by_form _ is = cc

-- ---- over several parts

pub within_joined_stop : (n : ℕ) (query : Tree) (paging : Paging) (docs : Docs) (spent seen hits steps : ℕ) → IsSpentOver n query paging docs spent → steps ≤ spent + (key_readings paging.collapse seen + value_readings paging.order.by seen + hits)
    → IfSome (joined_stop n query paging docs hits) (λ m. steps ≤ m)
within_joined_stop n query paging docs spent seen hits steps within most = by_plain (is_plain paging) refl (term_lists query) refl
  where
    by_plain : (b : Bool) → is_plain paging ≡ b → (o : Option (List (List ℕ))) → term_lists query ≡ o → IfSome (cond b (option_map (λ lists. joined_ups n lists (joined_stop_point n query paging docs) docs + hits) o) None) (λ m. steps ≤ m)
    by_plain true e (Some lists) f =
        let few = within.stop e lists f in
        omega (arith, few, most, plain_free paging seen e)
    by_plain true e None f = cc
    by_plain false e o f = cc

-- what is within each number is within what the parts allow
pub within_joined : (n : ℕ) (query : Tree) (paging : Paging) (docs : Docs) (hits steps : ℕ) → steps ≤ allowance query paging docs (length (found_by query paging docs)) hits
    → IfSome (joined_stop n query paging docs hits) (λ m. steps ≤ m) → steps ≤ joined_most n query paging docs hits
within_joined n query paging docs hits steps all stop = least (joined_stop n query paging docs hits) stop
  where
    least : (o : Option ℕ) → IfSome o (λ m. steps ≤ m) → steps ≤ at_most (allowance query paging docs (length (found_by query paging docs)) hits) o
    least None one = all
    least (Some m) one = omega (arith, all, one)
