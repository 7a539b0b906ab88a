-- The number of a term by its place in the order.
use Rattle.std.proofs.Common.{◌≡◌, ◌≢◌, ℕ, true, false, None, List, [], ◌∷◌, ◌++◌, length, sym, ap, subst, ◌∙◌}
use Rattle.std.proofs.lemmas.Cmp.{nat_list_cmp_total, tied_itself}
use Rattle.sk_dict.specs.Terms.{term_at, term_cmp, number_of, Precedes}
use Rattle.sk_dict.specs.Searches.{passed, stands_before, passes, IsFirst, AllPassed}
use Rattle.sk_dict.specs.Order.{Each, IsKnown, IsRising, IsOrder, IsPutIn}
use Rattle.sk_dict.proofs.NumberLaws.{number_of-absent, absent_from-number_of}
use Rattle.sk_dict.proofs.OrderLemmas.{IsRising-kept, known_kept, IsOrder-put}

module _ (terms : List (List ℕ)) (key : List ℕ) where
  -- the key is not passed where what is wanted does not stand behind it
  key_not_passed : (n : ℕ) → term_at terms n ≡ key → stands_before key false (term_at terms n) ≡ false
  key_not_passed n same = ap (λ w. stands_before key false w) same ∙ ap (passed false) (tied_itself nat_list_cmp_total key)

  -- all terms are passed
  pub number_of-passed : AllPassed terms key false → None ≡ number_of key terms
  number_of-passed all = sym (number_of-absent terms key (λ n lt same. let p : _ = all n lt in let q : _ = key_not_passed n same in cc))

  -- the first term that is not passed is another
  pub number_of-other : (n : ℕ) → IsFirst terms key false n → term_at terms n ≢ key → None ≡ number_of key terms
  number_of-other n first ne = sym (number_of-absent terms key (λ m lt same.
      let p : Precedes (term_at terms n) (term_at terms m) = first.first m lt (key_not_passed m same) (λ e. ne (ap (term_at terms) (sym e) ∙ same)) in
      let before : stands_before key false (term_at terms n) ≡ true = ap (passed false) (ap (term_cmp (term_at terms n)) (sym same) ∙ p) in
      let reached : stands_before key false (term_at terms n) ≡ false = first.reached in
      cc))

-- what was read of a term
pub read_term : (now terms : List (List ℕ)) (n : ℕ) (bytes : List ℕ) → terms ≡ now → bytes ≡ term_at terms n → bytes ≡ term_at now n
read_term now terms n bytes is e = e ∙ ap (λ w. term_at w n) is

-- the order of terms to which another was put keeps rising, and all its numbers have a term
pub order_kept : (terms more : List (List ℕ)) (order : List ℕ) (term : List ℕ) → more ≡ terms ++ term ∷ [] → IsOrder terms order → IsRising more order × Each (IsKnown more) order
order_kept terms more order term made o = (
  subst (λ w. IsRising w order) (sym made) (IsRising-kept terms term order o.known o.rising),
  subst (λ w. Each (IsKnown w) order) (sym made) (known_kept terms term order o.known),
)

-- the order with a term that was not there, by what was read and written on the way
pub order_added : (now terms more : List (List ℕ)) (order new term : List ℕ) (number : ℕ) → terms ≡ now → more ≡ terms ++ term ∷ [] → number ≡ length terms
    → number_of term now ≡ None → IsOrder terms order → IsPutIn (passes more term false) number order new → IsOrder more new
order_added now terms more order new term number is made next none o p =
    let absent : number_of term terms ≡ None = ap (number_of term) is ∙ none in
    let put : IsPutIn (passes (terms ++ term ∷ []) term false) (length terms) order new =
    subst (λ w. IsPutIn (passes (terms ++ term ∷ []) term false) w order new) next (subst (λ w. IsPutIn (passes w term false) number order new) made p) in
    subst (λ w. IsOrder w new) (sym made) (IsOrder-put terms term order new o (absent_from-number_of terms term absent) put)
