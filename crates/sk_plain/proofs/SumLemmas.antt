-- What is made of scores, one after the other, is what the form makes of the list.
use Rattle.std.proofs.Common.{◌≡◌, ◌≤◌, ◌+◌, ◌-◌, ◌^◌, ◌==◌, ℕ, min, Bool, true, false, cond, if◌then◌else◌, List, [], ◌∷◌, length, drop, Option, None, Some, is_some, option_map, refl, sym, ap, ◌∙◌, subst, arith}
use Rattle.std.proofs.lemmas.Bool.Decides.{nat_tests}
use Rattle.std.proofs.lemmas.List.{drop_all}
use Rattle.sk_query.specs.declared.form.Form.{Form}
use Rattle.sk_model.specs.Combining.{both, either, greater, sum_of_all, sum_of_any, greatest_score, number_matching, first_alone, first_with_more, first_of_all, where_so, with_more, is_odd, combined}
use Rattle.sk_model.proofs.CombiningLaws.{both-end, both-apart, either-end, either-apart, greater-end, greater-apart, all_step}
use Rattle.sk_model.proofs.CeilLaws.{AtMost}
use Rattle.sk_plain.specs.declared.sums.Sums.{Sums}
use Rattle.sk_plain.specs.Sums.{capped_both, capped_either, nothing_yet, with_score, with_scores, made_by}

-- ---- sums as far as 128 bits go

abbrev capped : Option ℕ → Option ℕ
capped a = option_map (min (2 ^ 128 - 1)) a

both_step : (a s : Option ℕ) → capped_both (capped a) s ≡ capped (both a s)
both_step None s = refl
both_step (Some v) None = refl
both_step (Some v) (Some w) = let e : min (2 ^ 128 - 1) (min (2 ^ 128 - 1) v + w) ≡ min (2 ^ 128 - 1) (v + w) = omega arith in ap Some e

all_after : (a : Option ℕ) (t : Sums) (ss : List (Option ℕ)) → t.all ≡ capped a → (with_scores t ss).all ≡ capped (both a (sum_of_all ss))
all_after a t [] h = h ∙ ap capped (sym (both-end a))
all_after a t (s ∷ ss) h = all_after (both a s) (with_score t s) ss (ap (λ o. capped_both o s) h ∙ both_step a s) ∙ ap capped (both-apart a s (sum_of_all ss))

-- a score that 128 bits hold
abbrev Small : Option ℕ → Type 0
Small o = AtMost o (2 ^ 128 - 1)

small_same : (a : Option ℕ) → Small a → capped a ≡ a
small_same None h = refl
small_same (Some v) h = let e : min (2 ^ 128 - 1) v ≡ v = omega (arith, h) in ap Some e

either_step : (a s rest : Option ℕ) → Small (either a (either s rest)) → capped_either (capped a) s ≡ capped (either a s)
either_step None None rest h = refl
either_step None (Some w) None h = sym (small_same (Some w) h)
either_step None (Some w) (Some u) h = let e : w ≡ min (2 ^ 128 - 1) w = omega (arith, h) in ap Some e
either_step (Some v) None rest h = refl
either_step (Some v) (Some w) rest h = let e : min (2 ^ 128 - 1) (min (2 ^ 128 - 1) v + w) ≡ min (2 ^ 128 - 1) (v + w) = omega arith in ap Some e

any_after : (a : Option ℕ) (t : Sums) (ss : List (Option ℕ)) → Small (either a (sum_of_any ss)) → t.any ≡ capped a → (with_scores t ss).any ≡ capped (either a (sum_of_any ss))
any_after a t [] small h = h ∙ ap capped (sym (either-end a))
any_after a t (s ∷ ss) small h =
    any_after (either a s) (with_score t s) ss (subst Small (sym (either-apart a s (sum_of_any ss))) small)
    (ap (λ o. capped_either o s) h ∙ either_step a s (sum_of_any ss) small)
    ∙ ap capped (either-apart a s (sum_of_any ss))

greatest_after : (t : Sums) (ss : List (Option ℕ)) → (with_scores t ss).greatest ≡ greater t.greatest (greatest_score ss)
greatest_after t [] = sym (greater-end t.greatest)
greatest_after t (s ∷ ss) = greatest_after (with_score t s) ss ∙ greater-apart t.greatest s (greatest_score ss)

one_more : (b : Bool) (m n : ℕ) → (if b then m + 1 else m) + n ≡ m + (cond b 1 0 + n)
one_more true m n = omega arith
one_more false m n = omega arith

matching_after : (t : Sums) (ss : List (Option ℕ)) → (with_scores t ss).matching ≡ t.matching + number_matching ss
matching_after t [] = omega arith
matching_after t (s ∷ ss) = matching_after (with_score t s) ss ∙ one_more (is_some s) t.matching (number_matching ss)

first_after : (t : Sums) (ss : List (Option ℕ)) → t.begun ≡ true → (with_scores t ss).first ≡ t.first
first_after t [] h = refl
first_after t (s ∷ ss) h = first_after (with_score t s) ss refl ∙ ap (λ b. if b then t.first else s) h

-- the first of the scores
abbrev first_score : List (Option ℕ) → Option ℕ
first_score [] = None
first_score (s ∷ ss) = s

first_is : (ss : List (Option ℕ)) → (with_scores nothing_yet ss).first ≡ first_score ss
first_is [] = refl
first_is (s ∷ ss) = first_after (with_score nothing_yet s) ss refl

nothing_more : (n : ℕ) → 0 + n ≡ n
nothing_more n = omega arith

both_first : (b : Option ℕ) → both (Some 0) b ≡ b
both_first None = refl
both_first (Some w) = let e : 0 + w ≡ w = omega arith in ap Some e

-- ---- the forms that have a first

where_none : (test : Bool) → where_so test None ≡ None
where_none true = refl
where_none false = refl

no_other : (n : ℕ) → ((1 + n) == 1) ≡ (n == 0)
no_other n = grind (arith, nat_tests)

alone_is : (ss : List (Option ℕ)) → where_so (number_matching ss == 1) (first_score ss) ≡ first_alone ss
alone_is [] = refl
alone_is (None ∷ ss) = where_none (number_matching (None ∷ ss) == 1) ∙ sym (where_none (number_matching ss == 0))
alone_is (Some v ∷ ss) = ap (λ b. where_so b (Some v)) (no_other (number_matching ss))

more_is : (ss : List (Option ℕ)) → where_so (is_some (first_score ss)) (sum_of_any ss) ≡ first_with_more ss
more_is [] = refl
more_is (None ∷ ss) = refl
more_is (Some v ∷ ss) = added v (sum_of_any ss)
  where
    added : (v : ℕ) (b : Option ℕ) → either (Some v) b ≡ with_more (Some v) b
    added v None = let e : v ≡ v + 0 = omega arith in ap Some e
    added v (Some w) = refl

of_all_is : (ss : List (Option ℕ)) → where_so (is_some (sum_of_all ss)) (first_score ss) ≡ first_of_all ss
of_all_is [] = refl
of_all_is (None ∷ ss) = sym (where_none (is_some (sum_of_all ss)))
of_all_is (Some v ∷ ss) = ap (λ b. where_so b (Some v)) (all_step v (sum_of_all ss))

-- ---- all

module _ (ss : List (Option ℕ)) (all : Small (sum_of_all ss)) (any : Small (sum_of_any ss)) where
  all_is : (with_scores nothing_yet ss).all ≡ sum_of_all ss
  all_is = all_after (Some 0) nothing_yet ss refl ∙ ap capped (both_first (sum_of_all ss)) ∙ small_same (sum_of_all ss) all

  any_is : (with_scores nothing_yet ss).any ≡ sum_of_any ss
  any_is = any_after None nothing_yet ss any refl ∙ small_same (sum_of_any ss) any

  matching_is : (with_scores nothing_yet ss).matching ≡ number_matching ss
  matching_is = matching_after nothing_yet ss ∙ nothing_more (number_matching ss)

  made : (form : Form) → made_by form (with_scores nothing_yet ss) ≡ combined form ss
  made Form.And = all_is
  made Form.Or = any_is
  made Form.Xor = λ i. where_so (is_odd (matching_is i)) (any_is i)
  made Form.Max = greatest_after nothing_yet ss
  made Form.AndNot = (λ i. where_so (matching_is i == 1) (first_is ss i)) ∙ alone_is ss
  made Form.AndMaybe = (λ i. where_so (is_some (first_is ss i)) (any_is i)) ∙ more_is ss
  made Form.Filter = (λ i. where_so (is_some (all_is i)) (first_is ss i)) ∙ of_all_is ss

-- what the loop ends with
pub end_sums : {X : Type 0} (f : List X → List (Option ℕ)) (form : Form) (t : Sums) (xs : List X) (i : ℕ) → f [] ≡ [] → length xs ≤ i → with_scores t (f (drop i xs)) ≡ with_scores nothing_yet (f xs)
    → AtMost (combined Form.And (f xs)) (2 ^ 128 - 1) → AtMost (combined Form.Or (f xs)) (2 ^ 128 - 1) → made_by form t ≡ combined form (f xs)
end_sums {X} f form t xs i none over so all any =
    let done : t ≡ with_scores nothing_yet (f xs) = sym (ap (λ (ys : List X). with_scores t (f ys)) (drop_all i xs over) ∙ ap (with_scores t) none) ∙ so in
    ap (made_by form) done ∙ made (f xs) all any form
