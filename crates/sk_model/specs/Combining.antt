-- How the scores of the parts of a query are put together, by its form.
-- Source: Xapian's API documentation (the operators of `Query`). Own: the weight of an xor; more than two parts of xor, and_not, and_maybe and filter.
use Rattle.std.specs.Prelude.{ℕ, ◌+◌, ◌%◌, ◌==◌, max, Bool, List, [], ◌∷◌, is_some, Option, Some, None, if◌then◌else◌, unwrap_or}
use Rattle.sk_query.specs.declared.form.Form.{Form}

-- A list taken together, two at a time from its end. Of none it is this.
abbrev pub folded : {A : Type 0} → (A → A → A) → A → List A → A
folded two none [] = none
folded two none (x ∷ xs) = two x (folded two none xs)

-- Two scores that must both be there, added.
abbrev pub both : Option ℕ → Option ℕ → Option ℕ
both None b = None
both (Some v) None = None
both (Some v) (Some w) = Some (v + w)

-- Two scores, at least one of which must be there, added.
abbrev pub either : Option ℕ → Option ℕ → Option ℕ
either None b = b
either (Some v) None = Some v
either (Some v) (Some w) = Some (v + w)

-- The greater of two scores, at least one of which must be there.
abbrev pub greater : Option ℕ → Option ℕ → Option ℕ
greater None b = b
greater (Some v) None = Some v
greater (Some v) (Some w) = Some (max v w)

-- The sum of the scores, where all are there.
abbrev pub sum_of_all : List (Option ℕ) → Option ℕ
sum_of_all scores = folded both (Some 0) scores

-- The sum of those scores that are there, where one is.
abbrev pub sum_of_any : List (Option ℕ) → Option ℕ
sum_of_any scores = folded either None scores

-- The greatest of those scores that are there, where one is.
abbrev pub greatest_score : List (Option ℕ) → Option ℕ
greatest_score scores = folded greater None scores

-- How many scores are there.
abbrev pub number_matching : List (Option ℕ) → ℕ
number_matching [] = 0
number_matching (s ∷ scores) = (if is_some s then 1 else 0) + number_matching scores

-- The first score, where the test holds.
abbrev pub where_so : Bool → Option ℕ → Option ℕ
where_so test a = if test then a else None

-- The first score, and what the others add to it.
abbrev pub with_more : Option ℕ → Option ℕ → Option ℕ
with_more None b = None
with_more (Some v) b = Some (v + unwrap_or b 0)

-- The first score, where it is there and no other is.
abbrev pub first_alone : List (Option ℕ) → Option ℕ
first_alone [] = None
first_alone (s ∷ scores) = where_so (number_matching scores == 0) s

-- The first score, where it is there, and those of the others that are there, added.
abbrev pub first_with_more : List (Option ℕ) → Option ℕ
first_with_more [] = None
first_with_more (s ∷ scores) = with_more s (sum_of_any scores)

-- The first score, where all are there.
abbrev pub first_of_all : List (Option ℕ) → Option ℕ
first_of_all [] = None
first_of_all (s ∷ scores) = where_so (is_some (sum_of_all scores)) s

-- An odd number.
abbrev pub is_odd : ℕ → Bool
is_odd n = (n % 2) == 1

-- The score of a query of several, by its form and the scores of its parts.
abbrev pub combined : Form → List (Option ℕ) → Option ℕ
-- All match: the sum.
combined Form.And scores = sum_of_all scores
-- One matches: the sum over those that do.
combined Form.Or scores = sum_of_any scores
-- An odd number matches: the sum over those that do. It is one operator over all its parts.
combined Form.Xor scores = where_so (is_odd (number_matching scores)) (sum_of_any scores)
-- One matches: the greatest.
combined Form.Max scores = greatest_score scores
-- The first matches and no other: the first's.
combined Form.AndNot scores = first_alone scores
-- The first matches: its weight, and those of the others that match.
combined Form.AndMaybe scores = first_with_more scores
-- All match: the first's.
combined Form.Filter scores = first_of_all scores
