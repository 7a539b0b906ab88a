-- What holds of a document among others: no wdf is above the greatest, and each of its terms is counted.
use Rattle.std.proofs.Common.{◌≡◌, ◌<◌, ◌≤◌, ◌+◌, ◌-◌, ◌*◌, ◌^◌, ℕ, suc, min, max, Bool, true, false, not, cond, if◌then◌else◌, ◌||◌, ◌&&◌, nat_lt, List, [], ◌∷◌, length, map, filter, sum_by, bytes_eq, All, refl, sym, ap, ◌∙◌, subst, arith, true≢false, le_refl, mul-le-mul, mul-le-mul_right}
use Rattle.std.proofs.lemmas.Bool.Decides.{nat_tests}
use Rattle.std.proofs.lemmas.Bool.{and_from, or_left, or_right}
use Rattle.std.proofs.lemmas.List.Elements.{All-weaker}
use Rattle.std.proofs.lemmas.List.Folds.{list_any-append, list_any_none}
use Rattle.std.proofs.lemmas.List.Sums.{sum_by-cons}
use Rattle.std.specs.List.{list_any, AllByRecursion}
use Rattle.std.specs.Cmp.Lexicographic.{bytes_decides}
use Rattle.sk_base.proofs.Tests.{second_so}
use Rattle.sk_base.specs.declared.doc.Doc.{Doc}
use Rattle.sk_base.specs.declared.doc_entry.DocTerm.{DocTerm}
use Rattle.sk_base.specs.declared.find.Scheme.{Scheme}
use Rattle.sk_base.specs.Order.{Precedes}
use Rattle.sk_base.specs.Documents.{AreTerms, has_term, wdf_of, positions_of, begins_with}
use Rattle.sk_base.specs.Loads.{load_of}
use Rattle.sk_base.specs.Numbers.{Docs, length_of, greatest_of, some_has, term_in, terms_with, wild_length_of, wild_greatest_of}
use Rattle.sk_query.specs.Fits.{are_different}
use Rattle.sk_model.specs.Weights.{weigh_by}
use Rattle.sk_model.specs.Positions.{near_from, is_near, phrase_from, is_phrase}
use Rattle.sk_model.specs.Scores.{wdf_sum, terms_weight, wild_wdf, places_of}
use Rattle.sk_model.specs.Bounds.{term_ceil, terms_ceil, lengths_of, greatests_of, joint_ceil}
use Rattle.sk_model.proofs.TermLaws.{less_differs}

-- ---- tests and lists

or_step : (b c d : Bool) → (b || c) ≡ true → (c ≡ true → d ≡ true) → (b || d) ≡ true
or_step true c d some h = refl
or_step false c d some h = h some

pub each_weaker : {X : Type 0} (P Q : X → Type 0) → ((x : X) → P x → Q x) → (xs : List X) → AllByRecursion P xs → AllByRecursion Q xs
each_weaker P Q f [] all = tt
each_weaker P Q f (x ∷ xs) all = (f x all.0, each_weaker P Q f xs all.1)

-- one of them passes
pub any_some : {X : Type 0} (f : X → Bool) (xs : List X) → list_any f xs ≡ true → (x : X) × (f x ≡ true)
any_some f [] e = absurd (true≢false (sym e))
any_some {X} f (x ∷ xs) e =
    elim (f x) as (λ b. f x ≡ b → (b || list_any f xs) ≡ true → (y : X) × (f y ≡ true)) [
      | true ↦ λ h g. (x, h)
      | false ↦ λ h g. any_some f xs g
    ] refl e

-- a string is among these
abbrev pub is_in : List ℕ → List (List ℕ) → Bool
is_in t us = list_any (λ u. bytes_eq u t) us

-- without the first that is this one
abbrev pub without : List ℕ → List (List ℕ) → List (List ℕ)
without t [] = []
without t (u ∷ us) = cond (bytes_eq u t) us (u ∷ without t us)

taken_step : (f : List ℕ → ℕ) (t u : List ℕ) (us less : List (List ℕ)) (same : Bool) → bytes_eq u t ≡ same → (same || is_in t us) ≡ true → (is_in t us ≡ true → sum_by f us ≡ f t + sum_by f less)
    → sum_by f (u ∷ us) ≡ f t + sum_by f (cond same us (u ∷ less))
taken_step f t u us less true e some h = sum_by-cons f u us ∙ ap (λ v. f v + sum_by f us) ((bytes_decides u t).0 e)
taken_step f t u us less false e some h = omega (arith, sum_by-cons f u us, sum_by-cons f u less, h some)

pub taken : (f : List ℕ → ℕ) (t : List ℕ) (us : List (List ℕ)) → is_in t us ≡ true → sum_by f us ≡ f t + sum_by f (without t us)
taken f t [] some = absurd (true≢false (sym some))
taken f t (u ∷ us) some = taken_step f t u us (without t us) (bytes_eq u t) refl some (taken f t us)

still_step : (t j u : List ℕ) (us less : List (List ℕ)) (same : Bool) → bytes_eq u t ≡ same → bytes_eq t j ≡ false → (bytes_eq u j || is_in j us) ≡ true → (is_in j us ≡ true → is_in j less ≡ true)
    → is_in j (cond same us (u ∷ less)) ≡ true
still_step t j u us less true e apart some h = sym (ap (λ v. bytes_eq v j || is_in j us) ((bytes_decides u t).0 e) ∙ ap (λ b. b || is_in j us) apart) ∙ some
still_step t j u us less false e apart some h = or_step (bytes_eq u j) (is_in j us) (is_in j less) some h

pub still : (t j : List ℕ) (us : List (List ℕ)) → bytes_eq t j ≡ false → is_in j us ≡ true → is_in j (without t us) ≡ true
still t j [] apart some = some
still t j (u ∷ us) apart some = still_step t j u us (without t us) (bytes_eq u t) refl apart some (still t j us apart)

-- one that is among these and passes
among_step : (g : List ℕ → Bool) (t u : List ℕ) (us : List (List ℕ)) (same : Bool) → bytes_eq u t ≡ same → g t ≡ true → (same || is_in t us) ≡ true → (is_in t us ≡ true → list_any g us ≡ true) → (g u || list_any g us) ≡ true
among_step g t u us true e passes some h = or_left (g u) (list_any g us) (ap g ((bytes_decides u t).0 e) ∙ passes)
among_step g t u us false e passes some h = or_right (g u) (list_any g us) (h some)

pub among : (g : List ℕ → Bool) (t : List ℕ) (us : List (List ℕ)) → is_in t us ≡ true → g t ≡ true → list_any g us ≡ true
among g t [] some passes = absurd (true≢false (sym some))
among g t (u ∷ us) some passes = among_step g t u us (bytes_eq u t) refl passes some (λ e. among g t us e passes)

-- ---- the terms of a document

pub absent : (t : List ℕ) (terms : List DocTerm) → All (λ (s : DocTerm). Precedes t s.term) terms → has_term t terms ≡ false
absent t terms all = list_any_none (λ one. bytes_eq one.term t) terms (All-weaker (λ (s : DocTerm). Precedes t s.term) (λ (s : DocTerm). bytes_eq s.term t ≡ false) (λ s. less_differs t s.term) terms all)

-- a term that is not there has no wdf, and no positions
no_wdf : (t : List ℕ) (terms : List DocTerm) → has_term t terms ≡ false → wdf_of t terms ≡ 0
no_wdf t [] e = refl
no_wdf t (one ∷ more) e =
    elim (bytes_eq one.term t) as (λ b. (b || has_term t more) ≡ false → (if b then one.wdf else wdf_of t more) ≡ 0) [
      | true ↦ λ h. absurd (true≢false h)
      | false ↦ λ h. no_wdf t more h
    ] e

no_positions : (t : List ℕ) (terms : List DocTerm) → has_term t terms ≡ false → positions_of t terms ≡ []
no_positions t [] e = refl
no_positions t (one ∷ more) e =
    elim (bytes_eq one.term t) as (λ b. (b || has_term t more) ≡ false → (if b then one.positions else positions_of t more) ≡ []) [
      | true ↦ λ h. absurd (true≢false h)
      | false ↦ λ h. no_positions t more h
    ] e

bigger_step : (same : Bool) (w n m : ℕ) → (same ≡ true → n ≡ 0) → (if same then w else n) ≤ m → n ≤ m
bigger_step true w n m none h = let zero : n ≡ 0 = none refl in omega (arith, zero)
bigger_step false w n m none h = h

differs : (t j : List ℕ) (terms : List DocTerm) → has_term t terms ≡ false → has_term j terms ≡ true → bytes_eq t j ≡ false
differs t j terms none some =
    elim (bytes_eq t j) as (λ b. bytes_eq t j ≡ b → b ≡ false) [
      | true ↦ λ e. absurd (true≢false (sym some ∙ ap (λ i. has_term i terms) (sym ((bytes_decides t j).0 e)) ∙ none))
      | false ↦ λ e. refl
    ] refl

subset_step : (prefix : List ℕ) (f : List ℕ → ℕ) (one : DocTerm) (more : List DocTerm) (us : List (List ℕ)) (begins : Bool) → begins_with one.term prefix ≡ begins → one.wdf ≤ f one.term
    → (begins ≡ true → is_in one.term us ≡ true)
    → (begins ≡ true → wild_wdf prefix more ≤ sum_by f (without one.term us)) → wild_wdf prefix more ≤ sum_by f us → (if begins then one.wdf else 0) + wild_wdf prefix more ≤ sum_by f us
subset_step prefix f one more us true e big inside h g =
    let less : wild_wdf prefix more ≤ sum_by f (without one.term us) = h refl in
    omega (arith, big, less, taken f one.term us (inside refl))
subset_step prefix f one more us false e big inside h g = omega (arith, g)

-- The terms that begin so are different, and each is among these, so the sum of their wdfs is no more than the sum over these.
subset : (prefix : List ℕ) (f : List ℕ → ℕ) (terms : List DocTerm) (us : List (List ℕ)) → AreTerms terms → ((t : List ℕ) → wdf_of t terms ≤ f t)
    → ((t : List ℕ) → has_term t terms ≡ true → begins_with t prefix ≡ true → is_in t us ≡ true) → wild_wdf prefix terms ≤ sum_by f us
subset prefix f [] us rising big inside = omega arith
subset prefix f (one ∷ more) us rising big inside =
    let none : has_term one.term more ≡ false = absent one.term more (λ j d l. rising 0 (suc j) d (omega arith) (omega arith)) in
    let rest : AreTerms more = λ i j d l m. rising (suc i) (suc j) d (omega arith) (omega arith) in
    let own : one.wdf ≤ f one.term = subst (λ b. (if b then one.wdf else wdf_of one.term more) ≤ f one.term) ((bytes_decides one.term one.term).1 refl) (big one.term) in
    let later : (t : List ℕ) → wdf_of t more ≤ f t =
    λ t. bigger_step (bytes_eq one.term t) one.wdf (wdf_of t more) (f t) (λ e. no_wdf t more (subst (λ j. has_term j more ≡ false) ((bytes_decides one.term t).0 e) none)) (big t) in
    let there : (t : List ℕ) → has_term t more ≡ true → begins_with t prefix ≡ true → is_in t us ≡ true = λ t h b. inside t (or_right (bytes_eq one.term t) (has_term t more) h) b in
    subset_step prefix f one more us (begins_with one.term prefix) refl own
    (λ b. inside one.term (or_left (bytes_eq one.term one.term) (has_term one.term more) ((bytes_decides one.term one.term).1 refl)) b)
    (λ e. subset prefix f more (without one.term us) rest later (λ t h b. still one.term t us (differs one.term t more none h) (there t h b)))
    (subset prefix f more us rest later there)

wild_step : (b : Bool) (w n m : ℕ) → n ≤ m → (if b then w else 0) + n ≤ w + m
wild_step true w n m h = omega arith
wild_step false w n m h = omega arith

-- no more than all its wdfs together
pub wild_within : (prefix : List ℕ) (terms : List DocTerm) → wild_wdf prefix terms ≤ load_of terms
wild_within prefix [] = omega arith
wild_within prefix (one ∷ more) = wild_step (begins_with one.term prefix) one.wdf (wild_wdf prefix more) (load_of more) (wild_within prefix more)

one_step : (same any : Bool) (w n later sum : ℕ) → (same ≡ true → any ≡ false) → sum ≤ cond any w 0 + later → (if same then w else n) + sum ≤ cond (same || any) w 0 + (n + later)
one_step true true w n later sum apart h = absurd (true≢false (apart refl))
one_step true false w n later sum apart h = omega arith
one_step false any w n later sum apart h = omega arith

first_apart : (b c : Bool) → (not b && c) ≡ true → b ≡ false
first_apart true c e = absurd (true≢false (sym e))
first_apart false c e = refl

others_apart : (b c : Bool) → (not b && c) ≡ true → c ≡ true
others_apart true c e = absurd (true≢false (sym e))
others_apart false c e = e

one_more : (one : DocTerm) (more : List DocTerm) (ts : List (List ℕ)) → are_different ts ≡ true → wdf_sum ts (one ∷ more) ≤ cond (list_any (bytes_eq one.term) ts) one.wdf 0 + wdf_sum ts more
one_more one more [] apart = omega arith
one_more one more (t ∷ ts) apart =
    one_step (bytes_eq one.term t) (list_any (bytes_eq one.term) ts) one.wdf (wdf_of t more) (wdf_sum ts more) (wdf_sum ts (one ∷ more))
    (λ e. ap (λ j. list_any (bytes_eq j) ts) ((bytes_decides one.term t).0 e) ∙ first_apart (list_any (λ other. bytes_eq t other) ts) (are_different ts) apart)
    (one_more one more ts (others_apart (list_any (λ other. bytes_eq t other) ts) (are_different ts) apart))

at_most_one : (b : Bool) (w n sum : ℕ) → sum ≤ cond b w 0 + n → sum ≤ w + n
at_most_one true w n sum h = h
at_most_one false w n sum h = omega arith

none_summed : (ts : List (List ℕ)) → wdf_sum ts [] ≤ 0
none_summed [] = omega arith
none_summed (t ∷ ts) = let rest = none_summed ts in omega (arith, rest)

-- different terms have no more than all wdfs together
pub sum_within : (ts : List (List ℕ)) (terms : List DocTerm) → are_different ts ≡ true → wdf_sum ts terms ≤ load_of terms
sum_within ts [] apart = none_summed ts
sum_within ts (one ∷ more) apart =
    let rest : wdf_sum ts more ≤ load_of more = sum_within ts more apart in
    omega (arith, rest, at_most_one (list_any (bytes_eq one.term) ts) one.wdf (wdf_sum ts more) (wdf_sum ts (one ∷ more)) (one_more one more ts apart))

own_step : (same : Bool) (w n rest : ℕ) → n ≤ rest → (if same then w else n) ≤ w + rest
own_step true w n rest h = omega arith
own_step false w n rest h = omega (arith, h)

-- one term has no more than all wdfs together
pub wdf_within : (t : List ℕ) (terms : List DocTerm) → wdf_of t terms ≤ load_of terms
wdf_within t [] = omega arith
wdf_within t (one ∷ more) = own_step (bytes_eq one.term t) one.wdf (wdf_of t more) (load_of more) (wdf_within t more)

-- ---- a document among others

-- no wdf of the document is above the greatest, and what it has one of them has
pub record Inside (docs : Docs) (d : Doc) : Type 0 where
  pub wdf : (t : List ℕ) → wdf_of t d.terms ≤ greatest_of t docs
  pub has : (t : List ℕ) → has_term t d.terms ≡ true → some_has t docs ≡ true

inside_head : (one : ℕ × Doc) (more : Docs) → Inside (one ∷ more) one.1
inside_head one more = record { wdf = λ t. omega arith; has = λ t e. or_left (has_term t one.1.terms) (some_has t more) e }

inside_more : (one : ℕ × Doc) (more : Docs) (d : Doc) → Inside more d → Inside (one ∷ more) d
inside_more one more d so = record { wdf = λ t. omega (arith, so.wdf t); has = λ t e. or_right (has_term t one.1.terms) (some_has t more) (so.has t e) }

pub inside_each : (docs : Docs) → AllByRecursion (λ (one : ℕ × Doc). Inside docs one.1) docs
inside_each [] = tt
inside_each (one ∷ more) = (inside_head one more, each_weaker (λ (other : ℕ × Doc). Inside more other.1) (λ (other : ℕ × Doc). Inside (one ∷ more) other.1) (λ other. inside_more one more other.1) more (inside_each more))

counted_step : (b c : Bool) (n : ℕ) → (b || c) ≡ true → (c ≡ true → 0 < n) → 0 < cond b 1 0 + n
counted_step true c n some h = omega arith
counted_step false c n some h = let more : 0 < n = h some in omega (arith, more)

-- a term that one of them has is counted
pub some_counted : (t : List ℕ) (docs : Docs) → some_has t docs ≡ true → 0 < length_of t docs
some_counted t [] e = absurd (true≢false (sym e))
some_counted t (one ∷ more) e =
    subst (λ n. 0 < n) (sym (sum_by-cons (λ (one : ℕ × Doc). cond (has_term t one.1.terms) 1 0) one more))
    (counted_step (has_term t one.1.terms) (some_has t more) (length_of t more) e (some_counted t more))

some_live : (t : List ℕ) (docs : Docs) → some_has t docs ≡ true → 0 < length docs
some_live t [] e = absurd (true≢false (sym e))
some_live t (one ∷ more) e = omega arith

filter_step : (t u : List ℕ) (rest : List (List ℕ)) (keep same has : Bool) → bytes_eq u t ≡ same → (same ≡ true → keep ≡ true) → (same || has) ≡ true → (has ≡ true → is_in t rest ≡ true) → is_in t (cond keep (u ∷ rest) rest) ≡ true
filter_step t u rest true true has e kept some h = or_left (bytes_eq u t) (is_in t rest) e
filter_step t u rest true false has e kept some h = or_right (bytes_eq u t) (is_in t rest) (h some)
filter_step t u rest false true has e kept some h = absurd (true≢false (sym (kept refl)))
filter_step t u rest false false has e kept some h = h some

in_filter : (p : List ℕ → Bool) (t : List ℕ) (terms : List DocTerm) → has_term t terms ≡ true → p t ≡ true → is_in t (filter p (map term_in terms)) ≡ true
in_filter p t [] some passes = absurd (true≢false (sym some))
in_filter p t (one ∷ more) some passes =
    filter_step t one.term (filter p (map term_in more)) (p one.term) (bytes_eq one.term t) (has_term t more) refl
    (λ e. ap p ((bytes_decides one.term t).0 e) ∙ passes) some (λ e. in_filter p t more e passes)

-- a term that begins so, and that one of them has, is among the terms that begin so
pub member : (prefix t : List ℕ) → begins_with t prefix ≡ true → (docs : Docs) → some_has t docs ≡ true → is_in t (terms_with prefix docs) ≡ true
member prefix t begins [] some = absurd (true≢false (sym some))
member prefix t begins (one ∷ more) some =
    let p : List ℕ → Bool = λ t. begins_with t prefix && not (some_has t more) in
    list_any-append (λ u. bytes_eq u t) (filter p (map term_in one.1.terms)) (terms_with prefix more)
    ∙ (elim (some_has t more) as (λ b. some_has t more ≡ b → (has_term t one.1.terms || b) ≡ true → (is_in t (filter p (map term_in one.1.terms)) || is_in t (terms_with prefix more)) ≡ true) [
      | true ↦ λ e h. or_right (is_in t (filter p (map term_in one.1.terms))) (is_in t (terms_with prefix more)) (member prefix t begins more e)
      | false ↦ λ e h. or_left (is_in t (filter p (map term_in one.1.terms))) (is_in t (terms_with prefix more))
          (in_filter p t one.1.terms (no_more (has_term t one.1.terms) h) (and_from (begins_with t prefix) (not (some_has t more)) begins (ap not e)))
    ] refl some)
  where
    no_more : (b : Bool) → (b || false) ≡ true → b ≡ true
    no_more true e = refl
    no_more false e = e

-- one of the document's own terms that begins so is a term of it that begins so
pub own_begins : (prefix : List ℕ) (terms : List DocTerm) → list_any (λ one. begins_with one.term prefix) terms ≡ true → (t : List ℕ) × (has_term t terms ≡ true) × (begins_with t prefix ≡ true)
own_begins prefix [] e = absurd (true≢false (sym e))
own_begins prefix (one ∷ more) e =
    elim (begins_with one.term prefix) as (λ b. begins_with one.term prefix ≡ b → (b || list_any (λ one. begins_with one.term prefix) more) ≡ true → (t : List ℕ) × (has_term t (one ∷ more) ≡ true) × (begins_with t prefix ≡ true)) [
      | true ↦ λ h g. (one.term, or_left (bytes_eq one.term one.term) (has_term one.term more) ((bytes_decides one.term one.term).1 refl), h)
      | false ↦ λ h g. let found = own_begins prefix more g in (found.0, or_right (bytes_eq one.term found.0) (has_term found.0 more) found.1, found.2)
    ] refl e

-- ---- positions

-- the document has all of these terms
abbrev pub Have : List DocTerm → List (List ℕ) → Type 0
Have terms ts = AllByRecursion (λ (t : List ℕ). has_term t terms ≡ true) ts

placed : (t : List ℕ) (terms : List DocTerm) (f : ℕ → Bool) → list_any f (positions_of t terms) ≡ true → has_term t terms ≡ true
placed t terms f e =
    elim (has_term t terms) as (λ b. has_term t terms ≡ b → b ≡ true) [
      | true ↦ λ h. refl
      | false ↦ λ h. absurd (true≢false (sym e ∙ ap (list_any f) (no_positions t terms h)))
    ] refl

near_from_have : (window least most : ℕ) (terms : List DocTerm) (ts : List (List ℕ)) → near_from window least most (places_of ts terms) ≡ true → Have terms ts
near_from_have window least most terms [] e = tt
near_from_have window least most terms (t ∷ ts) e =
    let p = any_some (λ p. near_from window (min least p) (max most p) (places_of ts terms)) (positions_of t terms) e in
    (placed t terms (λ p. near_from window (min least p) (max most p) (places_of ts terms)) e, near_from_have window (min least p.0) (max most p.0) terms ts p.1)

pub near_have : (window : ℕ) (terms : List DocTerm) (ts : List (List ℕ)) → is_near window (places_of ts terms) ≡ true → Have terms ts
near_have window terms [] e = tt
near_have window terms (t ∷ ts) e =
    let p = any_some (λ p. near_from window p p (places_of ts terms)) (positions_of t terms) e in
    (placed t terms (λ p. near_from window p p (places_of ts terms)) e, near_from_have window p.0 p.0 terms ts p.1)

phrase_from_have : (window first last : ℕ) (terms : List DocTerm) (ts : List (List ℕ)) → phrase_from window first last (places_of ts terms) ≡ true → Have terms ts
phrase_from_have window first last terms [] e = tt
phrase_from_have window first last terms (t ∷ ts) e =
    let p = any_some (λ p. nat_lt last p && phrase_from window first p (places_of ts terms)) (positions_of t terms) e in (
      placed t terms (λ p. nat_lt last p && phrase_from window first p (places_of ts terms)) e,
      phrase_from_have window first p.0 terms ts (second_so (nat_lt last p.0) (phrase_from window first p.0 (places_of ts terms)) p.1),
    )

pub phrase_have : (window : ℕ) (terms : List DocTerm) (ts : List (List ℕ)) → is_phrase window (places_of ts terms) ≡ true → Have terms ts
phrase_have window terms [] e = tt
phrase_have window terms (t ∷ ts) e =
    let p = any_some (λ p. phrase_from window p p (places_of ts terms)) (positions_of t terms) e in
    (placed t terms (λ p. phrase_from window p p (places_of ts terms)) e, phrase_from_have window p.0 p.0 terms ts p.1)

-- ---- weights

-- a greater wdf weighs no less
pub weigh_up : (scheme : Scheme) (factor w n : ℕ) → w ≤ n → weigh_by factor scheme w ≤ weigh_by factor scheme n
weigh_up Scheme.Bool factor w n h = le_refl (0 * factor)
weigh_up Scheme.Coord factor w n h = le_refl (1 * factor)
weigh_up Scheme.Nnn factor w n h = mul-le-mul_right factor h
weigh_up Scheme.Bnn factor w n h = let less : min 1 w ≤ min 1 n = omega (arith, h) in mul-le-mul_right factor less
weigh_up Scheme.Snn factor w n h = mul-le-mul_right factor (mul-le-mul h h)

is_more : (n : ℕ) → 0 < n → nat_lt 0 n ≡ true
is_more n h = grind (arith, nat_tests)

where_long : (test : Bool) (v w : ℕ) → test ≡ true → v ≤ w → v ≤ (if test then w else 0)
where_long true v w e h = h
where_long false v w e h = absurd (true≢false (sym e))

joint_le : (scheme : Scheme) (factor w long greatest : ℕ) → 0 < long → w < 2 ^ 29 → w ≤ greatest → weigh_by factor scheme w ≤ joint_ceil scheme factor long greatest
joint_le scheme factor w long greatest some few h =
    where_long (nat_lt 0 long) (weigh_by factor scheme w) (weigh_by factor scheme (min (2 ^ 29 - 1) greatest)) (is_more long some) (weigh_up scheme factor w (min (2 ^ 29 - 1) greatest) (omega (arith, few, h)))

module _ (scheme : Scheme) (docs : Docs) (d : Doc) (so : Inside docs d) where
  pub term_le : (factor : ℕ) (t : List ℕ) → has_term t d.terms ≡ true → weigh_by factor scheme (wdf_of t d.terms) ≤ term_ceil scheme factor t docs
  term_le factor t has =
      where_long (nat_lt 0 (length_of t docs)) (weigh_by factor scheme (wdf_of t d.terms)) (weigh_by factor scheme (greatest_of t docs)) (is_more (length_of t docs) (some_counted t docs (so.has t has)))
      (weigh_up scheme factor (wdf_of t d.terms) (greatest_of t docs) (so.wdf t))

  pub terms_le : (factor : ℕ) (ts : List (List ℕ)) → Have d.terms ts → terms_weight scheme factor ts d.terms ≤ terms_ceil scheme factor ts docs
  terms_le factor [] have = omega arith
  terms_le factor (t ∷ ts) have = let one = term_le factor t have.0 in let rest = terms_le factor ts have.1 in omega (arith, one, rest)

  sums_le : (ts : List (List ℕ)) → wdf_sum ts d.terms ≤ greatests_of ts docs
  sums_le [] = omega arith
  sums_le (t ∷ ts) = let rest = sums_le ts in omega (arith, so.wdf t, rest)

  some_long : (ts : List (List ℕ)) → list_any (λ t. has_term t d.terms) ts ≡ true → 0 < lengths_of ts docs
  some_long [] e = absurd (true≢false (sym e))
  some_long (t ∷ ts) e =
      elim (has_term t d.terms) as (λ b. has_term t d.terms ≡ b → (b || list_any (λ t. has_term t d.terms) ts) ≡ true → 0 < length_of t docs + lengths_of ts docs) [
        | true ↦ λ h g. let one : 0 < length_of t docs = some_counted t docs (so.has t h) in omega (arith, one)
        | false ↦ λ h g. let rest : 0 < lengths_of ts docs = some_long ts g in omega (arith, rest)
      ] refl e

  module _ (few : load_of d.terms < 2 ^ 29) where
    pub synonym_le : (factor : ℕ) (ts : List (List ℕ)) → are_different ts ≡ true → list_any (λ t. has_term t d.terms) ts ≡ true
        → weigh_by factor scheme (wdf_sum ts d.terms) ≤ joint_ceil scheme factor (lengths_of ts docs) (greatests_of ts docs)
    synonym_le factor ts apart some =
        let all : wdf_sum ts d.terms ≤ load_of d.terms = sum_within ts d.terms apart in
        joint_le scheme factor (wdf_sum ts d.terms) (lengths_of ts docs) (greatests_of ts docs) (some_long ts some) (omega (arith, all, few)) (sums_le ts)

    wild_long : (prefix t : List ℕ) → has_term t d.terms ≡ true → begins_with t prefix ≡ true → 0 < wild_length_of prefix docs
    wild_long prefix t has begins =
        let long : 0 < length_of t docs = some_counted t docs (so.has t has) in
        let live : 0 < length docs = some_live t docs (so.has t has) in
        omega (arith, long, live, taken (λ t. length_of t docs) t (terms_with prefix docs) (member prefix t begins docs (so.has t has)))

    pub wild_le : AreTerms d.terms → (factor : ℕ) (prefix : List ℕ) → list_any (λ one. begins_with one.term prefix) d.terms ≡ true
        → weigh_by factor scheme (wild_wdf prefix d.terms) ≤ joint_ceil scheme factor (wild_length_of prefix docs) (wild_greatest_of prefix docs)
    wild_le rising factor prefix some =
        let found = own_begins prefix d.terms some in
        let sum : wild_wdf prefix d.terms ≤ sum_by (λ t. greatest_of t docs) (terms_with prefix docs) =
        subset prefix (λ t. greatest_of t docs) d.terms (terms_with prefix docs) rising so.wdf (λ t h b. member prefix t b docs (so.has t h)) in
        let all : wild_wdf prefix d.terms ≤ load_of d.terms = wild_within prefix d.terms in
        joint_le scheme factor (wild_wdf prefix d.terms) (wild_length_of prefix docs) (wild_greatest_of prefix docs) (wild_long prefix found.0 found.1 found.2) (omega (arith, all, few)) (omega (arith, sum, all, few))
