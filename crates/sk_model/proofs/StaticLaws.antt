-- No more documents match a query than its static count says.
use Rattle.std.proofs.Common.{◌≡◌, ◌<◌, ◌≤◌, ◌+◌, ◌*◌, ℕ, min, Bool, true, false, not, cond, if◌then◌else◌, ◌||◌, ◌&&◌, ◌==◌, nat_lt, List, [], ◌∷◌, length, count_by, sum_by, Option, Some, None, is_some, option_map, refl, sym, ap, ◌∙◌, arith, true≢false}
use Rattle.std.proofs.lemmas.List.Sums.{sum_by-cons, count_by-le-length}
use Rattle.std.specs.List.{list_any, cons_option, AllByRecursion}
use Rattle.std.specs.Cmp.{upto}
use Rattle.std.specs.Cmp.Lexicographic.{slice_cmp, nat_list_cmp_total}
use Rattle.std.specs.Ordering.{nat_cmp, is_le, is_gt}
use Rattle.std.specs.declared.cmp.Ordering.{Ordering}
use Rattle.std.specs.declared.cmp.Ordering.TheVariants.{Less, Equal, Greater}
use Rattle.sk_base.proofs.Tests.{first_so, second_so}
use Rattle.sk_base.specs.declared.doc.Doc.{Doc}
use Rattle.sk_base.specs.declared.doc_entry.DocTerm.{DocTerm}
use Rattle.sk_base.specs.declared.doc_entry.SlotValue.{SlotValue}
use Rattle.sk_base.specs.declared.find.Scheme.{Scheme}
use Rattle.sk_base.specs.declared.rank.Order.{Order}
use Rattle.sk_base.specs.declared.rank.Rank.{Rank}
use Rattle.sk_base.specs.Documents.{has_term, begins_with, value_in, has_value}
use Rattle.sk_base.specs.Numbers.{Docs, live_of, length_of, terms_with, wild_length_of, slot_length_of}
use Rattle.sk_query.specs.declared.form.Form.{Form}
use Rattle.sk_query.specs.Trees.{Tree, nothing, all, term, wildcard, parts, near, phrase, synonym, scale, range, Trees, no_trees, tree}
use Rattle.sk_query.specs.Fits.{is_sound, are_sound, has_parts, is_factor}
use Rattle.sk_model.specs.Positions.{is_near, is_phrase}
use Rattle.sk_model.specs.Ranges.{end_of, is_from, is_to, is_within, is_crossed}
use Rattle.sk_model.specs.Combining.{both, either, where_so, with_more, sum_of_all, sum_of_any, greatest_score, first_alone, first_with_more, first_of_all}
use Rattle.sk_model.specs.Scores.{weight_if, places_of, score, scores}
use Rattle.sk_model.specs.Matches.{matches}
use Rattle.sk_model.specs.Bounds.{static_count, statics, sum_in, least_in, first_in, lengths_of, least_length}
use Rattle.sk_model.proofs.HeldLaws.{Inside, inside_each, among, member, own_begins, each_weaker, Have, near_have, phrase_have}
use Rattle.sk_model.proofs.CeilLaws.{third_so}

-- ---- counting

weaker_step : (b c : Bool) (m n : ℕ) → (b ≡ true → c ≡ true) → m ≤ n → cond b 1 0 + m ≤ cond c 1 0 + n
weaker_step true true m n h g = omega (arith, g)
weaker_step true false m n h g = absurd (true≢false (sym (h refl)))
weaker_step false true m n h g = omega (arith, g)
weaker_step false false m n h g = omega (arith, g)

either_step : (a b c : Bool) (l m n : ℕ) → (a ≡ true → (b || c) ≡ true) → l ≤ m + n → cond a 1 0 + l ≤ (cond b 1 0 + m) + (cond c 1 0 + n)
either_step true true c l m n h g = omega (arith, g)
either_step true false true l m n h g = omega (arith, g)
either_step true false false l m n h g = absurd (true≢false (sym (h refl)))
either_step false b c l m n h g = omega (arith, g)

module _ {X : Type 0} where
  -- what passes the one test passes the other
  count_among : (p q : X → Bool) (xs : List X) → AllByRecursion (λ x. p x ≡ true → q x ≡ true) xs → count_by p xs ≤ count_by q xs
  count_among p q [] each = omega arith
  count_among p q (x ∷ xs) each =
      omega (arith, sum_by-cons (λ x. cond (p x) 1 0) x xs, sum_by-cons (λ x. cond (q x) 1 0) x xs, weaker_step (p x) (q x) (count_by p xs) (count_by q xs) each.0 (count_among p q xs each.1))

  always : (P : X → Type 0) → ((x : X) → P x) → (xs : List X) → AllByRecursion P xs
  always P f [] = tt
  always P f (x ∷ xs) = (f x, always P f xs)

  count_weaker : (p q : X → Bool) → ((x : X) → p x ≡ true → q x ≡ true) → (xs : List X) → count_by p xs ≤ count_by q xs
  count_weaker p q f xs = count_among p q xs (always (λ x. p x ≡ true → q x ≡ true) f xs)

  -- what passes passes one of two
  count_either : (p q r : X → Bool) → ((x : X) → p x ≡ true → (q x || r x) ≡ true) → (xs : List X) → count_by p xs ≤ count_by q xs + count_by r xs
  count_either p q r f [] = omega arith
  count_either p q r f (x ∷ xs) =
      omega (
        arith,
        sum_by-cons (λ x. cond (p x) 1 0) x xs,
        sum_by-cons (λ x. cond (q x) 1 0) x xs,
        sum_by-cons (λ x. cond (r x) 1 0) x xs,
        either_step (p x) (q x) (r x) (count_by p xs) (count_by q xs) (count_by r xs) (f x) (count_either p q r f xs),
      )

  -- nothing passes
  count_none : (p : X → Bool) → ((x : X) → p x ≡ true → ⊥) → (xs : List X) → count_by p xs ≤ 0
  count_none p f [] = omega arith
  count_none p f (x ∷ xs) = omega (arith, sum_by-cons (λ x. cond (p x) 1 0) x xs, none_step (p x) (count_by p xs) (f x) (count_none p f xs))
    where
      none_step : (b : Bool) (n : ℕ) → (b ≡ true → ⊥) → n ≤ 0 → cond b 1 0 + n ≤ 0
      none_step true n h g = absurd (h refl)
      none_step false n h g = omega (arith, g)

-- ---- scores that are there

weight_there : (test : Bool) (w : ℕ) → is_some (weight_if test w) ≡ true → test ≡ true
weight_there true w e = refl
weight_there false w e = e

both_first : (a b : Option ℕ) → is_some (both a b) ≡ true → is_some a ≡ true
both_first None b e = absurd (none_of b e)
  where
    none_of : (b : Option ℕ) → is_some (both None b) ≡ true → ⊥
    none_of None e = true≢false (sym e)
    none_of (Some w) e = true≢false (sym e)
both_first (Some v) b e = refl

both_second : (a b : Option ℕ) → is_some (both a b) ≡ true → is_some b ≡ true
both_second None b e = absurd (true≢false (sym e))
both_second (Some v) None e = e
both_second (Some v) (Some w) e = refl

both_there : (a b : Option ℕ) → is_some a ≡ true → is_some b ≡ true → is_some (both a b) ≡ true
both_there None b e f = absurd (true≢false (sym e))
both_there (Some v) None e f = f
both_there (Some v) (Some w) e f = refl

either_there : (a b : Option ℕ) → is_some (either a b) ≡ true → (is_some a || is_some b) ≡ true
either_there None b e = e
either_there (Some v) b e = refl

where_there : (test : Bool) (a : Option ℕ) → is_some (where_so test a) ≡ true → is_some a ≡ true
where_there true a e = e
where_there false a e = absurd (true≢false (sym e))

where_test : (test : Bool) (a : Option ℕ) → is_some (where_so test a) ≡ true → test ≡ true
where_test true a e = refl
where_test false a e = e

more_there : (a b : Option ℕ) → is_some (with_more a b) ≡ true → is_some a ≡ true
more_there None b e = e
more_there (Some v) b e = refl

-- the greatest is there where the sum over any is
greatest_there : (ss : List (Option ℕ)) → is_some (greatest_score ss) ≡ true → is_some (sum_of_any ss) ≡ true
greatest_there [] e = e
greatest_there (None ∷ ss) e = greatest_there ss e
greatest_there (Some v ∷ ss) e = either_first v (sum_of_any ss)
  where
    either_first : (v : ℕ) (b : Option ℕ) → is_some (either (Some v) b) ≡ true
    either_first v None = refl
    either_first v (Some w) = refl

of_all_there : (ss : List (Option ℕ)) → is_some (first_of_all ss) ≡ true → is_some (sum_of_all ss) ≡ true
of_all_there [] e = refl
of_all_there (s ∷ ss) e = both_there s (sum_of_all ss) (where_there _ s e) (where_test (is_some (sum_of_all ss)) s e)

-- ---- leaves

-- documents that have one of these terms
lengths_count : (ts : List (List ℕ)) (docs : Docs) → count_by (λ (one : ℕ × Doc). list_any (λ t. has_term t one.1.terms) ts) docs ≤ lengths_of ts docs
lengths_count [] docs = count_none (λ (one : ℕ × Doc). false) (λ one e. true≢false (sym e)) docs
lengths_count (t ∷ ts) docs =
    let rest : count_by (λ (one : ℕ × Doc). list_any (λ t. has_term t one.1.terms) ts) docs ≤ lengths_of ts docs = lengths_count ts docs in
    omega (
      arith,
      rest,
      count_either (λ (one : ℕ × Doc). list_any (λ t. has_term t one.1.terms) (t ∷ ts)) (λ (one : ℕ × Doc). has_term t one.1.terms) (λ (one : ℕ × Doc). list_any (λ t. has_term t one.1.terms) ts) (λ one e. e) docs,
    )

lengths_sum : (ts : List (List ℕ)) (docs : Docs) → lengths_of ts docs ≡ sum_by (λ t. length_of t docs) ts
lengths_sum [] docs = refl
lengths_sum (t ∷ ts) docs = ap (λ n. length_of t docs + n) (lengths_sum ts docs) ∙ sym (sum_by-cons (λ t. length_of t docs) t ts)

-- documents that have all of these terms, of which there is one
least_count : (p : ℕ × Doc → Bool) (t : List ℕ) (ts : List (List ℕ)) (docs : Docs) → ((one : ℕ × Doc) → p one ≡ true → Have one.1.terms (t ∷ ts)) → count_by p docs ≤ least_length (t ∷ ts) docs
least_count p t [] docs h = count_weaker p (λ one. has_term t one.1.terms) (λ one e. let have = h one e in have.0) docs
least_count p t (s ∷ ts) docs h =
    let first : count_by p docs ≤ length_of t docs = count_weaker p (λ one. has_term t one.1.terms) (λ one e. let have = h one e in have.0) docs in
    let rest : count_by p docs ≤ least_length (s ∷ ts) docs = least_count p s ts docs (λ one e. let have = h one e in have.1) in
    omega (arith, first, rest)

some_least : (p : ℕ × Doc → Bool) (ts : List (List ℕ)) (docs : Docs) → ((one : ℕ × Doc) → p one ≡ true → (0 < length ts) × Have one.1.terms ts) → count_by p docs ≤ least_length ts docs
some_least p [] docs h = count_none p (λ one e. let have = h one e in absurd (omega (arith, have.0))) docs
some_least p (t ∷ ts) docs h = least_count p t ts docs (λ one e. let have = h one e in have.1)

near_some : (window : ℕ) (terms : List DocTerm) (ts : List (List ℕ)) → is_near window (places_of ts terms) ≡ true → 0 < length ts
near_some window terms [] e = absurd (true≢false (sym e))
near_some window terms (t ∷ ts) e = omega arith

phrase_some : (window : ℕ) (terms : List DocTerm) (ts : List (List ℕ)) → is_phrase window (places_of ts terms) ≡ true → 0 < length ts
phrase_some window terms [] e = absurd (true≢false (sym e))
phrase_some window terms (t ∷ ts) e = omega arith

wild_counted : (prefix : List ℕ) (docs : Docs) → count_by (λ (one : ℕ × Doc). list_any (λ own. begins_with own.term prefix) one.1.terms) docs ≤ wild_length_of prefix docs
wild_counted prefix docs =
    let live : count_by (λ (one : ℕ × Doc). list_any (λ own. begins_with own.term prefix) one.1.terms) docs ≤ length docs = count_by-le-length (λ (one : ℕ × Doc). list_any (λ own. begins_with own.term prefix) one.1.terms) docs in
    let some = count_among (λ (one : ℕ × Doc). list_any (λ own. begins_with own.term prefix) one.1.terms) (λ (one : ℕ × Doc). list_any (λ t. has_term t one.1.terms) (terms_with prefix docs)) docs
    (each_weaker (λ (one : ℕ × Doc). Inside docs one.1)
    (λ (one : ℕ × Doc). list_any (λ own. begins_with own.term prefix) one.1.terms ≡ true → list_any (λ t. has_term t one.1.terms) (terms_with prefix docs) ≡ true)
    (λ one so e. let found = own_begins prefix one.1.terms e in among (λ t. has_term t one.1.terms) found.0 (terms_with prefix docs) (member prefix found.0 found.2 docs (so.has found.0 found.1)) found.1)
    docs (inside_each docs)) in
    omega (arith, live, some, lengths_count (terms_with prefix docs) docs, lengths_sum (terms_with prefix docs) docs)

-- a value that is not empty stands in its slot
pub valued : (slot : ℕ) (values : List SlotValue) → nat_lt 0 (length (value_in slot values)) ≡ true → has_value slot values ≡ true
valued slot [] e = absurd (true≢false (sym e))
valued slot (one ∷ more) e =
    elim (one.slot == slot) as (λ b. nat_lt 0 (length (if b then one.value else value_in slot more)) ≡ true → (b || has_value slot more) ≡ true) [
      | true ↦ λ h. refl
      | false ↦ λ h. valued slot more h
    ] e

pub le_not_gt : (r : Ordering) → is_le r ≡ true → is_gt r ≡ false
le_not_gt Less e = refl
le_not_gt Equal e = refl
le_not_gt Greater e = absurd (true≢false (sym e))

pub not_gt_le : (r : Ordering) → is_gt r ≡ false → is_le r ≡ true
not_gt_le Less e = refl
not_gt_le Equal e = refl
not_gt_le Greater e = absurd (true≢false e)

through : (a v b : List ℕ) → is_le (slice_cmp nat_cmp a v) ≡ true → is_le (slice_cmp nat_cmp v b) ≡ true → is_le (slice_cmp nat_cmp a b) ≡ true
through a v b h g = not_gt_le (slice_cmp nat_cmp a b) (upto nat_list_cmp_total a v b (le_not_gt (slice_cmp nat_cmp a v) h) (le_not_gt (slice_cmp nat_cmp v b) g))

pub from_through : (lo : Option (List ℕ)) (v b : List ℕ) → is_from lo v ≡ true → is_le (slice_cmp nat_cmp v b) ≡ true → is_from lo b ≡ true
from_through None v b h g = refl
from_through (Some lo) v b h g = through lo v b h g

-- a value lies between the ends, so they are not crossed
not_crossed : (lo hi : Option (List ℕ)) (v : List ℕ) → is_from lo v ≡ true → is_to hi v ≡ true → is_crossed lo hi ≡ false
not_crossed lo None v h g = refl
not_crossed lo (Some hi) v h g = ap not (from_through lo v hi h g)

range_step : (lo hi : Option (List ℕ)) (slot : ℕ) (docs : Docs) (crossed : Bool) → is_crossed lo hi ≡ crossed
    → count_by (λ (one : ℕ × Doc). is_within lo hi (value_in slot one.1.values)) docs ≤ (if crossed then 0 else slot_length_of slot docs)
range_step lo hi slot docs true e =
    count_none (λ (one : ℕ × Doc). is_within lo hi (value_in slot one.1.values))
    (λ one h.
    let within : (is_from lo (value_in slot one.1.values) && is_to hi (value_in slot one.1.values)) ≡ true = second_so (nat_lt 0 (length (value_in slot one.1.values))) _ h in
    true≢false (sym e ∙ not_crossed lo hi (value_in slot one.1.values) (first_so _ _ within) (second_so _ _ within)))
    docs
range_step lo hi slot docs false e =
    count_weaker (λ (one : ℕ × Doc). is_within lo hi (value_in slot one.1.values)) (λ (one : ℕ × Doc). has_value slot one.1.values)
    (λ one h. valued slot one.1.values (first_so (nat_lt 0 (length (value_in slot one.1.values))) _ h)) docs

-- ---- queries

module _ (scheme : Scheme) (docs : Docs) where
  -- whether a document has a score
  abbrev there : Tree → ℕ → ℕ × Doc → Bool
  there q factor one = is_some (score q scheme factor one.1)

  abbrev any_there : Trees → ℕ → ℕ × Doc → Bool
  any_there ts factor one = is_some (sum_of_any (scores ts scheme factor one.1))

  abbrev all_there : Trees → ℕ → ℕ × Doc → Bool
  all_there ts factor one = is_some (sum_of_all (scores ts scheme factor one.1))

  -- whether the first has a score
  abbrev first_there : Trees → ℕ → ℕ × Doc → Bool
  first_there no_trees factor one = false
  first_there (tree t ts) factor one = there t factor one

  alone_first : (ts : Trees) (factor : ℕ) (one : ℕ × Doc) → is_some (first_alone (scores ts scheme factor one.1)) ≡ true → first_there ts factor one ≡ true
  alone_first no_trees factor one h = h
  alone_first (tree t ts) factor one h = where_there _ (score t scheme factor one.1) h

  with_more_first : (ts : Trees) (factor : ℕ) (one : ℕ × Doc) → is_some (first_with_more (scores ts scheme factor one.1)) ≡ true → first_there ts factor one ≡ true
  with_more_first no_trees factor one h = h
  with_more_first (tree t ts) factor one h = more_there (score t scheme factor one.1) _ h

  no_more_live : (p : ℕ × Doc → Bool) (n : ℕ) → count_by p docs ≤ n → count_by p docs ≤ min (length docs) n
  no_more_live p n h = omega (arith, h, count_by-le-length p docs)

  mutual
    -- as many documents have a score as the static count says
    pub tree_count : (q : Tree) (above factor : ℕ) → is_sound above q ≡ true → count_by (there q factor) docs ≤ static_count q docs
    tree_count nothing above factor e = count_none (there nothing factor) (λ one h. true≢false (sym h)) docs
    tree_count all above factor e = count_by-le-length (there all factor) docs
    tree_count (term t) above factor e = count_weaker (there (term t) factor) (λ one. has_term t one.1.terms) (λ one h. weight_there (has_term t one.1.terms) _ h) docs
    tree_count (wildcard prefix) above factor e =
        let some = count_weaker (there (wildcard prefix) factor) (λ one. list_any (λ own. begins_with own.term prefix) one.1.terms) (λ one h. weight_there (list_any (λ own. begins_with own.term prefix) one.1.terms) _ h) docs in
        omega (arith, some, wild_counted prefix docs)
    tree_count (parts Form.And ts) above factor e = least_parts ts above factor (first_so (has_parts ts) (are_sound above ts) e) (second_so (has_parts ts) (are_sound above ts) e)
    tree_count (parts Form.Or ts) above factor e = no_more_live (any_there ts factor) (sum_in (statics ts docs)) (sum_parts ts above factor (second_so (has_parts ts) (are_sound above ts) e))
    tree_count (parts Form.Xor ts) above factor e =
        let some = count_weaker (there (parts Form.Xor ts) factor) (any_there ts factor) (λ one h. where_there _ (sum_of_any (scores ts scheme factor one.1)) h) docs in
        no_more_live (there (parts Form.Xor ts) factor) (sum_in (statics ts docs)) (omega (arith, some, sum_parts ts above factor (second_so (has_parts ts) (are_sound above ts) e)))
    tree_count (parts Form.Max ts) above factor e =
        let some = count_weaker (there (parts Form.Max ts) factor) (any_there ts factor) (λ one h. greatest_there (scores ts scheme factor one.1) h) docs in
        no_more_live (there (parts Form.Max ts) factor) (sum_in (statics ts docs)) (omega (arith, some, sum_parts ts above factor (second_so (has_parts ts) (are_sound above ts) e)))
    tree_count (parts Form.AndNot ts) above factor e =
        let some = count_weaker (there (parts Form.AndNot ts) factor) (first_there ts factor) (λ one h. alone_first ts factor one h) docs in
        omega (arith, some, first_part ts above factor (second_so (has_parts ts) (are_sound above ts) e))
    tree_count (parts Form.AndMaybe ts) above factor e =
        let some = count_weaker (there (parts Form.AndMaybe ts) factor) (first_there ts factor) (λ one h. with_more_first ts factor one h) docs in
        omega (arith, some, first_part ts above factor (second_so (has_parts ts) (are_sound above ts) e))
    tree_count (parts Form.Filter ts) above factor e =
        let some = count_weaker (there (parts Form.Filter ts) factor) (all_there ts factor) (λ one h. of_all_there (scores ts scheme factor one.1) h) docs in
        omega (arith, some, least_parts ts above factor (first_so (has_parts ts) (are_sound above ts) e) (second_so (has_parts ts) (are_sound above ts) e))
    tree_count (near window ts) above factor e =
        some_least (there (near window ts) factor) ts docs (λ one h. let so = weight_there (is_near window (places_of ts one.1.terms)) _ h in (near_some window one.1.terms ts so, near_have window one.1.terms ts so))
    tree_count (phrase window ts) above factor e =
        some_least (there (phrase window ts) factor) ts docs (λ one h. let so = weight_there (is_phrase window (places_of ts one.1.terms)) _ h in (phrase_some window one.1.terms ts so, phrase_have window one.1.terms ts so))
    tree_count (synonym ts) above factor e =
        let some = count_weaker (there (synonym ts) factor) (λ one. list_any (λ t. has_term t one.1.terms) ts) (λ one h. weight_there (list_any (λ t. has_term t one.1.terms) ts) _ h) docs in
        no_more_live (there (synonym ts) factor) (lengths_of ts docs) (omega (arith, some, lengths_count ts docs))
    tree_count (scale f t) above factor e = tree_count t (above * f) (factor * f) (third_so (is_factor f) (is_factor (above * f)) (is_sound (above * f) t) e)
    tree_count (range slot lo hi) above factor e =
        let some = count_weaker (there (range slot lo hi) factor) (λ one. is_within (end_of lo) (end_of hi) (value_in slot one.1.values)) (λ one h. weight_there (is_within (end_of lo) (end_of hi) (value_in slot one.1.values)) _ h) docs in
        omega (arith, some, range_step (end_of lo) (end_of hi) slot docs (is_crossed (end_of lo) (end_of hi)) refl)

    sum_parts : (ts : Trees) (above factor : ℕ) → are_sound above ts ≡ true → count_by (any_there ts factor) docs ≤ sum_in (statics ts docs)
    sum_parts no_trees above factor e = count_none (any_there no_trees factor) (λ one h. true≢false (sym h)) docs
    sum_parts (tree t ts) above factor e =
        let first = tree_count t above factor (first_so (is_sound above t) (are_sound above ts) e) in
        let rest = sum_parts ts above factor (second_so (is_sound above t) (are_sound above ts) e) in
        omega (arith, first, rest, count_either (any_there (tree t ts) factor) (there t factor) (any_there ts factor) (λ one h. either_there (score t scheme factor one.1) (sum_of_any (scores ts scheme factor one.1)) h) docs)

    least_parts : (ts : Trees) (above factor : ℕ) → has_parts ts ≡ true → are_sound above ts ≡ true → count_by (all_there ts factor) docs ≤ least_in (statics ts docs)
    least_parts no_trees above factor some e = absurd (true≢false (sym some))
    least_parts (tree t no_trees) above factor some e =
        let first = tree_count t above factor (first_so (is_sound above t) true e) in
        omega (arith, first, count_weaker (all_there (tree t no_trees) factor) (there t factor) (λ one h. both_first (score t scheme factor one.1) (Some 0) h) docs)
    least_parts (tree t (tree s ts)) above factor some e =
        let first = tree_count t above factor (first_so (is_sound above t) (are_sound above (tree s ts)) e) in
        let rest = least_parts (tree s ts) above factor refl (second_so (is_sound above t) (are_sound above (tree s ts)) e) in
        omega (
          arith,
          first,
          rest,
          count_weaker (all_there (tree t (tree s ts)) factor) (there t factor) (λ one h. both_first (score t scheme factor one.1) (sum_of_all (scores (tree s ts) scheme factor one.1)) h) docs,
          count_weaker (all_there (tree t (tree s ts)) factor) (all_there (tree s ts) factor) (λ one h. both_second (score t scheme factor one.1) (sum_of_all (scores (tree s ts) scheme factor one.1)) h) docs,
        )

    first_part : (ts : Trees) (above factor : ℕ) → are_sound above ts ≡ true → count_by (first_there ts factor) docs ≤ first_in (statics ts docs)
    first_part no_trees above factor e = count_none (first_there no_trees factor) (λ one h. true≢false (sym h)) docs
    first_part (tree t ts) above factor e = tree_count t above factor (first_so (is_sound above t) (are_sound above ts) e)

-- ---- matches

match_step : (o : Option ℕ) (value : List ℕ) (id n : ℕ) (ranks : List Rank) → length ranks ≡ n → length (cons_option (option_map (λ w. record { weight = w; value = value; id = id }) o) ranks) ≡ cond (is_some o) 1 0 + n
match_step None value id n ranks e = omega (arith, e)
match_step (Some w) value id n ranks e = omega (arith, e)

-- there is a match for each document that has a score
pub matches_counted : (query : Tree) (scheme : Scheme) (order : Order) (docs : Docs) → length (matches query scheme order docs) ≡ count_by (λ (one : ℕ × Doc). is_some (score query scheme 1 one.1)) docs
matches_counted query scheme order [] = refl
matches_counted query scheme order (one ∷ docs) =
    match_step (score query scheme 1 one.1) _ one.0 _ (matches query scheme order docs) (matches_counted query scheme order docs)
    ∙ sym (sum_by-cons (λ (one : ℕ × Doc). cond (is_some (score query scheme 1 one.1)) 1 0) one docs)

-- no more documents match than the static count says
pub matches_within : (query : Tree) (scheme : Scheme) (order : Order) (above : ℕ) (docs : Docs) → is_sound above query ≡ true → length (matches query scheme order docs) ≤ static_count query docs
matches_within query scheme order above docs e = omega (arith, matches_counted query scheme order docs, tree_count scheme docs query above 1 e)

-- ---- live documents

live_length : (t : List ℕ) (docs : Docs) → length_of t docs ≤ live_of docs
live_length t docs = count_by-le-length (λ (one : ℕ × Doc). has_term t one.1.terms) docs

least_live : (ts : List (List ℕ)) (docs : Docs) → least_length ts docs ≤ live_of docs
least_live [] docs = omega arith
least_live (t ∷ []) docs = live_length t docs
least_live (t ∷ s ∷ ts) docs = omega (arith, live_length t docs)

none_crossed : (crossed : Bool) (n live : ℕ) → n ≤ live → (if crossed then 0 else n) ≤ live
none_crossed true n live h = omega arith
none_crossed false n live h = h

module _ (docs : Docs) where
  mutual
    -- the static count is not above the number of documents
    pub static_live : (q : Tree) → static_count q docs ≤ live_of docs
    static_live nothing = omega arith
    static_live all = omega arith
    static_live (term t) = live_length t docs
    static_live (wildcard prefix) = omega arith
    static_live (parts Form.And ts) = least_parts_live ts
    static_live (parts Form.Or ts) = omega arith
    static_live (parts Form.Xor ts) = omega arith
    static_live (parts Form.Max ts) = omega arith
    static_live (parts Form.AndNot ts) = first_part_live ts
    static_live (parts Form.AndMaybe ts) = first_part_live ts
    static_live (parts Form.Filter ts) = least_parts_live ts
    static_live (near window ts) = least_live ts docs
    static_live (phrase window ts) = least_live ts docs
    static_live (synonym ts) = omega arith
    static_live (scale f t) = static_live t
    static_live (range slot lo hi) = none_crossed (is_crossed (end_of lo) (end_of hi)) (slot_length_of slot docs) (live_of docs) (count_by-le-length (λ (one : ℕ × Doc). has_value slot one.1.values) docs)

    least_parts_live : (ts : Trees) → least_in (statics ts docs) ≤ live_of docs
    least_parts_live no_trees = omega arith
    least_parts_live (tree t no_trees) = static_live t
    least_parts_live (tree t (tree s ts)) = let first : static_count t docs ≤ live_of docs = static_live t in omega (arith, first)

    first_part_live : (ts : Trees) → first_in (statics ts docs) ≤ live_of docs
    first_part_live no_trees = omega arith
    first_part_live (tree t ts) = static_live t
