-- The point at which a page is settled is the least id that it is said to be, and the sharper bound the least of its numbers.
use Rattle.std.proofs.Common.{◌≡◌, ◌<◌, ◌≤◌, ◌+◌, ◌-◌, ℕ, suc, Bool, true, false, cond, ◌&&◌, ◌||◌, ◌==◌, nat_le, nat_lt, true≢false, List, [], ◌∷◌, length, Option, Some, None, option_map, refl, sym, ap, ◌∙◌, subst, arith, slice_index_or, AllPairs}
use Rattle.std.proofs.lemmas.Bool.Decides.{nat_tests}
use Rattle.std.proofs.lemmas.List.Sums.{sum_by-cons}
use Rattle.std.proofs.lemmas.Bool.{and_parts, le-leb, le-ltb, leb-false, leb-true, lt-leb, lt-ltb}
use Rattle.sk_base.specs.declared.find.Paging.{Paging}
use Rattle.sk_base.specs.declared.rank.Rank.{Rank}
use Rattle.sk_base.specs.Numbers.{Docs}
use Rattle.sk_query.specs.declared.form.Form.{Form}
use Rattle.sk_query.specs.Trees.{Tree, nothing, all, term, wildcard, parts, near, phrase, synonym, scale, range}
use Rattle.sk_model.specs.Allowance.{extra, allowance}
use Rattle.sk_model.specs.Counts.{wanted}
use Rattle.sk_model.specs.Edits.{last_id}
use Rattle.sk_model.specs.Matches.{found_by}
use Rattle.sk_model.specs.Settled.{less_heavy, settled_from, settled, settling_weight, stop_point, seen_up_to, heavy_up_to}
use Rattle.sk_model.specs.Sharp.{terms_in, flat_lists, ups, is_plain, stop_number, of_two, rare_lists, rare_readings, rare_number, decay_of, decay_number, at_most, sharp}

-- ---- rising ids

abbrev Above : ℕ → List Rank → Type 0
Above b [] = Unit {0}
Above b (x ∷ xs) = (b < x.id) × Above b xs

abbrev Rising : List Rank → Type 0
Rising [] = Unit {0}
Rising (x ∷ xs) = Above x.id xs × Rising xs

above_of : (b : ℕ) (ranks : List Rank) → ((j : ℕ) (d : Rank) → j < length ranks → b < (slice_index_or ranks j d).id) → Above b ranks
above_of b [] h = tt
above_of b (x ∷ xs) h = (h 0 x (omega arith), above_of b xs (λ j d within. h (suc j) d (omega arith)))

rising_of : (ranks : List Rank) → AllPairs (λ (x y : Rank). x.id < y.id) ranks → Rising ranks
rising_of [] h = tt
rising_of (x ∷ xs) h = (above_of x.id xs (λ j d within. h 0 (suc j) d (omega arith) (omega arith)), rising_of xs (λ i j d lt within. h (suc i) (suc j) d (omega arith) (omega arith)))

-- ---- tests

pub is_none : (n : ℕ) → (n == 0) ≡ true → n ≡ 0
is_none n e = grind (arith, nat_tests)

is_some : (n : ℕ) → (n == 0) ≡ false → 1 ≤ n
is_some n e = grind (arith, nat_tests)

pub both_none : (a b : ℕ) → ((a == 0) && (b == 0)) ≡ true → (a ≡ 0) × (b ≡ 0)
both_none a b e = let so = and_parts (a == 0) (b == 0) e in (is_none a so.0, is_none b so.1)

pub some_left : (a b : ℕ) → ((a == 0) && (b == 0)) ≡ false → 1 ≤ a + b
some_left a b e = by_first (a == 0) refl
  where
    by_first : (none : Bool) → (a == 0) ≡ none → 1 ≤ a + b
    by_first true f = let some : 1 ≤ b = is_some b (ap (λ t. t && (b == 0)) (sym f) ∙ e) in omega (arith, some)
    by_first false f = let some : 1 ≤ a = is_some a f in omega (arith, some)

-- ---- counts

seen_more : (id : ℕ) (x : Rank) (xs : List Rank) (low : Bool) → nat_le x.id id ≡ low → seen_up_to id (x ∷ xs) ≡ cond low 1 0 + seen_up_to id xs
seen_more id x xs low e = sum_by-cons (λ (y : Rank). cond (nat_le y.id id) 1 0) x xs ∙ ap (λ b. cond b 1 0 + seen_up_to id xs) e

heavy_more : (weight id : ℕ) (x : Rank) (xs : List Rank) (low heavy : Bool) → nat_le x.id id ≡ low → nat_le weight x.weight ≡ heavy → heavy_up_to weight id (x ∷ xs) ≡ cond (low && heavy) 1 0 + heavy_up_to weight id xs
heavy_more weight id x xs low heavy e f =
    sum_by-cons (λ (y : Rank). cond (nat_le y.id id && nat_le weight y.weight) 1 0) x xs
    ∙ ap (λ b. cond (b && nat_le weight x.weight) 1 0 + heavy_up_to weight id xs) e
    ∙ ap (λ b. cond (low && b) 1 0 + heavy_up_to weight id xs) f

none_seen : (b id : ℕ) (xs : List Rank) → id ≤ b → Above b xs → seen_up_to id xs ≡ 0
none_seen b id [] low above = refl
none_seen b id (x ∷ xs) low above = omega (arith, seen_more id x xs false (lt-leb x.id id (omega (arith, low, above.0))), none_seen b id xs low above.1)

none_heavy : (weight b id : ℕ) (xs : List Rank) → id ≤ b → Above b xs → heavy_up_to weight id xs ≡ 0
none_heavy weight b id [] low above = refl
none_heavy weight b id (x ∷ xs) low above =
    omega (arith, heavy_more weight id x xs false (nat_le weight x.weight) (lt-leb x.id id (omega (arith, low, above.0))) refl, none_heavy weight b id xs low above.1)

-- ---- it is no later

least_end : (id n m weight : ℕ) (x : Rank) (xs : List Rank) (last : Bool) → ((n == 0) && (m == 0)) ≡ last → x.id ≤ id → (1 ≤ n + m → settled_from n m weight xs ≤ id) → cond last x.id (settled_from n m weight xs) ≤ id
least_end id n m weight x xs true e low rest = low
least_end id n m weight x xs false e low rest = rest (some_left n m e)

least_step : (weight id n m : ℕ) (x : Rank) (xs : List Rank) (low heavy : Bool) → nat_le x.id id ≡ low → nat_le weight x.weight ≡ heavy
    → Above x.id xs → 1 ≤ n + m → n ≤ seen_up_to id (x ∷ xs) → m ≤ heavy_up_to weight id (x ∷ xs)
    → (1 ≤ (n - 1) + less_heavy weight m x → n - 1 ≤ seen_up_to id xs → less_heavy weight m x ≤ heavy_up_to weight id xs → settled_from (n - 1) (less_heavy weight m x) weight xs ≤ id)
    → settled_from n m weight (x ∷ xs) ≤ id
least_step weight id n m x xs false heavy e f above some a b rest =
    let before : id < x.id = leb-false x.id id e in
    absurd (omega (arith, some, a, b, seen_more id x xs false e, heavy_more weight id x xs false heavy e f, none_seen x.id id xs (omega (arith, before)) above, none_heavy weight x.id id xs (omega (arith, before)) above))
least_step weight id n m x xs true true e f above some a b rest =
    let less : less_heavy weight m x ≡ m - 1 = ap (λ (t : Bool). cond t (m - 1) m) f in
    least_end id (n - 1) (less_heavy weight m x) weight x xs (((n - 1) == 0) && (less_heavy weight m x == 0)) refl (leb-true x.id id e)
    (λ left. rest left (omega (arith, a, seen_more id x xs true e)) (omega (arith, b, less, heavy_more weight id x xs true true e f)))
least_step weight id n m x xs true false e f above some a b rest =
    let less : less_heavy weight m x ≡ m = ap (λ (t : Bool). cond t (m - 1) m) f in
    least_end id (n - 1) (less_heavy weight m x) weight x xs (((n - 1) == 0) && (less_heavy weight m x == 0)) refl (leb-true x.id id e)
    (λ left. rest left (omega (arith, a, seen_more id x xs true e)) (omega (arith, b, less, heavy_more weight id x xs true false e f)))

least_from : (weight id n m : ℕ) (ranks : List Rank) → Rising ranks → 1 ≤ n + m → n ≤ seen_up_to id ranks → m ≤ heavy_up_to weight id ranks → settled_from n m weight ranks ≤ id
least_from weight id n m [] rising some a b = absurd (omega (arith, some, a, b))
least_from weight id n m (x ∷ xs) rising some a b =
    least_step weight id n m x xs (nat_le x.id id) (nat_le weight x.weight) refl refl rising.0 some a b (least_from weight id (n - 1) (less_heavy weight m x) xs rising.1)

want_least : (id n k weight : ℕ) (ranks : List Rank) (none low : Bool) → (n == 0) ≡ none → (1 ≤ n → settled_from n k weight ranks ≤ id) → cond (none || low) 0 (settled_from n k weight ranks) ≤ id
want_least id n k weight ranks true low e rest = omega arith
want_least id n k weight ranks false true e rest = omega arith
want_least id n k weight ranks false false e rest = rest (is_some n e)

pub least : (paging : Paging) (ranks : List Rank) (weight id : ℕ) → AllPairs (λ (x y : Rank). x.id < y.id) ranks → wanted paging ≤ seen_up_to id ranks → paging.options.first + paging.options.size ≤ heavy_up_to (settling_weight paging weight) id ranks
    → settled paging ranks weight ≤ id
least paging ranks weight id rising a b =
    want_least id (wanted paging) (paging.options.first + paging.options.size) (settling_weight paging weight) ranks (wanted paging == 0) (nat_lt weight paging.options.cutoff) refl
    (λ some. least_from (settling_weight paging weight) id (wanted paging) (paging.options.first + paging.options.size) ranks (rising_of ranks rising) (omega (arith, some)) a b)

-- ---- leb-true to it there is enough

behind_end : (b n m weight : ℕ) (x : Rank) (xs : List Rank) (last : Bool) → b < x.id → cond last x.id (settled_from n m weight xs) < last_id → (settled_from n m weight xs < last_id → b < settled_from n m weight xs)
    → b < cond last x.id (settled_from n m weight xs)
behind_end b n m weight x xs true above within rest = above
behind_end b n m weight x xs false above within rest = rest within

behind : (b n m weight : ℕ) (ranks : List Rank) → Above b ranks → settled_from n m weight ranks < last_id → b < settled_from n m weight ranks
behind b n m weight [] above within = absurd (omega (arith, within))
behind b n m weight (x ∷ xs) above within =
    behind_end b (n - 1) (less_heavy weight m x) weight x xs (((n - 1) == 0) && (less_heavy weight m x == 0)) above.0 within (behind b (n - 1) (less_heavy weight m x) weight xs above.1)

abbrev Enough : ℕ → ℕ → ℕ → ℕ → List Rank → Type 0
Enough n m weight id ranks = (n ≤ seen_up_to id ranks) × (m ≤ heavy_up_to weight id ranks)

less_is : (weight m : ℕ) (x : Rank) (heavy : Bool) → nat_le weight x.weight ≡ heavy → m ≤ cond heavy 1 0 + less_heavy weight m x
less_is weight m x true f = let less : less_heavy weight m x ≡ m - 1 = ap (λ (t : Bool). cond t (m - 1) m) f in omega (arith, less)
less_is weight m x false f = let less : less_heavy weight m x ≡ m = ap (λ (t : Bool). cond t (m - 1) m) f in omega (arith, less)

enough_more : (weight n m id : ℕ) (x : Rank) (xs : List Rank) (heavy : Bool) → nat_le weight x.weight ≡ heavy → x.id ≤ id → n - 1 ≤ seen_up_to id xs → less_heavy weight m x ≤ heavy_up_to weight id xs → Enough n m weight id (x ∷ xs)
enough_more weight n m id x xs true f low a b =
    (omega (arith, a, seen_more id x xs true (le-leb x.id id low)), omega (arith, b, less_is weight m x true f, heavy_more weight id x xs true true (le-leb x.id id low) f))
enough_more weight n m id x xs false f low a b =
    (omega (arith, a, seen_more id x xs true (le-leb x.id id low)), omega (arith, b, less_is weight m x false f, heavy_more weight id x xs true false (le-leb x.id id low) f))

enough_end : (weight n m : ℕ) (x : Rank) (xs : List Rank) (last : Bool) → (((n - 1) == 0) && (less_heavy weight m x == 0)) ≡ last → Above x.id xs
    → cond last x.id (settled_from (n - 1) (less_heavy weight m x) weight xs) < last_id
    → (settled_from (n - 1) (less_heavy weight m x) weight xs < last_id → Enough (n - 1) (less_heavy weight m x) weight (settled_from (n - 1) (less_heavy weight m x) weight xs) xs)
    → Enough n m weight (cond last x.id (settled_from (n - 1) (less_heavy weight m x) weight xs)) (x ∷ xs)
enough_end weight n m x xs true e above within rest =
    let none : ((n - 1) ≡ 0) × (less_heavy weight m x ≡ 0) = both_none (n - 1) (less_heavy weight m x) e in
    enough_more weight n m x.id x xs (nat_le weight x.weight) refl (omega arith) (omega (arith, none.0)) (omega (arith, none.1))
enough_end weight n m x xs false e above within rest =
    let so : Enough (n - 1) (less_heavy weight m x) weight (settled_from (n - 1) (less_heavy weight m x) weight xs) xs = rest within in
    let low : x.id < settled_from (n - 1) (less_heavy weight m x) weight xs = behind x.id (n - 1) (less_heavy weight m x) weight xs above within in
    enough_more weight n m (settled_from (n - 1) (less_heavy weight m x) weight xs) x xs (nat_le weight x.weight) refl (omega (arith, low)) so.0 so.1

enough_from : (weight n m : ℕ) (ranks : List Rank) → Rising ranks → settled_from n m weight ranks < last_id → Enough n m weight (settled_from n m weight ranks) ranks
enough_from weight n m [] rising within = absurd (omega (arith, within))
enough_from weight n m (x ∷ xs) rising within =
    enough_end weight n m x xs (((n - 1) == 0) && (less_heavy weight m x == 0)) refl rising.0 within (enough_from weight (n - 1) (less_heavy weight m x) xs rising.1)

want_enough : (n k weight : ℕ) (ranks : List Rank) (none low : Bool) → (n == 0) ≡ none → low ≡ false → k ≤ n → cond (none || low) 0 (settled_from n k weight ranks) < last_id
    → (settled_from n k weight ranks < last_id → Enough n k weight (settled_from n k weight ranks) ranks) → Enough n k weight (cond (none || low) 0 (settled_from n k weight ranks)) ranks
want_enough n k weight ranks none true e high within some rest = absurd (true≢false high)
want_enough n k weight ranks true false e high within some rest = let zero_is : n ≡ 0 = is_none n e in (omega (arith, zero_is), omega (arith, zero_is, within))
want_enough n k weight ranks false false e high within some rest = rest some

pub enough : (paging : Paging) (ranks : List Rank) (weight : ℕ) → AllPairs (λ (x y : Rank). x.id < y.id) ranks → settled paging ranks weight < last_id → paging.options.cutoff ≤ weight
    → Enough (wanted paging) (paging.options.first + paging.options.size) (settling_weight paging weight) (settled paging ranks weight) ranks
enough paging ranks weight rising within high =
    want_enough (wanted paging) (paging.options.first + paging.options.size) (settling_weight paging weight) ranks (wanted paging == 0) (nat_lt weight paging.options.cutoff) refl (le-ltb weight paging.options.cutoff high) (omega arith) within
    (enough_from (settling_weight paging weight) (wanted paging) (paging.options.first + paging.options.size) ranks (rising_of ranks rising))

-- no match can weigh as much as the cutoff
or_true : (b : Bool) → (b || true) ≡ true
or_true true = refl
or_true false = refl

pub below : (paging : Paging) (ranks : List Rank) (weight : ℕ) → weight < paging.options.cutoff → settled paging ranks weight ≡ 0
below paging ranks weight lt =
    ap (λ (b : Bool). cond ((wanted paging == 0) || b) 0 (settled_from (wanted paging) (paging.options.first + paging.options.size) (settling_weight paging weight) ranks)) (lt-ltb weight paging.options.cutoff lt)
    ∙ ap (λ (b : Bool). cond b 0 (settled_from (wanted paging) (paging.options.first + paging.options.size) (settling_weight paging weight) ranks)) (or_true (wanted paging == 0))

-- ---- the least of several numbers

within_first : (n : ℕ) (o : Option ℕ) → at_most n o ≤ n
within_first n None = omega arith
within_first n (Some m) = omega arith

within_other : (n m : ℕ) (o : Option ℕ) → o ≡ Some m → at_most n o ≤ m
within_other n m o e = subst (λ (p : Option ℕ). at_most n p ≤ m) (sym e) (omega arith)

module _ (query : Tree) (paging : Paging) (docs : Docs) (hits : ℕ) where
  abbrev of_list : ℕ
  of_list = allowance query paging docs (length (found_by query paging docs)) hits

  abbrev of_stop : Option ℕ
  of_stop = stop_number query paging docs hits

  abbrev of_rare : Option ℕ
  of_rare = rare_number query paging docs (length (found_by query paging docs)) hits

  abbrev of_decay : Option ℕ
  of_decay = decay_number query paging docs hits

  pub sharp_allowed : sharp query paging docs hits ≤ allowance query paging docs (length (found_by query paging docs)) hits
  sharp_allowed =
      let one = within_first of_list of_stop in
      let two = within_first (at_most of_list of_stop) of_rare in
      let three = within_first (at_most (at_most of_list of_stop) of_rare) of_decay in
      omega (arith, one, two, three)

  pub sharp_stop : (n : ℕ) → stop_number query paging docs hits ≡ Some n → sharp query paging docs hits ≤ n
  sharp_stop n e =
      let one = within_other of_list n of_stop e in
      let two = within_first (at_most of_list of_stop) of_rare in
      let three = within_first (at_most (at_most of_list of_stop) of_rare) of_decay in
      omega (arith, one, two, three)

  pub sharp_rare : (n : ℕ) → rare_number query paging docs (length (found_by query paging docs)) hits ≡ Some n → sharp query paging docs hits ≤ n
  sharp_rare n e =
      let two = within_other (at_most of_list of_stop) n of_rare e in
      let three = within_first (at_most (at_most of_list of_stop) of_rare) of_decay in
      omega (arith, two, three)

  pub sharp_decay : (n : ℕ) → decay_number query paging docs hits ≡ Some n → sharp query paging docs hits ≤ n
  sharp_decay n e =
      within_other (at_most (at_most of_list of_stop) of_rare) n of_decay e

-- ---- no number is below the hits

abbrev AtLeast : ℕ → Option ℕ → Type 0
AtLeast h None = Unit {0}
AtLeast h (Some m) = h ≤ m

least_above : (h n : ℕ) (o : Option ℕ) → h ≤ n → AtLeast h o → h ≤ at_most n o
least_above h n None a b = a
least_above h n (Some m) a b = omega (arith, a, b)

mapped : {X : Type 0} (h : ℕ) (f : X → ℕ) (o : Option X) → ((x : X) → h ≤ f x) → AtLeast h (option_map f o)
mapped h f None so = tt
mapped h f (Some x) so = so x

where_applies : (h : ℕ) (test : Bool) (o : Option ℕ) → AtLeast h o → AtLeast h (cond test o None)
where_applies h true o so = so
where_applies h false o so = tt

module _ (paging : Paging) (docs : Docs) (hits : ℕ) where
  stop_hits : (query : Tree) → AtLeast hits (stop_number query paging docs hits)
  stop_hits query =
      where_applies hits (is_plain paging) (option_map (λ lists. ups lists (stop_point query paging docs) docs + hits) (flat_lists query docs))
      (mapped hits (λ (lists : List (List ℕ)). ups lists (stop_point query paging docs) docs + hits) (flat_lists query docs) (λ lists. omega arith))

  rare_hits : (query : Tree) (matching : ℕ) → AtLeast hits (rare_number query paging docs matching hits)
  rare_hits query matching =
      mapped hits (λ (p : List (List ℕ) × ℕ). rare_readings p.0 p.1 docs + extra paging matching hits) (rare_lists query docs) (λ p. omega arith)

  decay_of_hits : (query : Tree) (lists : Option (List (List ℕ))) → AtLeast hits (decay_of query paging docs hits lists)
  decay_of_hits query None = tt
  decay_of_hits query (Some []) = tt
  decay_of_hits query (Some (a ∷ [])) = tt
  decay_of_hits query (Some (a ∷ b ∷ [])) = omega arith
  decay_of_hits query (Some (a ∷ b ∷ c ∷ more)) = tt

  decay_hits : (query : Tree) → AtLeast hits (decay_number query paging docs hits)
  decay_hits nothing = tt
  decay_hits all = tt
  decay_hits (term t) = tt
  decay_hits (wildcard prefix) = tt
  decay_hits (parts Form.And ts) = tt
  decay_hits (parts Form.Or ts) =
      where_applies hits (is_plain paging) (decay_of (parts Form.Or ts) paging docs hits (of_two (terms_in ts))) (decay_of_hits (parts Form.Or ts) (of_two (terms_in ts)))
  decay_hits (parts Form.Xor ts) = tt
  decay_hits (parts Form.Max ts) = tt
  decay_hits (parts Form.AndNot ts) = tt
  decay_hits (parts Form.AndMaybe ts) = tt
  decay_hits (parts Form.Filter ts) = tt
  decay_hits (near window ts) = tt
  decay_hits (phrase window ts) = tt
  decay_hits (synonym ts) = tt
  decay_hits (scale f t) = tt
  decay_hits (range slot lo hi) = tt

  -- the hits are steps in each number
  pub sharp_hits : (query : Tree) → hits ≤ sharp query paging docs hits
  sharp_hits query =
      least_above hits (at_most (at_most (of_list query paging docs hits) (of_stop query paging docs hits)) (of_rare query paging docs hits)) (of_decay query paging docs hits)
      (
      least_above hits (at_most (of_list query paging docs hits) (of_stop query paging docs hits)) (of_rare query paging docs hits)
      (least_above hits (of_list query paging docs hits) (of_stop query paging docs hits) (omega arith) (stop_hits query))
      (rare_hits query (length (found_by query paging docs)))
      )
      (decay_hits query)
