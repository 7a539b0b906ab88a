-- The lists of the leaves are as long as what the documents add to them, one by one; so those of parts are together those of all.
use Rattle.std.proofs.Common.{◌∙◌, ◌≡◌, ◌≤◌, ◌<◌, ◌+◌, ◌&&◌, ◌||◌, ℕ, zero, suc, Bool, true, false, cond, not, List, [], ◌∷◌, ◌++◌, length, map, filter, sum_by, count_by, bytes_eq, refl, sym, ap, arith, true≢false}
use Rattle.std.specs.List.{AllByRecursion}
use Rattle.std.proofs.lemmas.List.Sums.{sum_by-cons, sum_by-append}
use Rattle.std.proofs.lemmas.Slice.Eq.{bytes_eq-Decides}
use Rattle.sk_sorted.specs.Entries.{RiseAbove}
use Rattle.sk_sorted.specs.Joined.{part_in, parts_from, parts_in}
use Rattle.sk_base.specs.declared.doc.Doc.{Doc}
use Rattle.sk_base.specs.declared.doc_entry.DocTerm.{DocTerm}
use Rattle.sk_base.specs.Documents.{AreTerms, has_term, begins_with, has_value}
use Rattle.sk_base.specs.Numbers.{Docs, length_of, some_has, term_in, terms_with}
use Rattle.sk_query.specs.Trees.{Tree, nothing, all, term, wildcard, parts, near, phrase, synonym, scale, range, Trees, no_trees, tree}
use Rattle.sk_model.specs.Bounds.{lengths_of}
use Rattle.sk_model.specs.Allowance.{leaf_readings, leaves_readings}
use Rattle.sk_model.proofs.HeldLaws.{absent}
use Rattle.sk_model.proofs.JoinedLaws.{sum_in_parts, all_part_in}

-- ---- sums

sum_plus : {X : Type 0} (f g : X → ℕ) (xs : List X) → sum_by (λ x. f x + g x) xs ≡ sum_by f xs + sum_by g xs
sum_plus f g [] = refl
sum_plus f g (x ∷ xs) = let a = sum_by-cons (λ x. f x + g x) x xs in let b = sum_by-cons f x xs in let c = sum_by-cons g x xs in omega (arith, a, b, c, sum_plus f g xs)

sum_none : {X : Type 0} (xs : List X) → sum_by (λ (x : X). 0) xs ≡ 0
sum_none [] = refl
sum_none (x ∷ xs) = let a = sum_by-cons (λ x. 0) x xs in omega (arith, a, sum_none xs)

sum_ones : {X : Type 0} (xs : List X) → sum_by (λ (x : X). 1) xs ≡ length xs
sum_ones [] = refl
sum_ones (x ∷ xs) = let a = sum_by-cons (λ x. 1) x xs in omega (arith, a, sum_ones xs)

abbrev one_if : Bool → ℕ
one_if b = cond b 1 0

-- ---- terms, each once

tail : (x : DocTerm) (xs : List DocTerm) → AreTerms (x ∷ xs) → AreTerms xs
tail x xs rising = λ i j d below within. rising (suc i) (suc j) d (omega arith) (omega arith)

once : (x : DocTerm) (xs : List DocTerm) (t : List ℕ) → AreTerms (x ∷ xs) → bytes_eq x.term t ≡ true → has_term t xs ≡ false
once x xs t rising same = ap (λ w. has_term w xs) (sym ((bytes_eq-Decides x.term t).0 same)) ∙ absent x.term xs (λ j d l. rising 0 (suc j) d (omega arith) (omega arith))

-- how often a term stands in a list of terms
abbrev times : List ℕ → List (List ℕ) → ℕ
times v ts = sum_by (λ t. one_if (bytes_eq v t)) ts

bytes_eq-turn : (s t : List ℕ) → bytes_eq s t ≡ bytes_eq t s
bytes_eq-turn s t = by (bytes_eq s t) refl (bytes_eq t s) refl
  where
    by : (b : Bool) → bytes_eq s t ≡ b → (c : Bool) → bytes_eq t s ≡ c → bytes_eq s t ≡ bytes_eq t s
    by true e true f = e ∙ sym f
    by false e false f = e ∙ sym f
    by true e false f = absurd (true≢false (sym ((bytes_eq-Decides t s).1 (sym ((bytes_eq-Decides s t).0 e))) ∙ f))
    by false e true f = absurd (true≢false (sym ((bytes_eq-Decides s t).1 (sym ((bytes_eq-Decides t s).0 f))) ∙ e))

zero_first : (k : ℕ) → 0 + k ≡ k
zero_first k = omega arith

-- of those of a document that pass a test
times-own : (q : List ℕ → Bool) (v : List ℕ) (xs : List DocTerm) → AreTerms xs → times v (filter q (map term_in xs)) ≡ one_if (has_term v xs && q v)
times-own q v [] rising = refl
times-own q v (x ∷ xs) rising = by (q x.term) refl (bytes_eq x.term v) refl (times-own q v xs (tail x xs rising))
  where
    by : (p : Bool) → q x.term ≡ p → (b : Bool) → bytes_eq x.term v ≡ b → times v (filter q (map term_in xs)) ≡ one_if (has_term v xs && q v)
        → times v (cond p (x.term ∷ filter q (map term_in xs)) (filter q (map term_in xs))) ≡ one_if ((b || has_term v xs) && q v)
    by true e true f rest =
        let own : q v ≡ true = sym (ap q ((bytes_eq-Decides x.term v).0 f)) ∙ e in
        let gone : has_term v xs ≡ false = once x xs v rising f in
        let first = sum_by-cons (λ t. one_if (bytes_eq v t)) x.term (filter q (map term_in xs)) in
        first ∙ (λ i. one_if ((bytes_eq-turn v x.term ∙ f) i) + (rest ∙ ap (λ h. one_if (h && q v)) gone) i) ∙ sym (ap one_if own)
    by true e false f rest =
        let first = sum_by-cons (λ t. one_if (bytes_eq v t)) x.term (filter q (map term_in xs)) in
        first ∙ (λ i. one_if ((bytes_eq-turn v x.term ∙ f) i) + rest i) ∙ zero_first (one_if (has_term v xs && q v))
    by false e true f rest =
        let own : q v ≡ false = sym (ap q ((bytes_eq-Decides x.term v).0 f)) ∙ e in
        let gone : has_term v xs ≡ false = once x xs v rising f in
        rest ∙ ap (λ h. one_if (h && q v)) gone ∙ sym (ap one_if own)
    by false e false f rest = rest

-- of all terms that begin so, each once
times-all : (prefix v : List ℕ) (docs : Docs) → AllByRecursion (λ (one : ℕ × Doc). AreTerms one.1.terms) docs → times v (terms_with prefix docs) ≡ one_if (begins_with v prefix && some_has v docs)
times-all prefix v [] up = sym (nothing_there (begins_with v prefix))
  where
    nothing_there : (b : Bool) → one_if (b && false) ≡ 0
    nothing_there true = refl
    nothing_there false = refl
times-all prefix v (one ∷ more) up =
    sum_by-append (λ t. one_if (bytes_eq v t)) (filter new (map term_in one.1.terms)) (terms_with prefix more)
    ∙ (λ i. times-own new v one.1.terms up.0 i + times-all prefix v more up.1 i)
    ∙ either (has_term v one.1.terms) (begins_with v prefix) (some_has v more)
  where
    new : List ℕ → Bool
    new t = begins_with t prefix && not (some_has t more)

    either : (h b s : Bool) → one_if (h && (b && not s)) + one_if (b && s) ≡ one_if (b && (h || s))
    either true true true = refl
    either true true false = refl
    either true false s = refl
    either false true true = refl
    either false true false = refl
    either false false s = refl

-- how many of some terms a document has, by its terms
had : (ts : List (List ℕ)) (xs : List DocTerm) → AreTerms xs → sum_by (λ t. one_if (has_term t xs)) ts ≡ sum_by (λ (x : DocTerm). times x.term ts) xs
had ts [] rising = sum_none ts
had ts (x ∷ xs) rising =
    split ts
    ∙ (λ i. times x.term ts + had ts xs (tail x xs rising) i)
    ∙ sym (sum_by-cons (λ (x : DocTerm). times x.term ts) x xs)
  where
    apart : (b c : Bool) → (b ≡ true → c ≡ false) → one_if (b || c) ≡ one_if b + one_if c
    apart true true other = absurd (true≢false (other refl))
    apart true false other = refl
    apart false true other = refl
    apart false false other = refl

    split : (us : List (List ℕ)) → sum_by (λ t. one_if (has_term t (x ∷ xs))) us ≡ times x.term us + sum_by (λ t. one_if (has_term t xs)) us
    split [] = refl
    split (u ∷ us) =
        let a = sum_by-cons (λ t. one_if (has_term t (x ∷ xs))) u us in
        let b = sum_by-cons (λ t. one_if (bytes_eq x.term t)) u us in
        let c = sum_by-cons (λ t. one_if (has_term t xs)) u us in
        let d = apart (bytes_eq x.term u) (has_term u xs) (once x xs u rising) in
        omega (arith, a, b, c, d, split us)

-- ---- the postings of all terms that begin so

-- how many of a document's terms do
abbrev begun : List ℕ → Doc → ℕ
begun prefix d = sum_by (λ (x : DocTerm). one_if (begins_with x.term prefix)) d.terms

none_has : (t : List ℕ) (docs : Docs) → some_has t docs ≡ false → length_of t docs ≡ 0
none_has t [] h = refl
none_has t (one ∷ more) h =
    sum_by-cons (λ (x : ℕ × Doc). cond (has_term t x.1.terms) 1 0) one more
    ∙ by (has_term t one.1.terms) refl (none_has t more)
  where
    by : (b : Bool) → has_term t one.1.terms ≡ b → (some_has t more ≡ false → length_of t more ≡ 0) → cond b 1 0 + length_of t more ≡ 0
    by true e rest = absurd (true≢false (sym (ap (λ c. c || some_has t more) e) ∙ h))
    by false e rest = omega (arith, rest (sym (ap (λ c. c || some_has t more) e) ∙ h))

module _ (prefix : List ℕ) where
  -- what the later documents have of new terms is nothing
  new_none : (more : Docs) (xs : List DocTerm) → sum_by (λ t. length_of t more) (filter (λ t. begins_with t prefix && not (some_has t more)) (map term_in xs)) ≡ 0
  new_none more [] = refl
  new_none more (x ∷ xs) = by (begins_with x.term prefix) (some_has x.term more) refl (new_none more xs)
    where
      by : (b s : Bool) → some_has x.term more ≡ s → sum_by (λ t. length_of t more) (filter (λ t. begins_with t prefix && not (some_has t more)) (map term_in xs)) ≡ 0
          → sum_by (λ t. length_of t more) (cond (b && not s) (x.term ∷ filter (λ t. begins_with t prefix && not (some_has t more)) (map term_in xs)) (filter (λ t. begins_with t prefix && not (some_has t more)) (map term_in xs))) ≡ 0
      by true false e none = let a = sum_by-cons (λ t. length_of t more) x.term (filter (λ t. begins_with t prefix && not (some_has t more)) (map term_in xs)) in let b = none_has x.term more e in omega (arith, a, b, none)
      by true true e none = none
      by false s e none = none

  -- each of a document's terms is one of these where it begins so
  own_times : (docs : Docs) (ys xs : List DocTerm) → AllByRecursion (λ (one : ℕ × Doc). AreTerms one.1.terms) docs → ((t : List ℕ) → has_term t ys ≡ true → some_has t docs ≡ true) → ((t : List ℕ) → has_term t xs ≡ true → has_term t ys ≡ true)
      → sum_by (λ (x : DocTerm). times x.term (terms_with prefix docs)) xs ≡ sum_by (λ (x : DocTerm). one_if (begins_with x.term prefix)) xs
  own_times docs ys [] up there inside = refl
  own_times docs ys (x ∷ xs) up there inside =
      let a = sum_by-cons (λ (x : DocTerm). times x.term (terms_with prefix docs)) x xs in
      let b = sum_by-cons (λ (x : DocTerm). one_if (begins_with x.term prefix)) x xs in
      let own : some_has x.term docs ≡ true = there x.term (inside x.term (ap (λ c. c || has_term x.term xs) ((bytes_eq-Decides x.term x.term).1 refl))) in
      let first : times x.term (terms_with prefix docs) ≡ one_if (begins_with x.term prefix) = times-all prefix x.term docs up ∙ ap (λ s. one_if (begins_with x.term prefix && s)) own ∙ plain (begins_with x.term prefix) in
      let rest = own_times docs ys xs up there (λ t h. inside t (later (bytes_eq x.term t) (has_term t xs) h)) in
      omega (arith, a, b, first, rest)
    where
      later : (b c : Bool) → c ≡ true → (b || c) ≡ true
      later true c e = refl
      later false c e = e

      plain : (b : Bool) → one_if (b && true) ≡ one_if b
      plain true = refl
      plain false = refl

  wild_readings : (docs : Docs) → AllByRecursion (λ (one : ℕ × Doc). AreTerms one.1.terms) docs → sum_by (λ t. length_of t docs) (terms_with prefix docs) ≡ sum_by (λ (e : ℕ × Doc). begun prefix e.1) docs
  wild_readings [] up = refl
  wild_readings (one ∷ more) up =
      let each : (ts : List (List ℕ)) → sum_by (λ t. length_of t (one ∷ more)) ts ≡ sum_by (λ t. one_if (has_term t one.1.terms)) ts + sum_by (λ t. length_of t more) ts = each_of in
      let of_one : sum_by (λ t. one_if (has_term t one.1.terms)) (terms_with prefix (one ∷ more)) ≡ begun prefix one.1 =
      had (terms_with prefix (one ∷ more)) one.1.terms up.0
      ∙ own_times (one ∷ more) one.1.terms one.1.terms up (λ t h. ap (λ b. b || some_has t more) h) (λ t h. h) in
      let of_more : sum_by (λ t. length_of t more) (terms_with prefix (one ∷ more)) ≡ 0 + sum_by (λ t. length_of t more) (terms_with prefix more) =
      sum_by-append (λ t. length_of t more) (filter (λ t. begins_with t prefix && not (some_has t more)) (map term_in one.1.terms)) (terms_with prefix more)
      ∙ ap (λ k. k + sum_by (λ t. length_of t more) (terms_with prefix more)) (new_none more one.1.terms) in
      let both = each (terms_with prefix (one ∷ more)) in
      let rest = wild_readings more up.1 in
      let whole = sum_by-cons (λ (e : ℕ × Doc). begun prefix e.1) one more in
      omega (arith, both, of_one, of_more, rest, whole)
    where
      each_of : (ts : List (List ℕ)) → sum_by (λ t. length_of t (one ∷ more)) ts ≡ sum_by (λ t. one_if (has_term t one.1.terms)) ts + sum_by (λ t. length_of t more) ts
      each_of [] = refl
      each_of (t ∷ ts) =
          let a = sum_by-cons (λ t. length_of t (one ∷ more)) t ts in
          let b = sum_by-cons (λ t. one_if (has_term t one.1.terms)) t ts in
          let c = sum_by-cons (λ t. length_of t more) t ts in
          let d = sum_by-cons (λ (x : ℕ × Doc). cond (has_term t x.1.terms) 1 0) one more in
          omega (arith, a, b, c, d, each_of ts)

-- ---- of each leaf

-- the readings that a document adds for these terms
abbrev reads_of : List (List ℕ) → Doc → ℕ
reads_of ts d = sum_by (λ t. one_if (has_term t d.terms)) ts

lengths_by : (ts : List (List ℕ)) (docs : Docs) → lengths_of ts docs ≡ sum_by (λ (e : ℕ × Doc). reads_of ts e.1) docs
lengths_by [] docs = sym (sum_none docs)
lengths_by (t ∷ ts) docs =
    let rest = lengths_by ts docs in
    let both = sum_plus (λ (e : ℕ × Doc). one_if (has_term t e.1.terms)) (λ (e : ℕ × Doc). reads_of ts e.1) docs in
    let cut = same_sum docs in
    omega (arith, rest, both, cut)
  where
    same_sum : (es : Docs) → sum_by (λ (e : ℕ × Doc). reads_of (t ∷ ts) e.1) es ≡ sum_by (λ (e : ℕ × Doc). one_if (has_term t e.1.terms) + reads_of ts e.1) es
    same_sum [] = refl
    same_sum (e ∷ es) =
        let a = sum_by-cons (λ (e : ℕ × Doc). reads_of (t ∷ ts) e.1) e es in
        let b = sum_by-cons (λ (e : ℕ × Doc). one_if (has_term t e.1.terms) + reads_of ts e.1) e es in
        let c = sum_by-cons (λ u. one_if (has_term u e.1.terms)) t ts in
        omega (arith, a, b, c, same_sum es)

abbrev mutual
  -- what a document adds to the lists of all leaves
  pub reads : Tree → Doc → ℕ
  reads nothing d = 0
  reads all d = 1
  reads (term t) d = one_if (has_term t d.terms)
  reads (wildcard prefix) d = begun prefix d
  reads (parts form ts) d = reads_all ts d
  reads (near window ts) d = reads_of ts d + reads_of ts d
  reads (phrase window ts) d = reads_of ts d + reads_of ts d
  reads (synonym ts) d = reads_of ts d
  reads (scale f t) d = reads t d
  reads (range slot lo hi) d = one_if (has_value slot d.values)

  pub reads_all : Trees → Doc → ℕ
  reads_all no_trees d = 0
  reads_all (tree t ts) d = reads t d + reads_all ts d

module _ (docs : Docs) (up : AllByRecursion (λ (one : ℕ × Doc). AreTerms one.1.terms) docs) where
  mutual
    pub leaves_by : (query : Tree) → leaf_readings query docs ≡ sum_by (λ (e : ℕ × Doc). reads query e.1) docs
    leaves_by nothing = sym (sum_none docs)
    leaves_by all = sym (sum_ones docs)
    leaves_by (term t) = refl
    leaves_by (wildcard prefix) = wild_readings prefix docs up
    leaves_by (parts form ts) = all_leaves_by ts
    leaves_by (near window ts) = let one = lengths_by ts docs in let two = sum_plus (λ (e : ℕ × Doc). reads_of ts e.1) (λ (e : ℕ × Doc). reads_of ts e.1) docs in omega (arith, one, two)
    leaves_by (phrase window ts) = let one = lengths_by ts docs in let two = sum_plus (λ (e : ℕ × Doc). reads_of ts e.1) (λ (e : ℕ × Doc). reads_of ts e.1) docs in omega (arith, one, two)
    leaves_by (synonym ts) = lengths_by ts docs
    leaves_by (scale f t) = leaves_by t
    leaves_by (range slot lo hi) = refl

    all_leaves_by : (ts : Trees) → leaves_readings ts docs ≡ sum_by (λ (e : ℕ × Doc). reads_all ts e.1) docs
    all_leaves_by no_trees = sym (sum_none docs)
    all_leaves_by (tree t ts) =
        let one = leaves_by t in
        let rest = all_leaves_by ts in
        let both = sum_plus (λ (e : ℕ × Doc). reads t e.1) (λ (e : ℕ × Doc). reads_all ts e.1) docs in
        omega (arith, one, rest, both)

-- ---- of parts
pub leaves_in_parts : (n : ℕ) (query : Tree) (docs : Docs) → 0 < n → RiseAbove 0 docs → AllByRecursion (λ (one : ℕ × Doc). AreTerms one.1.terms) docs
    → sum_by (λ (es : Docs). leaf_readings query es) (parts_in n docs) ≡ leaf_readings query docs
leaves_in_parts n query docs some rise up = same n 0 ∙ sym (sum_in_parts n docs some rise (λ (d : Doc). reads query d)) ∙ sym (leaves_by docs up query)
  where
    same : (more part : ℕ) → sum_by (λ (es : Docs). leaf_readings query es) (parts_from more n part docs) ≡ sum_by (λ (es : Docs). sum_by (λ (e : ℕ × Doc). reads query e.1) es) (parts_from more n part docs)
    same zero part = refl
    same (suc more) part =
        let a = sum_by-cons (λ (es : Docs). leaf_readings query es) (part_in n part docs) (parts_from more n (part + 1) docs) in
        let b = sum_by-cons (λ (es : Docs). sum_by (λ (e : ℕ × Doc). reads query e.1) es) (part_in n part docs) (parts_from more n (part + 1) docs) in
        let c = leaves_by (part_in n part docs) (all_part_in (λ (d : Doc). AreTerms d.terms) n part docs up) query in
        omega (arith, a, b, c, same more (part + 1))
