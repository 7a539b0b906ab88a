-- What the terms of a document are: of all that is mentioned, each term once, in byte order, with the sum of its wdfs and all its places.
use Rattle.std.proofs.Common.{◌≡◌, ◌+◌, ℕ, Bool, true, false, List, [], ◌∷◌, ◌++◌, fold, filter, cond, refl, sym, ap, ◌∙◌, ◌||◌, true≢false, arith, sum_by, bytes_eq}
use Rattle.std.proofs.lemmas.List.Elements.{All-from_recursion}
use Rattle.std.proofs.lemmas.List.Kept.{AllPairs-cons}
use Rattle.std.proofs.lemmas.Map.Lookups.{exact_bytes}
use Rattle.std.proofs.lemmas.Map.Text.{is_eq-slice_cmp}
use Rattle.std.specs.List.{AllByRecursion}
use Rattle.std.specs.Cmp.Lexicographic.{slice_cmp, nat_list_cmp_total, bytes_decides}
use Rattle.std.specs.Ordering.{match_ordering, nat_cmp, ordering_reverse, is_eq}
use Rattle.std.specs.declared.cmp.Ordering.{Ordering}
use Rattle.std.specs.declared.cmp.Ordering.TheVariants.{Less, Equal, Greater}
use Rattle.sk_base.specs.declared.doc_entry.DocTerm.{DocTerm}
use Rattle.sk_base.specs.Order.{Precedes}
use Rattle.sk_base.specs.Documents.{AreTerms, has_term, wdf_of, positions_of}
use Rattle.sk_model.proofs.DocumentLaws.{swap_or, shift_or}
use Rattle.sk_model.specs.Documents.{merged, noted, terms_of, mentions_of}

-- ---- order

-- the terms rise
abbrev Rising : List DocTerm → Type 0
Rising [] = Unit {0}
Rising (one ∷ more) = AllByRecursion (λ t. Precedes one.term t.term) more × Rising more

all_behind : (a b : List ℕ) (terms : List DocTerm) → Precedes a b → AllByRecursion (λ t. Precedes b t.term) terms → AllByRecursion (λ t. Precedes a t.term) terms
all_behind a b [] h all = tt
all_behind a b (one ∷ more) h all = (nat_list_cmp_total.trans a b one.term h all.0, all_behind a b more h all.1)

before_step : (a : List ℕ) (one m : DocTerm) (more put : List DocTerm) (r : Ordering) → Precedes a m.term → AllByRecursion (λ t. Precedes a t.term) (one ∷ more)
    → AllByRecursion (λ t. Precedes a t.term) put → AllByRecursion (λ t. Precedes a t.term) (match_ordering r (m ∷ one ∷ more) (merged one m ∷ more) (one ∷ put))
before_step a one m more put Less h all rest = (h, all)
before_step a one m more put Equal h all rest = all
before_step a one m more put Greater h all rest = (all.0, rest)

before-noted : (a : List ℕ) (terms : List DocTerm) (m : DocTerm) → Precedes a m.term → AllByRecursion (λ t. Precedes a t.term) terms → AllByRecursion (λ t. Precedes a t.term) (noted terms m)
before-noted a [] m h all = (h, tt)
before-noted a (one ∷ more) m h all = before_step a one m more (noted more m) (slice_cmp nat_cmp m.term one.term) h all (before-noted a more m h all.1)

pub turned : (a b : List ℕ) → slice_cmp nat_cmp a b ≡ Greater → Precedes b a
turned a b h = nat_list_cmp_total.antisymm b a ∙ ap ordering_reverse h

rising_step : (one m : DocTerm) (more : List DocTerm) (r : Ordering) → slice_cmp nat_cmp m.term one.term ≡ r → Rising (one ∷ more) → Rising (noted more m)
    → Rising (match_ordering r (m ∷ one ∷ more) (merged one m ∷ more) (one ∷ noted more m))
rising_step one m more Less h rising rest = ((h, all_behind m.term one.term more h rising.0), rising)
rising_step one m more Equal h rising rest = rising
rising_step one m more Greater h rising rest = (before-noted one.term more m (turned m.term one.term h) rising.0, rest)

rising-noted : (terms : List DocTerm) (m : DocTerm) → Rising terms → Rising (noted terms m)
rising-noted [] m rising = (tt, tt)
rising-noted (one ∷ more) m rising = rising_step one m more (slice_cmp nat_cmp m.term one.term) refl rising (rising-noted more m rising.1)

rising-fold : (terms ms : List DocTerm) → Rising terms → Rising (fold noted terms ms)
rising-fold terms [] rising = rising
rising-fold terms (m ∷ ms) rising = rising-fold (noted terms m) ms (rising-noted terms m rising)

are_terms : (terms : List DocTerm) → Rising terms → AreTerms terms
are_terms [] rising = λ i j d lt within. absurd (omega arith)
are_terms (one ∷ more) rising =
    AllPairs-cons (λ (s t : DocTerm). Precedes s.term t.term) one more (All-from_recursion (λ (t : DocTerm). Precedes one.term t.term) more rising.0) (are_terms more rising.1)

-- the terms stand in byte order, each once
pub terms_rise : (ms : List DocTerm) → AreTerms (terms_of ms)
terms_rise ms = are_terms (terms_of ms) (rising-fold [] ms tt)

-- ---- what is kept of a term

pub less_differs : (a b : List ℕ) → slice_cmp nat_cmp a b ≡ Less → bytes_eq b a ≡ false
less_differs a b h = sym (is_eq-slice_cmp b a) ∙ ap is_eq (nat_list_cmp_total.antisymm b a ∙ ap ordering_reverse h)

fold-filter_step : {A B : Type 0} (g : B → A → B) (p : A → Bool) (a : B) (x : A) (xs : List A) (b : Bool)
    → fold g a (cond b (x ∷ filter p xs) (filter p xs)) ≡ fold g (cond b (g a x) a) (filter p xs)
fold-filter_step g p a x xs true = refl
fold-filter_step g p a x xs false = refl

fold-filter : {A B : Type 0} (g : B → A → B) (p : A → Bool) (a : B) (xs : List A) → fold (λ s x. cond (p x) (g s x) s) a xs ≡ fold g a (filter p xs)
fold-filter g p a [] = refl
fold-filter g p a (x ∷ xs) = fold-filter g p (cond (p x) (g a x) a) xs ∙ sym (fold-filter_step g p a x xs (p x))

zero_plus : (n : ℕ) → n ≡ 0 + n
zero_plus n = omega arith

module _ {X : Type 0} (f : DocTerm → X) (none : X) (plus : X → X → X) (add : (one m : DocTerm) → f (merged one m) ≡ plus (f one) (f m)) (start : (m : DocTerm) → f m ≡ plus none (f m)) where
  -- what the first entry of a term has
  abbrev of : List ℕ → List DocTerm → X
  of t [] = none
  of t (one ∷ more) = cond (bytes_eq one.term t) (f one) (of t more)

  absent : (t : List ℕ) (terms : List DocTerm) → AllByRecursion (λ s. Precedes t s.term) terms → of t terms ≡ none
  absent t [] all = refl
  absent t (one ∷ more) all = ap (λ b. cond b (f one) (of t more)) (less_differs t one.term all.0) ∙ absent t more all.1

  first_step : (t : List ℕ) (m : DocTerm) (terms : List DocTerm) (b : Bool) → (b ≡ true → of t terms ≡ none) → cond b (f m) (of t terms) ≡ cond b (plus (of t terms) (f m)) (of t terms)
  first_step t m terms true h = start m ∙ ap (λ x. plus x (f m)) (sym (h refl))
  first_step t m terms false h = refl

  same_step : (t : List ℕ) (one m : DocTerm) (rest : X) (b : Bool) → cond b (f (merged one m)) rest ≡ cond b (plus (cond b (f one) rest) (f m)) (cond b (f one) rest)
  same_step t one m rest true = add one m
  same_step t one m rest false = refl

  later_step : (one m : DocTerm) (now rest : X) (own its : Bool) → (own ≡ true → its ≡ false) → now ≡ cond its (plus rest (f m)) rest
      → cond own (f one) now ≡ cond its (plus (cond own (f one) rest) (f m)) (cond own (f one) rest)
  later_step one m now rest true true apart h = absurd (true≢false (apart refl))
  later_step one m now rest true false apart h = refl
  later_step one m now rest false its apart h = h

  noted_step : (t : List ℕ) (one m : DocTerm) (more : List DocTerm) (r : Ordering) → slice_cmp nat_cmp m.term one.term ≡ r → Rising (one ∷ more)
      → of t (noted more m) ≡ cond (bytes_eq m.term t) (plus (of t more) (f m)) (of t more)
      → of t (match_ordering r (m ∷ one ∷ more) (merged one m ∷ more) (one ∷ noted more m))
      ≡ cond (bytes_eq m.term t) (plus (of t (one ∷ more)) (f m)) (of t (one ∷ more))
  noted_step t one m more Less h rising rest =
      first_step t m (one ∷ more) (bytes_eq m.term t)
      (λ e. ap (λ s. of s (one ∷ more)) (sym ((bytes_decides m.term t).0 e)) ∙ absent m.term (one ∷ more) (h, all_behind m.term one.term more h rising.0))
  noted_step t one m more Equal h rising rest =
      same_step t one m (of t more) (bytes_eq one.term t)
      ∙ ap (λ s. cond (bytes_eq s t) (plus (of t (one ∷ more)) (f m)) (of t (one ∷ more))) (sym (exact_bytes m.term one.term h))
  noted_step t one m more Greater h rising rest =
      later_step one m (of t (noted more m)) (of t more) (bytes_eq one.term t) (bytes_eq m.term t)
      (λ e. ap (bytes_eq m.term) (sym ((bytes_decides one.term t).0 e)) ∙ less_differs one.term m.term (turned m.term one.term h))
      rest

  of-noted : (t : List ℕ) (terms : List DocTerm) (m : DocTerm) → Rising terms → of t (noted terms m) ≡ cond (bytes_eq m.term t) (plus (of t terms) (f m)) (of t terms)
  of-noted t [] m rising = first_step t m [] (bytes_eq m.term t) (λ e. refl)
  of-noted t (one ∷ more) m rising = noted_step t one m more (slice_cmp nat_cmp m.term one.term) refl rising (of-noted t more m rising.1)

  of-fold : (t : List ℕ) (terms ms : List DocTerm) → Rising terms → of t (fold noted terms ms) ≡ fold (λ x m. cond (bytes_eq m.term t) (plus x (f m)) x) (of t terms) ms
  of-fold t terms [] rising = refl
  of-fold t terms (m ∷ ms) rising =
      of-fold t (noted terms m) ms (rising-noted terms m rising)
      ∙ ap (λ x. fold (λ x m. cond (bytes_eq m.term t) (plus x (f m)) x) x ms) (of-noted t terms m rising)

  -- all that is mentioned of a term, one after the other
  pub of-terms_of : (t : List ℕ) (ms : List DocTerm) → of t (terms_of ms) ≡ fold (λ x m. plus x (f m)) none (filter (λ m. bytes_eq m.term t) ms)
  of-terms_of t ms = of-fold t [] ms tt ∙ fold-filter (λ x m. plus x (f m)) (λ m. bytes_eq m.term t) none ms

-- ---- the wdf and the places of a term

wdf_is : (t : List ℕ) (terms : List DocTerm) → wdf_of t terms ≡ of (λ one. one.wdf) 0 (λ n m. n + m) (λ one m. refl) (λ m. zero_plus m.wdf) t terms
wdf_is t [] = refl
wdf_is t (one ∷ more) = ap (λ n. cond (bytes_eq one.term t) one.wdf n) (wdf_is t more)

-- the wdf of a term is the sum of the wdfs of its mentions
pub wdf_of_mentions : (t : List ℕ) (ms : List DocTerm) → wdf_of t (terms_of ms) ≡ sum_by (λ m. m.wdf) (mentions_of t ms)
wdf_of_mentions t ms = wdf_is t (terms_of ms) ∙ of-terms_of (λ one. one.wdf) 0 (λ n m. n + m) (λ one m. refl) (λ m. zero_plus m.wdf) t ms

positions_is : (t : List ℕ) (terms : List DocTerm) → positions_of t terms ≡ of (λ one. one.positions) [] (λ ps qs. ps ++ qs) (λ one m. refl) (λ m. refl) t terms
positions_is t [] = refl
positions_is t (one ∷ more) = ap (λ ps. cond (bytes_eq one.term t) one.positions ps) (positions_is t more)

-- the places of a term are those of its mentions, one after the other
pub positions_of_mentions : (t : List ℕ) (ms : List DocTerm) → positions_of t (terms_of ms) ≡ fold (λ places m. places ++ m.positions) [] (mentions_of t ms)
positions_of_mentions t ms = positions_is t (terms_of ms) ∙ of-terms_of (λ one. one.positions) [] (λ ps qs. ps ++ qs) (λ one m. refl) (λ m. refl) t ms

-- ---- which terms there are

both_or : (a b : Bool) → (a || b) ≡ (a || (a || b))
both_or true b = refl
both_or false b = refl

or_none : (a : Bool) → (a || false) ≡ a
or_none true = refl
or_none false = refl

has_step : (t : List ℕ) (one m : DocTerm) (more put : List DocTerm) (r : Ordering) → slice_cmp nat_cmp m.term one.term ≡ r → has_term t put ≡ (bytes_eq m.term t || has_term t more)
    → has_term t (match_ordering r (m ∷ one ∷ more) (merged one m ∷ more) (one ∷ put)) ≡ (bytes_eq m.term t || has_term t (one ∷ more))
has_step t one m more put Less h rest = refl
has_step t one m more put Equal h rest =
    both_or (bytes_eq one.term t) (has_term t more) ∙ ap (λ s. bytes_eq s t || has_term t (one ∷ more)) (sym (exact_bytes m.term one.term h))
has_step t one m more put Greater h rest = ap (λ b. bytes_eq one.term t || b) rest ∙ swap_or (bytes_eq one.term t) (bytes_eq m.term t) (has_term t more)

has-noted : (t : List ℕ) (terms : List DocTerm) (m : DocTerm) → has_term t (noted terms m) ≡ (bytes_eq m.term t || has_term t terms)
has-noted t [] m = refl
has-noted t (one ∷ more) m = has_step t one m more (noted more m) (slice_cmp nat_cmp m.term one.term) refl (has-noted t more m)

has-fold : (t : List ℕ) (terms ms : List DocTerm) → has_term t (fold noted terms ms) ≡ (has_term t ms || has_term t terms)
has-fold t terms [] = refl
has-fold t terms (m ∷ ms) =
    has-fold t (noted terms m) ms ∙ ap (λ b. has_term t ms || b) (has-noted t terms m) ∙ shift_or (has_term t ms) (bytes_eq m.term t) (has_term t terms)

-- a document has the terms that are mentioned, and no other
pub has_mentioned : (t : List ℕ) (ms : List DocTerm) → has_term t (terms_of ms) ≡ has_term t ms
has_mentioned t ms = has-fold t [] ms ∙ or_none (has_term t ms)
