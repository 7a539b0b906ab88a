-- What an edit of one list, and of several, is to the lists of all terms.
use Rattle.std.proofs.Common.{◌≡◌, ℕ, zero, suc, ◌+◌, ◌<◌, Bool, true, false, if◌then◌else◌, ◌||◌, List, [], ◌∷◌, ◌++◌, length, get_or, drop, set, bytes_eq, Option, None, Some, unwrap_or, ◌≤◌, refl, sym, ap, subst, ◌∙◌, arith}
use mathlib.Core.Bool.{true≢false}
use Rattle.std.specs.List.{AllPairs}
use Rattle.std.specs.Cmp.{tied_itself}
use Rattle.std.specs.Cmp.Lexicographic.{nat_list_cmp_total}
use Rattle.std.proofs.lemmas.List.{get_or-set_same, get_or-set_other, drop_more, drop_all, get_or_append_left, get_or_push, length_push}
use Rattle.std.proofs.lemmas.List.Quantifiers.{all_pairs_push}
use Rattle.std.proofs.lemmas.Slice.Eq.{bytes_eq-Decides}
use Rattle.sk_base.specs.declared.doc_entry.DocTerm.{DocTerm}
use Rattle.sk_base.specs.Order.{Precedes}
use Rattle.sk_base.specs.Documents.{AreTerms, has_term, wdf_of}
use Rattle.sk_dict.specs.Terms.{term_at, number_of, number_for, with_term}
use Rattle.sk_dict.proofs.NumberLaws.{number_of-Some, number_of-term_at, number_of-added, absent_from-number_of}
use Rattle.sk_sorted.specs.Entries.{put, without}
use Rattle.sk_sorted.specs.Runs.{flat}
use Rattle.sk_chunks.specs.Postings.{Postings}
use Rattle.sk_lists.specs.Lists.{Runs}
use Rattle.sk_terms.specs.Listed.{Listed, list_under, list_of, IsListed, IsEdited, Puts, TakesOut, PutsAll, TakesOutAll}

-- no term stands before itself
pub Precedes-irrefl : (t : List ℕ) → Precedes t t → ⊥
Precedes-irrefl t h = let same = tied_itself nat_list_cmp_total t in cc

-- by whether a test holds
by_test : {A : Type 0} (b : Bool) (x y z : A) → (b ≡ true → z ≡ x) → (b ≡ false → z ≡ y) → z ≡ (if b then x else y)
by_test true x y z f g = f refl
by_test false x y z f g = g refl

-- the list under the number of a term
pub list_under-is : (listed : Listed) (t : List ℕ) (n : ℕ) → number_of t listed.terms ≡ Some n → list_of t listed ≡ flat (get_or listed.lists n [])
list_under-is listed t n e = ap (λ o. list_under o listed.lists) e

pub list_of-none : (listed : Listed) (t : List ℕ) → number_of t listed.terms ≡ None → list_of t listed ≡ []
list_of-none listed t e = ap (λ o. list_under o listed.lists) e

pub list_of-number : (listed : Listed) (n : ℕ) → IsListed listed → n < length listed.terms → list_of (term_at listed.terms n) listed ≡ flat (get_or listed.lists n [])
list_of-number listed n sound lt = list_under-is listed (term_at listed.terms n) n (number_of-term_at listed.terms n sound.different lt)

-- the list at the number of a term is changed
module _ (g : Postings → Postings) (terms : List (List ℕ)) (old : List Runs) (term : List ℕ) (n : ℕ) (runs : Runs) (entries : flat runs ≡ g (flat (get_or old n []))) (there : n < length old) (numbered : number_of term terms ≡ Some n) where
  abbrev pub changed_lists : List Runs
  changed_lists = set old n runs

  at_term : (t : List ℕ) → bytes_eq term t ≡ true → list_under (number_of t terms) changed_lists ≡ g (list_under (number_of t terms) old)
  at_term t pro =
      let same : term ≡ t = (bytes_eq-Decides term t).0 pro in
      let here : number_of t terms ≡ Some n = ap (λ w. number_of w terms) (sym same) ∙ numbered in
      ap (λ o. list_under o changed_lists) here ∙ ap flat (get_or-set_same old n runs [] there) ∙ entries ∙ sym (ap (λ o. g (list_under o old)) here)

  at_other : (t : List ℕ) → bytes_eq term t ≡ false → (o : Option ℕ) → number_of t terms ≡ o → list_under o changed_lists ≡ list_under o old
  at_other t con None e = refl
  at_other t con (Some m) e = ap flat (get_or-set_other old n m runs [] (λ same. true≢false (sym (pro same) ∙ con)))
    where
      pro : m ≡ n → bytes_eq term t ≡ true
      pro same = (bytes_eq-Decides term t).1 (sym (number_of-Some terms term n numbered).1 ∙ ap (term_at terms) (sym same) ∙ (number_of-Some terms t m e).1)

  pub list_changed : (t : List ℕ) → list_under (number_of t terms) changed_lists ≡ (if bytes_eq term t then g (list_under (number_of t terms) old) else list_under (number_of t terms) old)
  list_changed t = by_test (bytes_eq term t) _ _ _ (at_term t) (λ con. at_other t con (number_of t terms) refl)

pub changed_at : (g : Postings → Postings) (old new : Listed) (term : List ℕ) (n : ℕ) → IsListed old → n < length old.terms → number_of term old.terms ≡ Some n
    → new.terms ≡ old.terms → IsEdited n g old.lists new.lists
    → (t : List ℕ) → list_of t new ≡ (if bytes_eq term t then g (list_of t old) else list_of t old)
changed_at g old new term n sound there numbered same_terms changed t =
    (λ i. list_under (number_of t (same_terms i)) (changed.is i)) ∙ list_changed g old.terms old.lists term n changed.runs changed.entries (omega (arith, sound.sizes)) numbered t

-- nothing is taken out where the term has no number
pub takes_nothing : (listed : Listed) (id : ℕ) (term t : List ℕ) → number_of term listed.terms ≡ None → list_of t listed ≡ (if bytes_eq term t then without id (list_of t listed) else list_of t listed)
takes_nothing listed id term t none =
    by_test (bytes_eq term t) _ _ _ (λ pro.
    let same : term ≡ t = (bytes_eq-Decides term t).0 pro in
    let empty : list_of t listed ≡ [] = list_of-none listed t (ap (λ w. number_of w listed.terms) (sym same) ∙ none) in
    empty ∙ sym (ap (without id) empty)) (λ con. refl)

-- a new term, whose list is empty
module _ (terms : List (List ℕ)) (lists : List Runs) (term : List ℕ) (sizes : length lists ≡ length terms) (none : number_of term terms ≡ None) where
  same_by : (t : List ℕ) (o p : Option ℕ) → number_of t terms ≡ o → number_of t (terms ++ term ∷ []) ≡ p → list_under p (lists ++ [] ∷ []) ≡ list_under o lists
  same_by t (Some n) p e f =
      let here : p ≡ Some n = sym f ∙ kept t n e in
      ap (λ q. list_under q (lists ++ [] ∷ [])) here ∙ ap flat (get_or_append_left lists ([] ∷ []) [] n (omega (arith, (number_of-Some terms t n e).0)))
    where
      kept : (t : List ℕ) (n : ℕ) → number_of t terms ≡ Some n → number_of t (terms ++ term ∷ []) ≡ Some n
      kept t n e = Rattle.sk_dict.proofs.NumberLaws.number_of-push terms t term n e
  same_by t None None e f = refl
  same_by t None (Some n) e f = elim (bytes_eq term t) as (λ b. bytes_eq term t ≡ b → list_under (Some n) (lists ++ [] ∷ []) ≡ []) [
    | true ↦ λ pro. ap flat (get_or_push lists [] [] n (sym (last pro)))
    | false ↦ λ con. absurd (apart con)
  ] refl
    where
      last : bytes_eq term t ≡ true → n ≡ length lists
      last pro =
          let same : term ≡ t = (bytes_eq-Decides term t).0 pro in
          let added : number_of t (terms ++ term ∷ []) ≡ Some (length terms) = ap (λ w. number_of w (terms ++ term ∷ [])) (sym same) ∙ number_of-added terms term none in
          let both : n ≡ length terms = cc in
          both ∙ sym sizes

      apart : bytes_eq term t ≡ false → ⊥
      apart con =
          let h = number_of-Some (terms ++ term ∷ []) t n f in
          let size : length (terms ++ term ∷ []) ≡ length terms + 1 = length_push terms term in
          elim (Rattle.std.proofs.lemmas.Bool.cases_lt n (length terms)) [
            | Rattle.std.proofs.Common.inl lt ↦ absent_from-number_of terms t e n lt (sym (get_or_append_left terms (term ∷ []) [] n lt) ∙ h.1)
            | Rattle.std.proofs.Common.inr ge ↦ true≢false (sym ((bytes_eq-Decides term t).1 (sym (get_or_push terms term [] n (omega (arith, size, h.0, ge))) ∙ h.1)) ∙ con)
          ]

  pub list_of-added : (t : List ℕ) → list_under (number_of t (terms ++ term ∷ [])) (lists ++ [] ∷ []) ≡ list_under (number_of t terms) lists
  list_of-added t = same_by t (number_of t terms) (number_of t (terms ++ term ∷ [])) refl refl

-- the terms stay different
pub different-added : (terms : List (List ℕ)) (term : List ℕ) → number_of term terms ≡ None → AllPairs (λ s t. (s ≡ t) → ⊥) terms → AllPairs (λ s t. (s ≡ t) → ⊥) (terms ++ term ∷ [])
different-added terms term none different =
    all_pairs_push (λ s t. (s ≡ t) → ⊥) terms term different (λ k d lt same.
    absent_from-number_of terms term none k lt (Rattle.std.proofs.lemmas.List.get_or_default terms k [] d lt ∙ same))

-- of terms in order, the first does not come again
later_none : (t : List ℕ) (xs : List DocTerm) → ((k : ℕ) (d : DocTerm) → k < length xs → Precedes t (get_or xs k d).term) → has_term t xs ≡ false
later_none t [] h = refl
later_none t (x ∷ xs) h =
    let here : bytes_eq x.term t ≡ false = elim (bytes_eq x.term t) as (λ b. bytes_eq x.term t ≡ b → b ≡ false) [
      | true ↦ λ pro. absurd (Precedes-irrefl t (subst (Precedes t) ((bytes_eq-Decides x.term t).0 pro) (h 0 x (omega arith))))
      | false ↦ λ con. refl
    ] refl in
    ap (λ b. b || has_term t xs) here ∙ later_none t xs (λ k d lt. h (suc k) d (omega arith))

pub AreTerms-tail : (x : DocTerm) (xs : List DocTerm) → AreTerms (x ∷ xs) → AreTerms xs
AreTerms-tail x xs rising = λ i j d below within. rising (suc i) (suc j) d (omega arith) (omega arith)

pub AreTerms-drop : (n : ℕ) (xs : List DocTerm) → AreTerms xs → AreTerms (drop n xs)
AreTerms-drop zero xs rising = rising
AreTerms-drop (suc n) [] rising = rising
AreTerms-drop (suc n) (x ∷ xs) rising = AreTerms-drop n xs (AreTerms-tail x xs rising)

pub first_once : (x : DocTerm) (xs : List DocTerm) → AreTerms (x ∷ xs) → has_term x.term xs ≡ false
first_once x xs rising = later_none x.term xs (λ k d lt. rising 0 (suc k) d (omega arith) (omega arith))

-- by the tests at the first term and at the rest: both do not hold
two_tests : (f g : Postings → Postings) (b c : Bool) (old mid : Postings)
    → (b ≡ true → c ≡ false) → mid ≡ (if b then f old else old)
    → (if c then g mid else mid) ≡ (if b || c then (if b then f old else g old) else old)
two_tests f g true true old mid once e = absurd (true≢false (once refl))
two_tests f g true false old mid once e = e
two_tests f g false true old mid once e = ap g e
two_tests f g false false old mid once e = e

choice_of : {A B : Type 0} (h : A → B) (b : Bool) (x y : A) → (if b then h x else h y) ≡ h (if b then x else y)
choice_of h true x y = refl
choice_of h false x y = refl

pub once_at : (x : DocTerm) (xs : List DocTerm) (t : List ℕ) → AreTerms (x ∷ xs) → bytes_eq x.term t ≡ true → has_term t xs ≡ false
once_at x xs t rising pro = ap (λ w. has_term w xs) (sym ((bytes_eq-Decides x.term t).0 pro)) ∙ first_once x xs rising

-- one term, and then the others
pub PutsAll-more : (id : ℕ) (x : DocTerm) (xs : List DocTerm) (old mid new : Listed) → AreTerms (x ∷ xs) → Puts id x.term x.wdf old mid → PutsAll id xs mid new → PutsAll id (x ∷ xs) old new
PutsAll-more id x xs old mid new rising one all t =
    all t ∙ two_tests (put id x.wdf) (put id (wdf_of t xs)) (bytes_eq x.term t) (has_term t xs) (list_of t old) (list_of t mid) (once_at x xs t rising) (one t)
    ∙ ap (λ (p : Postings). if has_term t (x ∷ xs) then p else list_of t old) (choice_of (λ (n : ℕ). put id n (list_of t old)) (bytes_eq x.term t) x.wdf (wdf_of t xs))

pub TakesOutAll-more : (id : ℕ) (x : DocTerm) (xs : List DocTerm) (old mid new : Listed) → AreTerms (x ∷ xs) → TakesOut id x.term old mid → TakesOutAll id xs mid new → TakesOutAll id (x ∷ xs) old new
TakesOutAll-more id x xs old mid new rising one all t =
    all t ∙ two_tests (without id) (without id) (bytes_eq x.term t) (has_term t xs) (list_of t old) (list_of t mid) (once_at x xs t rising) (one t)
    ∙ ap (λ (p : Postings). if has_term t (x ∷ xs) then p else list_of t old) (same (bytes_eq x.term t) (without id (list_of t old)))
  where
    same : (b : Bool) (p : Postings) → (if b then p else p) ≡ p
    same true p = refl
    same false p = refl

-- the loops: what the rest does from here on, the whole does from the start
pub puts_on : (id i : ℕ) (terms : List DocTerm) (x : DocTerm) (start mid next : Listed) → AreTerms terms → i < length terms → x ≡ get_or terms i x
    → ((new : Listed) → PutsAll id (drop i terms) mid new → PutsAll id terms start new)
    → Puts id x.term x.wdf mid next
    → (new : Listed) → PutsAll id (drop (i + 1) terms) next new → PutsAll id terms start new
puts_on id i terms x start mid next rising lt is before one new all =
    let cut : drop i terms ≡ x ∷ drop (i + 1) terms = drop_more terms i x lt ∙ ap (λ (y : DocTerm). y ∷ drop (i + 1) terms) (sym is) in
    before new (subst (λ w. PutsAll id w mid new) (sym cut) (PutsAll-more id x (drop (i + 1) terms) mid next new (subst AreTerms cut (AreTerms-drop i terms rising)) one all))

pub puts_end : (id i : ℕ) (terms : List DocTerm) (start last : Listed) → length terms ≤ i → ((new : Listed) → PutsAll id (drop i terms) last new → PutsAll id terms start new) → PutsAll id terms start last
puts_end id i terms start last end rest = rest last (subst (λ (w : List DocTerm). PutsAll id w last last) (sym (drop_all i terms end)) (λ t. refl))

pub takes_on : (id i : ℕ) (terms : List DocTerm) (x : DocTerm) (start mid next : Listed) → AreTerms terms → i < length terms → x ≡ get_or terms i x
    → ((new : Listed) → TakesOutAll id (drop i terms) mid new → TakesOutAll id terms start new)
    → TakesOut id x.term mid next
    → (new : Listed) → TakesOutAll id (drop (i + 1) terms) next new → TakesOutAll id terms start new
takes_on id i terms x start mid next rising lt is before one new all =
    let cut : drop i terms ≡ x ∷ drop (i + 1) terms = drop_more terms i x lt ∙ ap (λ (y : DocTerm). y ∷ drop (i + 1) terms) (sym is) in
    before new (subst (λ w. TakesOutAll id w mid new) (sym cut) (TakesOutAll-more id x (drop (i + 1) terms) mid next new (subst AreTerms cut (AreTerms-drop i terms rising)) one all))

-- a number that is found is the term's, and without one the list is empty
pub found_by : (listed : Listed) (t : List ℕ) (o : Option ℕ) → o ≡ number_of t listed.terms → Rattle.std.proofs.Common.MatchOption o (list_of t listed ≡ []) (λ n. (n < length listed.terms) × (term_at listed.terms n ≡ t))
found_by listed t None e = list_of-none listed t (sym e)
found_by listed t (Some n) e = number_of-Some listed.terms t n (sym e)

-- the number that is given to a term is a lower one where it had it
new_by : (terms : List (List ℕ)) (term : List ℕ) (n : ℕ) (o : Option ℕ) → number_of term terms ≡ o → n ≡ unwrap_or o (length terms) → length terms ≤ n → o ≡ None
new_by terms term n None e given le = refl
new_by terms term n (Some m) e given le = absurd (omega (arith, (number_of-Some terms term m e).0))

-- where it is no lower one, the term had none
pub none-before : (terms : List (List ℕ)) (lists same_lists : List Runs) (term : List ℕ) (n : ℕ) → IsListed (record { terms = terms; lists = lists })
    → n ≡ number_for term terms → same_lists ≡ lists → length same_lists ≤ n → number_of term terms ≡ None
none-before terms lists same_lists term n sound given same le =
    new_by terms term n (number_of term terms) refl given (omega (arith, sound.sizes, ap length same))

-- the lists with one for a new term
pub IsListed-added : (terms new_terms : List (List ℕ)) (lists new_lists : List Runs) (term : List ℕ) → number_of term terms ≡ None → IsListed (record { terms = terms; lists = lists })
    → new_terms ≡ with_term term terms → new_lists ≡ lists ++ [] ∷ [] → IsListed (record { terms = new_terms; lists = new_lists })
IsListed-added terms new_terms lists new_lists term none sound grown longer =
    let added : new_terms ≡ terms ++ term ∷ [] = grown ∙ ap (λ (o : Option ℕ). if Rattle.std.proofs.Common.is_some o then terms else terms ++ term ∷ []) none in
    record {
      sizes = ap length longer ∙ omega (arith, length_push lists [], length_push terms term, sound.sizes) ∙ sym (ap length added);
      different = subst (AllPairs (λ s t. (s ≡ t) → ⊥)) (sym added) (different-added terms term none sound.different);
    }

pub SameLists-added : (terms new_terms : List (List ℕ)) (lists new_lists : List Runs) (term : List ℕ) → number_of term terms ≡ None → IsListed (record { terms = terms; lists = lists })
    → new_terms ≡ with_term term terms → new_lists ≡ lists ++ [] ∷ []
    → (t : List ℕ) → list_of t (record { terms = new_terms; lists = new_lists }) ≡ list_of t (record { terms = terms; lists = lists })
SameLists-added terms new_terms lists new_lists term none sound grown longer t =
    let added : new_terms ≡ terms ++ term ∷ [] = grown ∙ ap (λ (o : Option ℕ). if Rattle.std.proofs.Common.is_some o then terms else terms ++ term ∷ []) none in
    (λ i. list_under (number_of t (added i)) (longer i)) ∙ list_of-added terms lists term sound.sizes none t
