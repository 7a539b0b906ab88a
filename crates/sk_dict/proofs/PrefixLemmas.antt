-- The terms that begin with a prefix stand together in the order.
use Rattle.std.proofs.Common.{◌≡◌, ℕ, Bool, true, false, Option, None, Some, is_some, IfSome, List, [], ◌∷◌, nat_eq, sym, ap, subst, ◌∙◌, refl, inl, inr}
use Rattle.std.specs.Ordering.{nat_cmp, ordering_then}
use Rattle.std.specs.FinMap.{nat_cmp-IsAntisymmetric}
use Rattle.std.specs.declared.cmp.Ordering.{Ordering}
use Rattle.std.specs.declared.cmp.Ordering.TheVariants.{Less, Equal, Greater}
use Rattle.std.proofs.lemmas.Bool.{cases_eq, and_from, and_parts}
use Rattle.std.proofs.lemmas.Bool.Decides.{Decides-eqb}
use Rattle.std.proofs.lemmas.Cmp.{nat_cmp_total, tied_itself}
use Rattle.sk_dict.specs.Terms.{term_at, term_cmp, Precedes, begins_with, IsFollower, IsNext, HasNoNext}
use Rattle.sk_dict.specs.Searches.{passed, stands_before, IsFirst, AllPassed, start_of}
use Rattle.sk_dict.proofs.OrderLemmas.{turned, turned_back}

-- what a term and a prefix of one byte more have in common
begins_more : (c x : ℕ) (cs xs : List ℕ) → begins_with (x ∷ xs) (c ∷ cs) ≡ true → (c ≡ x) × (begins_with xs cs ≡ true)
begins_more c x cs xs h =
    let parts : (nat_eq c x ≡ true) × (begins_with xs cs ≡ true) = and_parts (nat_eq c x) (begins_with xs cs) h in
    ((Decides-eqb c x).0 parts.0, parts.1)

-- and back
begins_from : (c x : ℕ) (cs xs : List ℕ) → c ≡ x → begins_with xs cs ≡ true → begins_with (x ∷ xs) (c ∷ cs) ≡ true
begins_from c x cs xs e h = and_from (nat_eq c x) (begins_with xs cs) ((Decides-eqb c x).1 e) h

-- a text begins with itself
begins_itself : (p : List ℕ) → begins_with p p ≡ true
begins_itself [] = refl
begins_itself (c ∷ cs) = begins_from c c cs cs refl (begins_itself cs)

-- bytes that are the same leave the order to what follows them
then_rest : (c x : ℕ) (o : Ordering) → c ≡ x → ordering_then (nat_cmp x c) o ≡ o
then_rest c x o e = ap (λ w. ordering_then w o) (ap (nat_cmp x) e ∙ tied_itself nat_cmp_total x)

-- what begins with a prefix does not stand before it
prefix_not_passed : (p t : List ℕ) → begins_with t p ≡ true → stands_before p false t ≡ false
prefix_not_passed [] [] h = refl
prefix_not_passed [] (x ∷ xs) h = refl
prefix_not_passed (c ∷ cs) [] h = cc
prefix_not_passed (c ∷ cs) (x ∷ xs) h =
    let parts : (c ≡ x) × (begins_with xs cs ≡ true) = begins_more c x cs xs h in
    ap (passed false) (then_rest c x (term_cmp xs cs) parts.0) ∙ prefix_not_passed cs xs parts.1

-- a byte between two that are the same, by how it stands to them
between_by : (c x : ℕ) (behind : Bool) (r s o : Ordering) → nat_cmp x c ≡ o → passed behind (ordering_then o r) ≡ false → ordering_then o s ≡ Less
    → (c ≡ x) × (passed behind r ≡ false) × (s ≡ Less)
between_by c x behind r s Less e h k = cc
between_by c x behind r s Equal e h k = (sym (nat_cmp-IsAntisymmetric x c e), h, k)
between_by c x behind r s Greater e h k = cc

-- what stands between two terms that begin with the prefix begins with it
begins_between : (p a x y : List ℕ) (behind : Bool) → begins_with a p ≡ true → begins_with y p ≡ true → stands_before a behind x ≡ false → Precedes x y → begins_with x p ≡ true
begins_between [] a x y behind ha hy h k = refl
begins_between (c ∷ cs) [] x y behind ha hy h k = cc
begins_between (c ∷ cs) (d ∷ ds) x [] behind ha hy h k = cc
begins_between (c ∷ cs) (d ∷ ds) [] (e ∷ es) behind ha hy h k = cc
begins_between (c ∷ cs) (d ∷ ds) (x ∷ xs) (e ∷ es) behind ha hy h k =
    let low : (c ≡ d) × (begins_with ds cs ≡ true) = begins_more c d cs ds ha in
    let high : (c ≡ e) × (begins_with es cs ≡ true) = begins_more c e cs es hy in
    let parts : (c ≡ x) × (passed behind (term_cmp xs ds) ≡ false) × (term_cmp xs es ≡ Less) =
    between_by c x behind (term_cmp xs ds) (term_cmp xs es) (nat_cmp x c) refl
    (subst (λ w. passed behind (ordering_then (nat_cmp x w) (term_cmp xs ds)) ≡ false) (sym low.0) h)
    (subst (λ w. ordering_then (nat_cmp x w) (term_cmp xs es) ≡ Less) (sym high.0) k) in
    begins_from c x cs xs parts.0 (begins_between cs ds xs es behind low.1 high.1 parts.1 parts.2)

-- a term that is not passed, where what is wanted stands behind the key, stands behind it
behind_by : (a key : List ℕ) (o : Ordering) → term_cmp a key ≡ o → passed true o ≡ false → Precedes key a
behind_by a key Less e h = cc
behind_by a key Equal e h = cc
behind_by a key Greater e h = turned_back a key e

module _ (terms : List (List ℕ)) (prefix : List ℕ) where
  -- what follows is not passed
  follower_left : (after : Option ℕ) (m : ℕ) → IsFollower terms prefix after m → stands_before (start_of terms prefix after) (is_some after) (term_at terms m) ≡ false
  follower_left None m f = prefix_not_passed prefix (term_at terms m) f.begins
  follower_left (Some a) m f = ap (passed true) (turned (term_at terms a) (term_at terms m) f.behind)

  -- what is not passed stands behind the term that was given
  left_is_behind : (after : Option ℕ) (n : ℕ) → stands_before (start_of terms prefix after) (is_some after) (term_at terms n) ≡ false
      → IfSome after (λ a. Precedes (term_at terms a) (term_at terms n))
  left_is_behind None n h = tt
  left_is_behind (Some a) n h = behind_by (term_at terms n) (term_at terms a) (term_cmp (term_at terms n) (term_at terms a)) refl h

  -- the walk begins at a text that begins with the prefix
  start_begins : (after : Option ℕ) → IfSome after (λ a. begins_with (term_at terms a) prefix ≡ true) → begins_with (start_of terms prefix after) prefix ≡ true
  start_begins None h = begins_itself prefix
  start_begins (Some a) h = h

  -- all terms are passed, so nothing follows
  pub none_follows : (after : Option ℕ) → AllPassed terms (start_of terms prefix after) (is_some after) → HasNoNext terms prefix after
  none_follows after all m f =
      let p : stands_before (start_of terms prefix after) (is_some after) (term_at terms m) ≡ true = all m f.there in
      let q : stands_before (start_of terms prefix after) (is_some after) (term_at terms m) ≡ false = follower_left after m f in
      cc

  -- the first that is not passed begins with the prefix
  pub first_follows : (after : Option ℕ) (n : ℕ) → IsFirst terms (start_of terms prefix after) (is_some after) n → begins_with (term_at terms n) prefix ≡ true → IsNext terms prefix after n
  first_follows after n first h = record {
    follows = record { there = first.there; begins = h; behind = left_is_behind after n first.reached };
    first = λ m f ne. first.first m f.there (follower_left after m f) ne;
  }

  -- it does not, so nothing follows
  pub first_is_past : (after : Option ℕ) (n : ℕ) → IfSome after (λ a. begins_with (term_at terms a) prefix ≡ true) → IsFirst terms (start_of terms prefix after) (is_some after) n
      → begins_with (term_at terms n) prefix ≡ false → HasNoNext terms prefix after
  first_is_past after n given first h m f = elim (cases_eq m n) [
    | inl e ↦ let p : begins_with (term_at terms n) prefix ≡ true = ap (λ k. begins_with (term_at terms k) prefix) (sym e) ∙ f.begins in cc
    | inr ne ↦
        let p : begins_with (term_at terms n) prefix ≡ true =
        begins_between prefix (start_of terms prefix after) (term_at terms n) (term_at terms m) (is_some after) (start_begins after given) f.begins first.reached
        (first.first m f.there (follower_left after m f) ne) in
        cc
  ]
