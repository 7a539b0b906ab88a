-- How the walk over the terms that begin with a prefix is found among the blocks.
use Rattle.std.proofs.Common.{◌≡◌, ℕ, Bool, true, false, cond, Option, None, Some, IfSome, is_some, List, [], ◌∷◌, ◌++◌, refl, sym, ap, subst, ◌∙◌, append_assoc}
use Rattle.std.specs.List.{concat, take_while}
use Rattle.std.proofs.lemmas.Cmp.{nat_list_cmp_total, tied_itself}
use Rattle.std.proofs.lemmas.List.Sums.{take_while-cons}
use Rattle.sk_dict.specs.Terms.{term_at, begins_with, Precedes, IsWalk}
use Rattle.sk_dict.specs.Searches.{passed, passes, start_of, IsFirst}
use Rattle.sk_dict.specs.Order.{Each, IsKnown, IsRising, IsOrder, IsSplit}
use Rattle.sk_dict.specs.Blocks.{front_of, rest_from, IsStep}
use Rattle.sk_dict.proofs.EachLemmas.{Each-append, Each-rest, Each-map}
use Rattle.sk_dict.proofs.RisingLemmas.{IsRising-rest, front_passes}
use Rattle.sk_dict.proofs.OrderLemmas.{turned, first_left}
use Rattle.sk_dict.proofs.PrefixLemmas.{none_follows, first_follows, first_is_past}

module _ (terms : List (List ℕ)) (order : List ℕ) (prefix : List ℕ) (o : IsOrder terms order) where
  -- the first that is left is passed as well
  one_more : (front ns : List ℕ) (n : ℕ) (key : List ℕ) (behind : Bool) → IsSplit (passes terms key behind) order front (n ∷ ns)
      → IsSplit (passes terms (term_at terms n) true) order (front ++ n ∷ []) ns
  one_more front ns n key behind s =
      let rising : IsRising terms (front ++ n ∷ ns) = subst (IsRising terms) s.whole o.rising in
      let rest : IsRising terms (n ∷ ns) = IsRising-rest terms front (n ∷ ns) rising in
      let own : passes terms (term_at terms n) true n ≡ true = ap (passed true) (tied_itself nat_list_cmp_total (term_at terms n)) in
      record {
        whole = s.whole ∙ sym (append_assoc front (n ∷ []) ns);
        passed = Each-append (λ m. passes terms (term_at terms n) true m ≡ true) front (n ∷ []) (front_passes terms (term_at terms n) true front ns n rising own) (own, tt);
        left = Each-map (λ m. Precedes (term_at terms n) (term_at terms m)) (λ m. passes terms (term_at terms n) true m ≡ false) ns (λ m p. ap (passed true) (turned (term_at terms n) (term_at terms m) p)) rest.0;
      }

  -- what is left of an order, as far as the terms begin with the prefix
  pub walk_left : (after : Option ℕ) (front rest : List ℕ) → IfSome after (λ a. begins_with (term_at terms a) prefix ≡ true)
      → IsSplit (passes terms (start_of terms prefix after) (is_some after)) order front rest
      → IsWalk terms prefix after (take_while (λ n. begins_with (term_at terms n) prefix) rest)
  walk_left after front [] given s = none_follows terms prefix after (first_left terms order front (start_of terms prefix after) (is_some after) o [] s)
  walk_left after front (n ∷ ns) given s =
      subst (IsWalk terms prefix after) (sym (take_while-cons (λ m. begins_with (term_at terms m) prefix) n ns))
      (by (begins_with (term_at terms n) prefix) refl (λ e. walk_left (Some n) (front ++ n ∷ []) ns e (one_more front ns n (start_of terms prefix after) (is_some after) s)))
    where
      first : IsFirst terms (start_of terms prefix after) (is_some after) n
      first = first_left terms order front (start_of terms prefix after) (is_some after) o (n ∷ ns) s

      by : (b : Bool) → begins_with (term_at terms n) prefix ≡ b
          → (begins_with (term_at terms n) prefix ≡ true → IsWalk terms prefix (Some n) (take_while (λ m. begins_with (term_at terms m) prefix) ns))
          → IsWalk terms prefix after (cond b (n ∷ take_while (λ m. begins_with (term_at terms m) prefix) ns) [])
      by true e more = (first_follows terms prefix after n first e, more e)
      by false e more = first_is_past terms prefix after n given first e

-- the numbers from a place among the blocks on have a term
pub known_rest : (terms blocks seen again : List (List ℕ)) (test : ℕ → Bool) (b offset : ℕ) → seen ≡ blocks → again ≡ blocks → IsOrder terms (concat blocks)
    → IsSplit test (concat seen) (front_of seen b offset) (rest_from seen b offset) → Each (IsKnown terms) (rest_from again b offset)
known_rest terms blocks seen again test b offset same_seen same_again o s =
    let known : Each (IsKnown terms) (front_of seen b offset ++ rest_from seen b offset) = subst (Each (IsKnown terms)) (ap concat (sym same_seen) ∙ s.whole) o.known in
    subst (λ w. Each (IsKnown terms) (rest_from w b offset)) (same_seen ∙ sym same_again) (Each-rest (IsKnown terms) (front_of seen b offset) (rest_from seen b offset) known)

-- and as far as these terms begin with the prefix, where the place is that of the prefix, they are the walk
pub walk_found : (now terms blocks seen again : List (List ℕ)) (prefix : List ℕ) (b offset : ℕ) (ns : List ℕ) → terms ≡ now → seen ≡ blocks → again ≡ blocks → IsOrder terms (concat blocks)
    → IsSplit (passes terms prefix false) (concat seen) (front_of seen b offset) (rest_from seen b offset)
    → ns ≡ take_while (λ n. begins_with (term_at terms n) prefix) (rest_from again b offset) → IsWalk now prefix None ns
walk_found now terms blocks seen again prefix b offset ns is same_seen same_again o s e =
    let split : IsSplit (passes terms prefix false) (concat blocks) (front_of seen b offset) (rest_from seen b offset) =
    subst (λ w. IsSplit (passes terms prefix false) (concat w) (front_of seen b offset) (rest_from seen b offset)) same_seen s in
    let found : ns ≡ take_while (λ n. begins_with (term_at terms n) prefix) (rest_from seen b offset) =
    e ∙ ap (λ w. take_while (λ n. begins_with (term_at terms n) prefix) (rest_from w b offset)) (same_again ∙ sym same_seen) in
    subst (λ w. IsWalk w prefix None ns) is
    (subst (IsWalk terms prefix None) (sym found) (walk_left terms (concat blocks) prefix o None (front_of seen b offset) (rest_from seen b offset) tt split))

-- a number more was found, and what follows it is what was left
pub walk_on : (terms blocks : List (List ℕ)) (prefix : List ℕ) (b offset n a c : ℕ) (found more all : List ℕ) → IsStep blocks b offset n a c → begins_with (term_at terms n) prefix ≡ true
    → more ≡ found ++ n ∷ [] → found ++ take_while (λ m. begins_with (term_at terms m) prefix) (rest_from blocks b offset) ≡ all
    → more ++ take_while (λ m. begins_with (term_at terms m) prefix) (rest_from blocks a c) ≡ all
walk_on terms blocks prefix b offset n a c found more all s begins grown whole =
    let test : ℕ → Bool = λ m. begins_with (term_at terms m) prefix in
    let rest : List ℕ = rest_from blocks a c in
    let left : take_while test (rest_from blocks b offset) ≡ n ∷ take_while test rest =
    ap (take_while test) s.rest ∙ take_while-cons test n rest ∙ ap (λ v. cond v (n ∷ take_while test rest) []) begins in
    ap (λ w. w ++ take_while test rest) grown ∙ append_assoc found (n ∷ []) (take_while test rest) ∙ ap (λ w. found ++ w) (sym left) ∙ whole
