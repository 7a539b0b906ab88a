-- Terms that come more than once: near tests each once, and a phrase goes over runs of equal ones.
use Rattle.std.proofs.Common.{◌≡◌, ℕ, ◌+◌, ◌<◌, ◌≤◌, Bool, true, false, List, [], ◌∷◌, ◌++◌, length, map, take, get_or, All, Contains, refl, sym, subst, ap, ◌∙◌, arith, le_refl}
use Rattle.std.proofs.lemmas.Bool.{and_from}
use Rattle.std.proofs.lemmas.List.{take_more, length-map, length_push, get_or-map}
use Rattle.std.proofs.lemmas.List.Elements.{All-nil, All-cons, All-head, All-tail, All-push, All-weaker, All-contains, Contains-append_left, Contains-push}
use Rattle.std.specs.List.{list_any, list_all}
use Rattle.sk_base.proofs.Tests.{first_so, second_so}
use Rattle.sk_model.specs.Positions.{is_near}
use Rattle.sk_model.proofs.NearLaws.{inside, near_found, near_holds}
use Rattle.sk_nodes.specs.Repeats.{HaveSame, AreRunEnds}

-- ---- each once

pub same_none : HaveSame [] []
same_none = record { fewer = le_refl 0; there = All-nil (Contains []); only = All-nil (Contains []) }

module _ (numbers once : List ℕ) (k : ℕ) (lt : k < length numbers) (so_far : HaveSame (take k numbers) once) where
  more : take (k + 1) numbers ≡ take k numbers ++ get_or numbers k 0 ∷ []
  more = take_more numbers k 0 lt

  -- one that came before
  pub same_again : Contains once (get_or numbers k 0) → HaveSame (take (k + 1) numbers) once
  same_again has = subst (λ ns. HaveSame ns once) (sym more) (record {
    fewer = omega (arith, length_push (take k numbers) (get_or numbers k 0), so_far.fewer);
    there = All-push (Contains once) (take k numbers) (get_or numbers k 0) so_far.there has;
    only = All-weaker (Contains (take k numbers)) (Contains (take k numbers ++ get_or numbers k 0 ∷ [])) (λ m c. Contains-append_left (take k numbers) (get_or numbers k 0 ∷ []) m c) once so_far.only;
  })

  -- a new one
  pub same_new : HaveSame (take (k + 1) numbers) (once ++ get_or numbers k 0 ∷ [])
  same_new = subst (λ ns. HaveSame ns (once ++ get_or numbers k 0 ∷ [])) (sym more) (record {
    fewer = omega (arith, length_push (take k numbers) (get_or numbers k 0), length_push once (get_or numbers k 0), so_far.fewer);
    there = All-push (Contains (once ++ get_or numbers k 0 ∷ [])) (take k numbers) (get_or numbers k 0)
        (All-weaker (Contains once) (Contains (once ++ get_or numbers k 0 ∷ [])) (λ m c. Contains-append_left once (get_or numbers k 0 ∷ []) m c) (take k numbers) so_far.there) (Contains-push once (get_or numbers k 0));
    only = All-push (Contains (take k numbers ++ get_or numbers k 0 ∷ [])) once (get_or numbers k 0)
        (All-weaker (Contains (take k numbers)) (Contains (take k numbers ++ get_or numbers k 0 ∷ [])) (λ m c. Contains-append_left (take k numbers) (get_or numbers k 0 ∷ []) m c) once so_far.only) (Contains-push (take k numbers) (get_or numbers k 0));
  })

-- what all of the one have, all of the other have
pub same_all : (P : ℕ → Type 0) (ns ms : List ℕ) → All (Contains ms) ns → All P ms → All P ns
same_all P ns ms there all = All-weaker (Contains ms) P (λ n c. All-contains P ms n all c) ns there

-- ---- near

all_hold : (q : List ℕ → Bool) (f : ℕ → List ℕ) (ns : List ℕ) → list_all q (map f ns) ≡ true → All (λ n. q (f n) ≡ true) ns
all_hold q f [] e = All-nil (λ n. q (f n) ≡ true)
all_hold q f (n ∷ ns) e = All-cons (λ m. q (f m) ≡ true) n ns (first_so (q (f n)) (list_all q (map f ns)) e) (all_hold q f ns (second_so (q (f n)) (list_all q (map f ns)) e))

hold_all : (q : List ℕ → Bool) (f : ℕ → List ℕ) (ns : List ℕ) → All (λ n. q (f n) ≡ true) ns → list_all q (map f ns) ≡ true
hold_all q f [] all = refl
hold_all q f (n ∷ ns) all = and_from (q (f n)) (list_all q (map f ns)) (All-head (λ m. q (f m) ≡ true) n ns all) (hold_all q f ns (All-tail (λ m. q (f m) ≡ true) n ns all))

near_more : (window : ℕ) (f : ℕ → List ℕ) (ns ms : List ℕ) → 1 ≤ window → 1 ≤ length ns → All (Contains ms) ns → is_near window (map f ms) ≡ true → is_near window (map f ns) ≡ true
near_more window f ns ms wide some there e =
    let found = near_found window wide (map f ms) e in
    near_holds window wide (map f ns) found.0 (omega (arith, length-map ns f))
    (hold_all (list_any (inside window found.0)) f ns (same_all (λ n. list_any (inside window found.0) (f n) ≡ true) ns ms there (all_hold (list_any (inside window found.0)) f ms found.1)))

same_bool : (a b : Bool) → (a ≡ true → b ≡ true) → (b ≡ true → a ≡ true) → a ≡ b
same_bool true b there back = sym (there refl)
same_bool false true there back = back refl
same_bool false false there back = refl

-- there is one at least
pub some_once : (ns ms : List ℕ) → 1 ≤ length ns → All (Contains ms) ns → 1 ≤ length ms
some_once ns ms some there = let one = there 0 0 some in omega (arith, one.1)

-- the positions of near may coincide, so each term is tested once
pub near_once : (window : ℕ) (f : ℕ → List ℕ) (ns ms : List ℕ) → 1 ≤ window → 1 ≤ length ns → HaveSame ns ms → is_near window (map f ms) ≡ is_near window (map f ns)
near_once window f ns ms wide some same =
    same_bool (is_near window (map f ms)) (is_near window (map f ns)) (near_more window f ns ms wide some same.there)
    (near_more window f ms ns wide (some_once ns ms some same.there) same.only)

-- ---- runs

-- equal numbers are of terms that stand at the same places
pub ends_placed : {X : Type 0} (f : ℕ → X) (ends numbers : List ℕ) → AreRunEnds ends numbers → AreRunEnds ends (map f numbers)
ends_placed f ends numbers are = record {
  each = omega (arith, length-map numbers f, are.each);
  behind = λ i from lt. are.behind i from (omega (arith, lt, length-map numbers f));
  within = λ i from lt. omega (arith, length-map numbers f, are.within i from (omega (arith, lt, length-map numbers f)));
  equal = λ i j d from lt le less.
      let here : i < length numbers = omega (arith, lt, length-map numbers f) in
      let there : j < length numbers = omega (arith, less, are.within i from here) in
      get_or-map f numbers j 0 d there ∙ ap f (are.equal i j 0 from here le less) ∙ sym (get_or-map f numbers i 0 d here);
}
