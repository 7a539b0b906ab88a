-- Lists of matches in order, and one match more in its place.
use Rattle.std.proofs.Common.{◌≡◌, ◌≢◌, ℕ, zero, suc, Bool, true, false, cond, not, ◌==◌, List, [], ◌∷◌, take, drop, filter, refl, sym, ap, ◌∙◌, arith, true≢false}
use Rattle.std.specs.List.{AllByRecursion}
use Rattle.std.proofs.lemmas.Bool.Decides.{nat_tests}
use Rattle.std.proofs.lemmas.Bool.{eq-eqb}
use Rattle.sk_base.specs.declared.rank.Rank.{Rank}
use Rattle.sk_base.specs.declared.rank.Order.{Order}
use Rattle.sk_base.specs.Before.{rank_cmp, is_before}
use Rattle.sk_base.proofs.RankLaws.{rank_total, ids_tie}
use Rattle.sk_model.specs.Page.{place, best_first}
use Rattle.sk_model.proofs.OrderLaws.{before_order, tied}
use Rattle.sk_model.proofs.PlacedLaws.{all_placed, all_ordered}
use Rattle.sk_collapse.specs.Verdicts.{without_rank}

-- ---- tests

pub other_number : (a b : ℕ) → a ≢ b → (a == b) ≡ false
other_number a b e = grind (arith, nat_tests)

-- ---- lists of which something holds of each

pub each_filter : (P : Rank → Type 0) (test : Rank → Bool) (xs : List Rank) → AllByRecursion P xs → AllByRecursion P (filter test xs)
each_filter P test [] h = tt
each_filter P test (x ∷ xs) h =
    elim (test x) as (λ b. AllByRecursion P (cond b (x ∷ filter test xs) (filter test xs))) [
      | true ↦ (h.0, each_filter P test xs h.1)
      | false ↦ each_filter P test xs h.1
    ]

pub each_take : (P : Rank → Type 0) (n : ℕ) (xs : List Rank) → AllByRecursion P xs → AllByRecursion P (take n xs)
each_take P zero xs h = tt
each_take P (suc n) [] h = tt
each_take P (suc n) (x ∷ xs) h = (h.0, each_take P n xs h.1)

pub each_drop : (P : Rank → Type 0) (n : ℕ) (xs : List Rank) → AllByRecursion P xs → AllByRecursion P (drop n xs)
each_drop P zero xs h = h
each_drop P (suc n) [] h = tt
each_drop P (suc n) (x ∷ xs) h = each_drop P n xs h.1

pub each_map : (P Q : Rank → Type 0) (xs : List Rank) → ((x : Rank) → P x → Q x) → AllByRecursion P xs → AllByRecursion Q xs
each_map P Q [] f h = tt
each_map P Q (x ∷ xs) f h = (f x h.0, each_map P Q xs f h.1)

-- ---- what stands apart, and what comes behind

-- none of these has the id of x
abbrev pub Apart : Rank → List Rank → Type 0
Apart x xs = AllByRecursion (λ y. x.id ≢ y.id) xs

-- no id stands twice
abbrev pub Distinct : List Rank → Type 0
Distinct [] = Unit {0}
Distinct (x ∷ xs) = Apart x xs × Distinct xs

-- x comes before each of these
abbrev pub Leads : Order → Rank → List Rank → Type 0
Leads order x xs = AllByRecursion (λ y. is_before order x y ≡ true) xs

-- each comes before all behind it
abbrev pub Strict : Order → List Rank → Type 0
Strict order [] = Unit {0}
Strict order (x ∷ xs) = Leads order x xs × Strict order xs

module _ (order : Order) where
  -- of two ids one comes before the other
  pub one_first : (x y : Rank) → x.id ≢ y.id → is_before order x y ≡ false → is_before order y x ≡ true
  one_first x y apart h =
      elim (is_before order y x) as (λ b. is_before order y x ≡ b → b ≡ true) [
        | true ↦ λ g. refl
        | false ↦ λ g. absurd (apart (ids_tie order x y (tied (rank_cmp order x y) (rank_cmp order y x) ((rank_total order).antisymm x y) h g)))
      ] refl

  pub goes_through : (x y z : Rank) → is_before order x y ≡ true → is_before order y z ≡ true → is_before order x z ≡ true
  goes_through x y z h g =
      elim (is_before order x z) as (λ b. is_before order x z ≡ b → b ≡ true) [
        | true ↦ λ e. refl
        | false ↦ λ e. absurd (true≢false (sym h ∙ (before_order order).chain x z y e ((before_order order).one_way y z g)))
      ] refl

  pub leads_through : (x y : Rank) (ys : List Rank) → is_before order x y ≡ true → Leads order y ys → Leads order x ys
  leads_through x y ys h l = each_map (λ z. is_before order y z ≡ true) (λ z. is_before order x z ≡ true) ys (λ z g. goes_through x y z h g) l

  -- before all of them it stands in front
  pub place_front : (x : Rank) (ys : List Rank) → Leads order x ys → place order x ys ≡ x ∷ ys
  place_front x [] l = refl
  place_front x (y ∷ ys) l = ap (λ b. cond b (x ∷ y ∷ ys) (y ∷ place order x ys)) l.0

  pub place_behind : (x y : Rank) (ys : List Rank) → is_before order x y ≡ false → place order x (y ∷ ys) ≡ y ∷ place order x ys
  place_behind x y ys e = ap (λ b. cond b (x ∷ y ∷ ys) (y ∷ place order x ys)) e

  pub place_before : (x y : Rank) (ys : List Rank) → is_before order x y ≡ true → place order x (y ∷ ys) ≡ x ∷ y ∷ ys
  place_before x y ys e = ap (λ b. cond b (x ∷ y ∷ ys) (y ∷ place order x ys)) e

  pub strict_placed : (x : Rank) (ys : List Rank) → Apart x ys → Strict order ys → Strict order (place order x ys)
  strict_placed x [] a s = (tt, tt)
  strict_placed x (y ∷ ys) a s =
      elim (is_before order x y) as (λ b. is_before order x y ≡ b → Strict order (cond b (x ∷ y ∷ ys) (y ∷ place order x ys))) [
        | true ↦ λ e. ((e, leads_through x y ys e s.0), s)
        | false ↦ λ e. (all_placed (is_before order) (λ z. is_before order y z ≡ true) x ys (one_first x y a.0 e) s.0, strict_placed x ys a.1 s.1)
      ] refl

  pub strict_best : (xs : List Rank) → Distinct xs → Strict order (best_first order xs)
  strict_best [] d = tt
  strict_best (x ∷ xs) d = strict_placed x (best_first order xs) (all_ordered (is_before order) (λ y. x.id ≢ y.id) xs d.0) (strict_best xs d.1)

  pub distinct_placed : (x : Rank) (ys : List Rank) → Apart x ys → Distinct ys → Distinct (place order x ys)
  distinct_placed x [] a d = (tt, tt)
  distinct_placed x (y ∷ ys) a d =
      elim (is_before order x y) as (λ b. Distinct (cond b (x ∷ y ∷ ys) (y ∷ place order x ys))) [
        | true ↦ (a, d)
        | false ↦ (all_placed (is_before order) (λ z. y.id ≢ z.id) x ys (λ e. a.0 (sym e)) d.0, distinct_placed x ys a.1 d.1)
      ]

  pub distinct_best : (xs : List Rank) → Distinct xs → Distinct (best_first order xs)
  distinct_best [] d = tt
  distinct_best (x ∷ xs) d = distinct_placed x (best_first order xs) (all_ordered (is_before order) (λ y. x.id ≢ y.id) xs d.0) (distinct_best xs d.1)

  pub strict_filter : (test : Rank → Bool) (xs : List Rank) → Strict order xs → Strict order (filter test xs)
  strict_filter test [] s = tt
  strict_filter test (x ∷ xs) s =
      elim (test x) as (λ b. Strict order (cond b (x ∷ filter test xs) (filter test xs))) [
        | true ↦ (each_filter (λ y. is_before order x y ≡ true) test xs s.0, strict_filter test xs s.1)
        | false ↦ strict_filter test xs s.1
      ]

  pub strict_take : (n : ℕ) (xs : List Rank) → Strict order xs → Strict order (take n xs)
  strict_take zero xs s = tt
  strict_take (suc n) [] s = tt
  strict_take (suc n) (x ∷ xs) s = (each_take (λ y. is_before order x y ≡ true) n xs s.0, strict_take n xs s.1)

-- ---- the first of a list

abbrev pub no_match : List Rank
no_match = []

pub take_nil : (n : ℕ) → take n no_match ≡ no_match
take_nil zero = refl
take_nil (suc n) = refl

pub drop_nil : (n : ℕ) → drop n no_match ≡ no_match
drop_nil zero = refl
drop_nil (suc n) = refl

pub take_twice : (n : ℕ) (xs : List Rank) → take n (take n xs) ≡ take n xs
take_twice zero xs = refl
take_twice (suc n) [] = refl
take_twice (suc n) (x ∷ xs) = ap (λ ys. x ∷ ys) (take_twice n xs)

-- ---- without one

-- a match has the id of the first of these
abbrev pub is_gone : List Rank → Rank → Bool
is_gone [] y = false
is_gone (z ∷ zs) y = y.id == z.id

abbrev pub without : List Rank → List Rank → List Rank
without gone ys = filter (λ y. not (is_gone gone y)) ys

pub without_none : (ys : List Rank) → without [] ys ≡ ys
without_none [] = refl
without_none (y ∷ ys) = ap (λ zs. y ∷ zs) (without_none ys)

pub stays : (gone : List Rank) (h : Rank) → Apart h gone → is_gone gone h ≡ false
stays [] h a = refl
stays (z ∷ zs) h a = other_number h.id z.id a.0

pub without_kept : (gone : List Rank) (h : Rank) (ys : List Rank) → Apart h gone → without gone (h ∷ ys) ≡ h ∷ without gone ys
without_kept gone h ys a = ap (λ b. cond (not b) (h ∷ without gone ys) (without gone ys)) (stays gone h a)

pub without_self : (h : Rank) (gone ys : List Rank) → without (h ∷ gone) (h ∷ ys) ≡ without (h ∷ gone) ys
without_self h gone ys = ap (λ b. cond (not b) (h ∷ without (h ∷ gone) ys) (without (h ∷ gone) ys)) (eq-eqb h.id h.id refl)

pub without_apart : (h : Rank) (gone ys : List Rank) → Apart h ys → without (h ∷ gone) ys ≡ ys
without_apart h gone [] a = refl
without_apart h gone (y ∷ ys) a =
    ap (λ b. cond (not b) (y ∷ without (h ∷ gone) ys) (without (h ∷ gone) ys)) (other_number y.id h.id (λ e. a.0 (sym e)))
    ∙ ap (λ zs. y ∷ zs) (without_apart h gone ys a.1)

-- the first goes, and all others are apart from it
pub without_first : (h : Rank) (gone ys : List Rank) → Apart h ys → without (h ∷ gone) (h ∷ ys) ≡ ys
without_first h gone ys a = without_self h gone ys ∙ without_apart h gone ys a

-- who goes may be taken out before the other is placed
pub without_placed : (order : Order) (z x : Rank) (zs ys : List Rank) → x.id ≢ z.id → Strict order ys → without (z ∷ zs) (place order x ys) ≡ place order x (without_rank z.id ys)
without_placed order z x zs [] apart s = ap (λ b. cond (not b) (x ∷ []) []) (other_number x.id z.id apart)
without_placed order z x zs (y ∷ ys) apart s =
    elim (is_before order x y) as (λ b. is_before order x y ≡ b → without (z ∷ zs) (cond b (x ∷ y ∷ ys) (y ∷ place order x ys)) ≡ place order x (without_rank z.id (y ∷ ys))) [
      | true ↦ λ e.
          let all : Leads order x (y ∷ ys) = (e, leads_through order x y ys e s.0) in
          ap (λ b. cond (not b) (x ∷ without (z ∷ zs) (y ∷ ys)) (without (z ∷ zs) (y ∷ ys))) (other_number x.id z.id apart)
          ∙ sym (place_front order x (without (z ∷ zs) (y ∷ ys)) (each_filter (λ w. is_before order x w ≡ true) (λ w. not (is_gone (z ∷ zs) w)) (y ∷ ys) all))
      | false ↦ λ e.
          elim (y.id == z.id) as (λ b. cond (not b) (y ∷ without (z ∷ zs) (place order x ys)) (without (z ∷ zs) (place order x ys)) ≡ place order x (cond (not b) (y ∷ without_rank z.id ys) (without_rank z.id ys))) [
            | true ↦ without_placed order z x zs ys apart s.1
            | false ↦ ap (λ ws. y ∷ ws) (without_placed order z x zs ys apart s.1) ∙ sym (place_behind order x y (without_rank z.id ys) e)
          ]
    ] refl
