-- The page of what was seen is the page of all matches, where what was passed over is behind the page.
use Rattle.std.proofs.Common.{◌≡◌, ◌≤◌, ℕ, zero, suc, Bool, true, false, not, cond, ◌&&◌, List, [], ◌∷◌, ◌++◌, length, take, filter, Option, None, Some, refl, sym, ap, ◌∙◌, subst, arith, true≢false}
use Rattle.std.specs.List.{list_all}
use Rattle.std.proofs.lemmas.List.{take-append-le}
use Rattle.std.proofs.lemmas.Bool.{and_from, and_parts}
use Rattle.sk_base.specs.declared.find.Collapse.{Collapse}
use Rattle.sk_base.specs.declared.rank.Rank.{Rank}
use Rattle.sk_base.specs.declared.rank.Order.{Order}
use Rattle.sk_base.specs.Before.{is_before}
use Rattle.sk_model.specs.Page.{place, best_first, is_kept, kept_behind, kept_of, kept}
use Rattle.sk_model.proofs.OrderLaws.{before_order, not_before_itself, NoneBefore, Rises, rises_best_first}
use Rattle.sk_page.specs.Shown.{is_behind_page, Shown}
use Rattle.sk_page.proofs.ShownLaws.{shown_front}

module _ (order : Order) where
  -- what comes after something comes after what is before that
  pub before_through : (h x y : Rank) → is_before order h x ≡ true → is_before order y x ≡ false → is_before order h y ≡ true
  before_through h x y e f =
      elim (is_before order h y) as (λ b. is_before order h y ≡ b → is_before order h y ≡ true) [
        | true ↦ λ g. g
        | false ↦ λ g. absurd (true≢false (sym e ∙ (before_order order).chain h y x g f))
      ] refl

  pub behind_through : (held : List Rank) (x y : Rank) → is_behind_page order held x ≡ true → is_before order y x ≡ false → is_behind_page order held y ≡ true
  behind_through [] x y e f = refl
  behind_through (h ∷ held) x y e f =
      let b = and_parts (is_before order h x) (is_behind_page order held x) e in
      and_from (is_before order h y) (is_behind_page order held y) (before_through h x y b.0 f) (behind_through held x y b.1 f)

  module _ (held : List Rank) where
    abbrev pub ahead : Rank → Bool
    ahead x = not (is_behind_page order held x)

    ahead_step : (y : Rank) (zs : List Rank) (b : Bool) → is_behind_page order held y ≡ b → filter ahead (y ∷ zs) ≡ cond (not b) (y ∷ filter ahead zs) (filter ahead zs)
    ahead_step y zs b e = ap (λ c. cond (not c) (y ∷ filter ahead zs) (filter ahead zs)) e

    -- behind what is behind nothing is ahead
    none_ahead : (y : Rank) (zs : List Rank) → is_behind_page order held y ≡ true → NoneBefore order y zs → filter ahead zs ≡ []
    none_ahead y [] e n = refl
    none_ahead y (z ∷ zs) e n = ahead_step z zs true (behind_through held y z e n.0) ∙ none_ahead y zs e n.1

    -- placing what is behind
    place_behind : (x : Rank) (ys : List Rank) → is_behind_page order held x ≡ true → filter ahead (place order x ys) ≡ filter ahead ys
    place_behind x [] e = ahead_step x [] true e
    place_behind x (y ∷ ys) e =
        elim (is_before order x y) as (λ b. filter ahead (cond b (x ∷ y ∷ ys) (y ∷ place order x ys)) ≡ filter ahead (y ∷ ys)) [
          | true ↦ ahead_step x (y ∷ ys) true e
          | false ↦ ap (λ zs. cond (ahead y) (y ∷ zs) zs) (place_behind x ys e)
        ]

    front_of : (x y : Rank) (ys : List Rank) (b : Bool) → is_behind_page order held y ≡ b → is_before order x y ≡ true → Rises order (y ∷ ys) → x ∷ filter ahead (y ∷ ys) ≡ place order x (filter ahead (y ∷ ys))
    front_of x y ys true e first r =
        let none : filter ahead (y ∷ ys) ≡ [] = ahead_step y ys true e ∙ none_ahead y ys e r.0 in
        ap (λ zs. x ∷ zs) none ∙ sym (ap (place order x) none)
    front_of x y ys false e first r =
        let some : filter ahead (y ∷ ys) ≡ y ∷ filter ahead ys = ahead_step y ys false e in
        ap (λ zs. x ∷ zs) some ∙ sym (ap (λ b. cond b (x ∷ y ∷ filter ahead ys) (y ∷ place order x (filter ahead ys))) first) ∙ sym (ap (place order x) some)

    later_of : (x y : Rank) (ys : List Rank) (b : Bool) → is_behind_page order held y ≡ b → is_before order x y ≡ false → filter ahead (place order x ys) ≡ place order x (filter ahead ys)
        → filter ahead (y ∷ place order x ys) ≡ place order x (filter ahead (y ∷ ys))
    later_of x y ys true e last h = ahead_step y (place order x ys) true e ∙ h ∙ sym (ap (place order x) (ahead_step y ys true e))
    later_of x y ys false e last h =
        ahead_step y (place order x ys) false e ∙ ap (λ zs. y ∷ zs) h
        ∙ sym (ap (λ b. cond b (x ∷ y ∷ filter ahead ys) (y ∷ place order x (filter ahead ys))) last)
        ∙ sym (ap (place order x) (ahead_step y ys false e))

    -- placing what is ahead
    place_ahead : (x : Rank) (ys : List Rank) → is_behind_page order held x ≡ false → Rises order ys → filter ahead (place order x ys) ≡ place order x (filter ahead ys)
    place_ahead x [] e r = ahead_step x [] false e
    place_ahead x (y ∷ ys) e r =
        elim (is_before order x y) as (λ b. is_before order x y ≡ b → filter ahead (cond b (x ∷ y ∷ ys) (y ∷ place order x ys)) ≡ place order x (filter ahead (y ∷ ys))) [
          | true ↦ λ first. ahead_step x (y ∷ ys) false e ∙ front_of x y ys (is_behind_page order held y) refl first r
          | false ↦ λ last. later_of x y ys (is_behind_page order held y) refl last (place_ahead x ys e r.1)
        ] refl

    best_step : (x : Rank) (xs : List Rank) (b : Bool) → is_behind_page order held x ≡ b → filter ahead (best_first order xs) ≡ best_first order (filter ahead xs)
        → filter ahead (place order x (best_first order xs)) ≡ best_first order (filter ahead (x ∷ xs))
    best_step x xs true e rest = place_behind x (best_first order xs) e ∙ rest ∙ sym (ap (best_first order) (ahead_step x xs true e))
    best_step x xs false e rest = place_ahead x (best_first order xs) e (rises_best_first order xs) ∙ ap (place order x) rest ∙ sym (ap (best_first order) (ahead_step x xs false e))

    -- what is ahead in order is in order what is ahead
    pub front_best : (xs : List Rank) → filter ahead (best_first order xs) ≡ best_first order (filter ahead xs)
    front_best [] = refl
    front_best (x ∷ xs) = best_step x xs (is_behind_page order held x) refl (front_best xs)

    -- an ordered list is what is ahead, and then what is behind
    abbrev Split : List Rank → Type 0
    Split xs = (back : List Rank) × (xs ≡ filter ahead xs ++ back) × (list_all (is_behind_page order held) back ≡ true)

    all_behind : (y : Rank) (zs : List Rank) → is_behind_page order held y ≡ true → NoneBefore order y zs → list_all (is_behind_page order held) zs ≡ true
    all_behind y [] e n = refl
    all_behind y (z ∷ zs) e n = and_from (is_behind_page order held z) (list_all (is_behind_page order held) zs) (behind_through held y z e n.0) (all_behind y zs e n.1)

    split_step : (x : Rank) (xs : List Rank) (b : Bool) → is_behind_page order held x ≡ b → NoneBefore order x xs → Split xs → Split (x ∷ xs)
    split_step x xs true e n s =
        let none : filter ahead (x ∷ xs) ≡ [] = ahead_step x xs true e ∙ none_ahead x xs e n in
        (x ∷ xs, sym (ap (λ zs. zs ++ x ∷ xs) none), and_from (is_behind_page order held x) (list_all (is_behind_page order held) xs) e (all_behind x xs e n))
    split_step x xs false e n s = (s.0, ap (λ zs. x ∷ zs) s.1 ∙ sym (ap (λ zs. zs ++ s.0) (ahead_step x xs false e)), s.2)

    pub split : (xs : List Rank) → Rises order xs → Split xs
    split [] r = ([], refl, refl)
    split (x ∷ xs) r = split_step x xs (is_behind_page order held x) refl r.0 (split xs r.1)

-- ---- what is kept of a front and what follows

module _ (order : Order) (held : List Rank) (most : ℕ) (key : Rank → List ℕ) where
  abbrev Kept : List (List ℕ) → List Rank → List Rank → Type 0
  Kept before xs ys =
      (more : List Rank) × (kept_behind most key before (xs ++ ys) ≡ kept_behind most key before xs ++ more) × (list_all (is_behind_page order held) ys ≡ true → list_all (is_behind_page order held) more ≡ true)

  some_behind : (before : List (List ℕ)) (ys : List Rank) → list_all (is_behind_page order held) ys ≡ true → list_all (is_behind_page order held) (kept_behind most key before ys) ≡ true
  some_behind before [] e = refl
  some_behind before (y ∷ ys) e =
      let b = and_parts (is_behind_page order held y) (list_all (is_behind_page order held) ys) e in
      elim (is_kept most (key y) before) as (λ i. list_all (is_behind_page order held) (cond i (y ∷ kept_behind most key (key y ∷ before) ys) (kept_behind most key before ys)) ≡ true) [
        | true ↦ and_from (is_behind_page order held y) (list_all (is_behind_page order held) (kept_behind most key (key y ∷ before) ys)) b.0 (some_behind (key y ∷ before) ys b.1)
        | false ↦ some_behind before ys b.1
      ]

  kept_step : (before : List (List ℕ)) (x : Rank) (xs ys : List Rank) (b : Bool) → is_kept most (key x) before ≡ b → Kept (key x ∷ before) xs ys → Kept before xs ys → Kept before (x ∷ xs) ys
  kept_step before x xs ys true e k l = (
    k.0,
    ap (λ b. cond b (x ∷ kept_behind most key (key x ∷ before) (xs ++ ys)) (kept_behind most key before (xs ++ ys))) e
        ∙ ap (λ zs. x ∷ zs) k.1
        ∙ sym (ap (λ b. cond b (x ∷ kept_behind most key (key x ∷ before) xs) (kept_behind most key before xs) ++ k.0) e),
    k.2,
  )
  kept_step before x xs ys false e k l = (
    l.0,
    ap (λ b. cond b (x ∷ kept_behind most key (key x ∷ before) (xs ++ ys)) (kept_behind most key before (xs ++ ys))) e
        ∙ l.1
        ∙ sym (ap (λ b. cond b (x ∷ kept_behind most key (key x ∷ before) xs) (kept_behind most key before xs) ++ l.0) e),
    l.2,
  )

  kept_both : (before : List (List ℕ)) (xs ys : List Rank) → Kept before xs ys
  kept_both before [] ys = (kept_behind most key before ys, refl, some_behind before ys)
  kept_both before (x ∷ xs) ys = kept_step before x xs ys (is_kept most (key x) before) refl (kept_both (key x ∷ before) xs ys) (kept_both before xs ys)

-- of an ordered list kept from a front on
abbrev Led : Order → List Rank → Option Collapse → (Rank → List ℕ) → List Rank → List Rank → Type 0
Led order held collapse key front xs =
    (more : List Rank) × (kept_of collapse key xs ≡ kept_of collapse key front ++ more) × (list_all (is_behind_page order held) more ≡ true)

led : (order : Order) (held : List Rank) (collapse : Option Collapse) (key : Rank → List ℕ) (front back xs : List Rank) → xs ≡ front ++ back → list_all (is_behind_page order held) back ≡ true → Led order held collapse key front xs
led order held None key front back xs e h = (back, e, h)
led order held (Some collapse) key front back xs e h =
    let k = kept_both order held collapse.max key [] front back in
    (k.0, ap (kept_behind collapse.max key []) e ∙ k.1, k.2 h)

-- the first so many are in front, where they are ahead
front_long : (b : Rank → Bool) (k : ℕ) (front more : List Rank) → k ≤ length (front ++ more) → list_all (λ x. not (b x)) (take k (front ++ more)) ≡ true → list_all b more ≡ true → k ≤ length front
front_long b zero front more l h g = omega arith
front_long b (suc k) [] [] l h g = l
front_long b (suc k) [] (m ∷ more) l h g =
    let x = and_parts (not (b m)) (list_all (λ x. not (b x)) (take k more)) h in
    let y = and_parts (b m) (list_all b more) g in
    absurd (true≢false (sym (sym (ap not y.0) ∙ x.0)))
front_long b (suc k) (f ∷ front) more l h g =
    let x = and_parts (not (b f)) (list_all (λ x. not (b x)) (take k (front ++ more))) h in
    let rest : k ≤ length front = front_long b k front more (omega (arith, l)) x.1 g in
    omega (arith, rest)

one_by_one : {X : Type 0} (xs ys : List X) (x : X) → (xs ++ x ∷ []) ++ ys ≡ xs ++ x ∷ ys
one_by_one [] ys x = refl
one_by_one (z ∷ xs) ys x = ap (λ zs. z ∷ zs) (one_by_one xs ys x)

-- no hit that is held comes before itself, so none is behind all that are held
not_itself : (order : Order) (more : List Rank) (x : Rank) → is_behind_page order (x ∷ more) x ≡ false
not_itself order more x = ap (λ b. b && is_behind_page order more x) (not_before_itself order x)

-- behind more than is held, behind what is held
behind_some : (order : Order) (xs ys : List Rank) (x : Rank) → is_behind_page order (xs ++ ys) x ≡ true → is_behind_page order ys x ≡ true
behind_some order [] ys x e = e
behind_some order (z ∷ xs) ys x e = behind_some order xs ys x (and_parts (is_before order z x) (is_behind_page order (xs ++ ys) x) e).1

not_some : (order : Order) (xs ys : List Rank) (x : Rank) → is_behind_page order (xs ++ x ∷ ys) x ≡ false
not_some order xs ys x =
    elim (is_behind_page order (xs ++ x ∷ ys) x) as (λ b. is_behind_page order (xs ++ x ∷ ys) x ≡ b → is_behind_page order (xs ++ x ∷ ys) x ≡ false) [
      | true ↦ λ e. absurd (true≢false (sym (behind_some order xs (x ∷ ys) x e) ∙ not_itself order ys x))
      | false ↦ λ e. e
    ] refl

pub held_ahead : (order : Order) (xs ys : List Rank) → list_all (λ x. not (is_behind_page order (xs ++ ys) x)) ys ≡ true
held_ahead order xs [] = refl
held_ahead order xs (y ∷ ys) =
    and_from (not (is_behind_page order (xs ++ y ∷ ys) y)) (list_all (λ x. not (is_behind_page order (xs ++ y ∷ ys) x)) ys) (ap not (not_some order xs ys y))
    (subst (λ zs. list_all (λ x. not (is_behind_page order zs x)) ys ≡ true) (one_by_one xs ys y) (held_ahead order (xs ++ y ∷ []) ys))

-- the first so many of what is kept are those of all matches, where what was not seen as it is stands behind them
pub front_alike : (order : Order) (collapse : Option Collapse) (key : Rank → List ℕ) (k : ℕ) (xs ys : List Rank)
    → k ≤ length (kept order collapse key ys)
    → Shown (is_behind_page order (take k (kept order collapse key ys))) xs ys
    → take k (kept order collapse key xs) ≡ take k (kept order collapse key ys)
front_alike order collapse key k xs ys l shown =
    let held : List Rank = take k (kept order collapse key ys) in
    let a = split order held (best_first order xs) (rises_best_first order xs) in
    let b = split order held (best_first order ys) (rises_best_first order ys) in
    let front : List Rank = best_first order (filter (ahead order held) ys) in
    let same : filter (ahead order held) (best_first order xs) ≡ front = front_best order held xs ∙ ap (best_first order) (shown_front (is_behind_page order held) xs ys shown) in
    let own : filter (ahead order held) (best_first order ys) ≡ front = front_best order held ys in
    let p = led order held collapse key front a.0 (best_first order xs) (a.1 ∙ ap (λ zs. zs ++ a.0) same) a.2 in
    let q = led order held collapse key front b.0 (best_first order ys) (b.1 ∙ ap (λ zs. zs ++ b.0) own) b.2 in
    let long : k ≤ length (kept_of collapse key front) =
    front_long (is_behind_page order held) k (kept_of collapse key front) q.0 (subst (λ zs. k ≤ length zs) q.1 l)
    (subst (λ zs. list_all (λ x. not (is_behind_page order held x)) (take k zs) ≡ true) q.1 (held_ahead order [] held)) q.2 in
    ap (take k) p.1 ∙ take-append-le k (kept_of collapse key front) p.0 long ∙ sym (ap (take k) q.1 ∙ take-append-le k (kept_of collapse key front) q.0 long)
