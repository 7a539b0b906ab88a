-- What was seen of matches: more of them, fewer that are behind, and how often each key was.
use Rattle.std.proofs.Common.{◌≡◌, ◌⊎◌, ◌+◌, ℕ, Bool, true, not, cond, List, [], ◌∷◌, ◌++◌, length, filter, bytes_eq, refl, sym, ap, ◌∙◌, subst, arith, inl, inr}
use Rattle.std.proofs.lemmas.List.Sums.{sum_by-cons, sum_by-append}
use Rattle.sk_base.specs.declared.rank.Rank.{Rank}
use Rattle.sk_model.specs.Page.{count_key}
use Rattle.sk_page.specs.Shown.{Shown}

module _ (behind : Rank → Bool) where
  -- all were seen
  pub shown_same : (xs : List Rank) → Shown behind xs xs
  shown_same [] = refl
  shown_same (x ∷ xs) = inr (x, xs, refl, refl, inl refl, shown_same xs)

  -- one list after another
  pub shown_append : (xs ys more less : List Rank) → Shown behind xs ys → Shown behind more less → Shown behind (xs ++ more) (ys ++ less)
  shown_append [] ys more less h g = subst (λ zs. Shown behind more (zs ++ less)) (sym h) g
  shown_append (x ∷ xs) ys more less (inl h) g = inl (h.0, shown_append xs ys more less h.1 g)
  shown_append (x ∷ xs) ys more less (inr h) g =
      inr (h.0, h.1 ++ less, ap (λ zs. zs ++ less) h.2, h.3, h.4, shown_append xs h.1 more less h.5 g)

  met_front : (x s : Rank) (xs ys : List Rank) → (s ≡ x) ⊎ ((behind x ≡ true) × (behind s ≡ true)) → filter (λ y. not (behind y)) xs ≡ filter (λ y. not (behind y)) ys
      → filter (λ y. not (behind y)) (x ∷ xs) ≡ filter (λ y. not (behind y)) (s ∷ ys)
  met_front x s xs ys (inl same) rest =
      ap (λ z. cond (not (behind z)) (z ∷ filter (λ y. not (behind y)) xs) (filter (λ y. not (behind y)) xs)) (sym same)
      ∙ ap (λ zs. cond (not (behind s)) (s ∷ zs) zs) rest
  met_front x s xs ys (inr both) rest =
      ap (λ b. cond (not b) (x ∷ filter (λ y. not (behind y)) xs) (filter (λ y. not (behind y)) xs)) both.0
      ∙ rest
      ∙ sym (ap (λ b. cond (not b) (s ∷ filter (λ y. not (behind y)) ys) (filter (λ y. not (behind y)) ys)) both.1)

  -- what is behind stands in neither
  pub shown_front : (xs ys : List Rank) → Shown behind xs ys → filter (λ x. not (behind x)) xs ≡ filter (λ x. not (behind x)) ys
  shown_front [] ys h = ap (filter (λ x. not (behind x))) (sym h)
  shown_front (x ∷ xs) ys (inl h) = ap (λ b. cond (not b) (x ∷ filter (λ y. not (behind y)) xs) (filter (λ y. not (behind y)) xs)) h.0 ∙ shown_front xs ys h.1
  shown_front (x ∷ xs) ys (inr h) = met_front x h.0 xs h.1 h.4 (shown_front xs h.1 h.5) ∙ ap (filter (λ y. not (behind y))) (sym h.2)

met_weaker : (b c : Rank → Bool) → ((r : Rank) → b r ≡ true → c r ≡ true) → (x s : Rank) → (s ≡ x) ⊎ ((b x ≡ true) × (b s ≡ true)) → (s ≡ x) ⊎ ((c x ≡ true) × (c s ≡ true))
met_weaker b c up x s (inl same) = inl same
met_weaker b c up x s (inr both) = inr (up x both.0, up s both.1)

-- behind fewer, behind more
pub shown_weaker : (b c : Rank → Bool) → ((r : Rank) → b r ≡ true → c r ≡ true) → (xs ys : List Rank) → Shown b xs ys → Shown c xs ys
shown_weaker b c up [] ys h = h
shown_weaker b c up (x ∷ xs) ys (inl h) = inl (up x h.0, shown_weaker b c up xs ys h.1)
shown_weaker b c up (x ∷ xs) ys (inr h) = inr (h.0, h.1, h.2, h.3, met_weaker b c up x h.0 h.4, shown_weaker b c up xs h.1 h.5)

-- ---- keys

-- the matches that were not seen, beside those that were: each key as often as in all
pub record Beside (key : Rank → List ℕ) (xs ys : List Rank) : Type 0 where
  pub extra : List Rank
  pub counts : (k : List ℕ) → count_key key k xs ≡ count_key key k (ys ++ extra)
  pub long : length xs ≡ length ys + length extra

module _ (key : Rank → List ℕ) (k : List ℕ) where
  abbrev one : Rank → ℕ
  one x = cond (bytes_eq (key x) k) 1 0

  counted : (x : Rank) (xs : List Rank) → count_key key k (x ∷ xs) ≡ one x + count_key key k xs
  counted x xs = sum_by-cons one x xs

  apart : (xs ys : List Rank) → count_key key k (xs ++ ys) ≡ count_key key k xs + count_key key k ys
  apart xs ys = sum_by-append one xs ys

  passed : (x : Rank) (xs ys extra : List Rank) → count_key key k xs ≡ count_key key k (ys ++ extra) → count_key key k (x ∷ xs) ≡ count_key key k (ys ++ x ∷ extra)
  passed x xs ys extra h = omega (arith, h, counted x xs, apart ys extra, apart ys (x ∷ extra), counted x extra)

  met : (x s : Rank) (xs ys extra : List Rank) → key s ≡ key x → count_key key k xs ≡ count_key key k (ys ++ extra) → count_key key k (x ∷ xs) ≡ count_key key k ((s ∷ ys) ++ extra)
  met x s xs ys extra e h =
      let same : one s ≡ one x = ap (λ j. cond (bytes_eq j k) 1 0) e in
      omega (arith, h, counted x xs, same, counted s (ys ++ extra))

pub shown_beside : (behind : Rank → Bool) (key : Rank → List ℕ) → ((x y : Rank) → x.id ≡ y.id → key x ≡ key y) → (xs ys : List Rank) → Shown behind xs ys → Beside key xs ys
shown_beside behind key by_id [] ys h = record {
  extra = [];
  counts = λ k. ap (λ zs. count_key key k (zs ++ [])) (sym h);
  long = let none : length ys ≡ 0 = ap length h in omega (arith, none);
}
shown_beside behind key by_id (x ∷ xs) ys (inl h) =
    let more = shown_beside behind key by_id xs ys h.1 in
    record {
      extra = x ∷ more.extra;
      counts = λ k. passed key k x xs ys more.extra (more.counts k);
      long = omega (arith, more.long);
    }
shown_beside behind key by_id (x ∷ xs) ys (inr h) =
    let more = shown_beside behind key by_id xs h.1 h.5 in
    let size : length ys ≡ length (h.0 ∷ h.1) = ap length h.2 in
    record {
      extra = more.extra;
      counts = λ k. met key k x h.0 xs h.1 more.extra (by_id h.0 x h.3) (more.counts k) ∙ ap (λ zs. count_key key k (zs ++ more.extra)) (sym h.2);
      long = omega (arith, more.long, size);
    }
