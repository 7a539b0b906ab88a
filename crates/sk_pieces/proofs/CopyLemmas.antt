-- What is put behind copies of the first entries.
use Rattle.std.proofs.Common.{◌≡◌, ℕ, zero, suc, ◌<◌, ◌≤◌, List, [], ◌∷◌, ◌+◌, length, take, get_or, refl, sym, subst, ap, ◌∙◌, arith}
use native.Mathlib.Numerals.{unary_clauses}
use Rattle.sk_sorted.specs.Entries.{RiseAbove, put}
use Rattle.sk_sorted.proofs.EntryLaws.{put-after}
use Rattle.sk_sorted.proofs.PlaceLaws.{id_at-get_or, ids_above}

module _ {X : Type 0} where
  -- an entry is above the bound
  pub entry-above : (low : ℕ) (es : List (ℕ × X)) (i : ℕ) (e : ℕ × X) → RiseAbove low es → i < length es → e ≡ get_or es i e → low < e.0
  entry-above low es i e rise there is = subst (λ id. low < id) (sym (ap (λ d. d.0) is ∙ id_at-get_or es i e there)) (ids_above low es rise i there)

  -- the next entry goes behind those before it
  pub put_next : (low : ℕ) (es : List (ℕ × X)) (i : ℕ) (e : ℕ × X) → RiseAbove low es → i < length es → e ≡ get_or es i e → put e.0 e.1 (take i es) ≡ take (i + 1) es
  put_next low [] i e rise there is = absurd (omega arith)
  put_next low (d ∷ es) zero e rise there is = ap (λ x. x ∷ []) is
  put_next low (d ∷ es) (suc i) e rise there is =
      put-after e.0 e.1 d (take i es) (entry-above d.0 es i e rise.1 (omega arith) is)
      ∙ ap (λ xs. d ∷ xs) (put_next d.0 es i e rise.1 (omega arith) is)
      ∙ simp unary_clauses refl
