-- Where an id stands among entries, or where it would go.
use Rattle.std.specs.Prelude.{◌≡◌, ◌<◌, ◌≤◌, ℕ, zero, suc, List, [], ◌∷◌, length}

-- The id at a place, 0 past the end.
abbrev pub id_at : {X : Type 0} → List (ℕ × X) → ℕ → ℕ
id_at [] i = 0
id_at (e ∷ es) zero = e.0
id_at (e ∷ es) (suc i) = id_at es i

-- The entry at place i has the id.
pub record IsAt {X : Type 0} (es : List (ℕ × X)) (id i : ℕ) : Type 0 where
  pub in_range : i < length es
  pub has_id : id_at es i ≡ id

-- The id would go to place i: smaller ids stand before it, and greater ones from it on.
pub record IsGapFor {X : Type 0} (es : List (ℕ × X)) (id i : ℕ) : Type 0 where
  pub in_range : i ≤ length es
  pub smaller_before : (j : ℕ) → j < i → id_at es j < id
  pub greater_after : (j : ℕ) → i ≤ j → j < length es → id < id_at es j
