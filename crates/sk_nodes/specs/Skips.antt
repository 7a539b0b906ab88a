-- Two sides that are sought further on, since nothing before that weighs what is needed.
use Rattle.std.specs.Prelude.{◌≡◌, ◌≤◌, ◌<◌, ◌^◌, ◌⊎◌, ℕ, Option, None, Some}
use Rattle.sk_query.specs.declared.form.Form.{Form}
use Rattle.sk_index.specs.Indexed.{Indexed}
use Rattle.sk_decay.specs.Sides.{paired}
use Rattle.sk_nodes.specs.Shapes.{Shape}
use Rattle.sk_nodes.specs.Left.{rest}

-- There is no weight, or it is less than the need.
abbrev pub WeighsBelow : ℕ → Option ℕ → Type 0
WeighsBelow need None = Unit {0}
WeighsBelow need (Some w) = w < need

-- Between the two ids the sides give nothing that is needed. Only an and skips, and only where something is needed.
pub record SidesSkip (i : Indexed) (form : Form) (from need : ℕ) (a b : Shape) (to : ℕ) : Type 0 where
  pub later : from ≤ to
  pub within : to < 2 ^ 32
  pub light : (id : ℕ) → from ≤ id → id < to → WeighsBelow need (paired form (rest i a id) (rest i b id))
  pub joint : (form ≡ Form.And) ⊎ (to ≡ from)
  pub needed : need ≡ 0 → to ≡ from
