-- Nodes of terms alone that read no list behind a point by more than one entry.
use Rattle.std.specs.Prelude.{◌≡◌, ◌≤◌, ◌<◌, ◌+◌, ◌-◌, ◌^◌, ◌⊎◌, ℕ, Option, None, Some}
use Rattle.sk_lists.specs.Seeks.{count_to}
use Rattle.sk_query.specs.declared.form.Form.{Form}
use Rattle.sk_model.specs.Covers.{first_need, second_need}
use Rattle.sk_model.specs.Weights.{weigh_by}
use Rattle.sk_index.specs.Indexed.{Indexed}
use Rattle.sk_nodes.specs.Leaves.{entries_of}
use Rattle.sk_nodes.specs.Shapes.{Shape, ended, leaf, pair, or_many, synonym, Sides, no_sides, side}

abbrev mutual
  -- How many entries a node of terms has left with ids up to a point.
  pub room_to : Indexed → ℕ → Shape → ℕ
  room_to i point (leaf l) = count_to point (entries_of i l)
  room_to i point (pair form ta a tb b) = room_to i point a + room_to i point b
  room_to i point (or_many ss) = rooms_to i point ss
  room_to i point (synonym scheme factor t s) = room_to i point s
  room_to i point _ = 0

  -- How many all sides have left.
  pub rooms_to : Indexed → ℕ → Sides → ℕ
  rooms_to i point no_sides = 0
  rooms_to i point (side t s ss) = room_to i point s + rooms_to i point ss

-- The forms of a flat node: an or, and under a need the and_maybe and the and that it becomes.
abbrev pub IsFlatForm : Form → ℕ → Type 0
IsFlatForm Form.Or need = Unit {0}
IsFlatForm Form.And need = 0 < need
IsFlatForm Form.AndMaybe need = 0 < need
IsFlatForm _ need = ⊥

abbrev mutual
  -- Leaves, and what an or of leaves, nested to any depth, has become under needs that rose up to this one; where its sums of wdfs are weighed, under each wdf that weighs what is needed.
  pub IsFlat : ℕ → Shape → Type 0
  IsFlat need ended = Unit {0}
  IsFlat need (leaf l) = Unit {0}
  IsFlat need (pair form ta a tb b) = IsFlatForm form need × (IsFlat (first_need form need tb.greatest) a × IsFlat (second_need form need ta.greatest) b)
  IsFlat need (or_many ss) = AreFlat ss
  IsFlat need (synonym scheme factor t s) = (wdf : ℕ) → need ≤ weigh_by factor scheme wdf → IsFlat wdf s
  IsFlat need _ = ⊥

  -- The sides of an or of many sides, which are moved under no need.
  pub AreFlat : Sides → Type 0
  AreFlat no_sides = Unit {0}
  AreFlat (side t s ss) = IsFlat 0 s × AreFlat ss

-- Leaves, and a max of leaves nested to any depth.
abbrev pub IsPlain : Shape → Type 0
IsPlain ended = Unit {0}
IsPlain (leaf l) = Unit {0}
IsPlain (pair Form.Max ta a tb b) = IsPlain a × IsPlain b
IsPlain _ = ⊥

-- There is a weight, and it is at least the need.
abbrev pub IsAtLeast : ℕ → Option ℕ → Type 0
IsAtLeast need None = ⊥
IsAtLeast need (Some w) = need ≤ w

-- What has this weight at the point may be moved on from the target under the need, and no list is read behind the point by
-- more than one entry: the point is the last id; or nothing is needed, and the target is at most the next id; or the target is
-- at most the point, and what is there is wanted.
abbrev pub MayGo : ℕ → ℕ → ℕ → Option ℕ → Type 0
MayGo point target need weight = (2 ^ 32 - 1 ≤ point) ⊎ (((need ≡ 0) × (target ≤ point + 1)) ⊎ ((target ≤ point) × IsAtLeast need weight))

abbrev mutual
  -- Leaves, and nodes of two sides under this form alone, or of many sides under an or, nested to any depth.
  pub IsNest : Form → Shape → Type 0
  IsNest form ended = Unit {0}
  IsNest form (leaf l) = Unit {0}
  IsNest form (pair other ta a tb b) = (other ≡ form) × (IsNest form a × IsNest form b)
  IsNest form (or_many ss) = (form ≡ Form.Or) × AreNests form ss
  IsNest form _ = ⊥

  -- Sides of which each is one.
  pub AreNests : Form → Sides → Type 0
  AreNests form no_sides = Unit {0}
  AreNests form (side t s ss) = IsNest form s × AreNests form ss
