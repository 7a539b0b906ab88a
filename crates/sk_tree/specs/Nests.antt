-- How nodes of terms alone are opened: what of their lists may be read up to a point.
use Rattle.std.specs.Prelude.{◌≡◌, ◌≤◌, ◌<◌, ◌+◌, ◌^◌, ℕ, List, ◌⊎◌, ◌++◌, min, [], ◌∷◌, Option, Some}
use Rattle.sk_query.specs.declared.form.Form.{Form}
use Rattle.sk_model.specs.Sharp.{rare_readings, up, ups}
use Rattle.sk_index.specs.Indexed.{Indexed}
use Rattle.sk_nodes.specs.Shapes.{Sides, Shape}
use Rattle.sk_nodes.specs.Flat.{rooms_to, AreNests, IsFlat, IsPlain, IsNest, room_to}
use Rattle.sk_nodes.specs.Led.{follow_rooms}
use Rattle.sk_base.specs.Numbers.{Docs, length_of}

-- The forms that leave out no document of either side.
abbrev pub IsJoint : Form → Type 0
IsJoint form = (form ≡ Form.Or) ⊎ (form ≡ Form.Max)

-- A nest of two nests was opened, with this spent before and after.
pub record PairsNest (i : Indexed) (form : Form) (a b s : Shape) (before after : ℕ) : Type 0 where
  pub nest : IsNest form s
  pub account : (point : ℕ) → after + room_to i point s ≤ before + (room_to i point a + room_to i point b)

-- Of each list its postings up to an id, and one reading where it has any.
abbrev pub entered : List (List ℕ) → ℕ → Docs → ℕ
entered [] id docs = 0
entered (t ∷ ts) id docs = (min 1 (length_of t docs) + up t id docs) + entered ts id docs

-- A nest over these terms was opened, with this spent before and after.
pub record OpensNest (i : Indexed) (form : Form) (s : Shape) (lists : List (List ℕ)) (before after : ℕ) : Type 0 where
  pub nest : IsNest form s
  pub account : (point : ℕ) → after + room_to i point s ≤ before + entered lists point i.live.documents

-- The node of terms that count as one was opened, with this spent before and after.
pub record OpensAsOne (i : Indexed) (s : Shape) (lists : List (List ℕ)) (before after : ℕ) : Type 0 where
  pub flat : IsFlat 0 s
  pub account : (point : ℕ) → after + room_to i point s ≤ before + entered lists point i.live.documents

-- A node of terms alone was opened: no more is spent and left up to a point than each list has up to it, and one entry more.
pub record OpensFlat (i : Indexed) (s : Shape) (lists : List (List ℕ)) (before after : ℕ) : Type 0 where
  pub shape : IsFlat 0 s ⊎ IsPlain s
  pub account : (point : ℕ) → after + room_to i point s ≤ before + ups lists point i.live.documents

-- The terms were split into two pieces, one before the other.
pub record SplitsTerms (lists : List (List ℕ)) (front back : Option (List (List ℕ))) : Type 0 where
  pub first : List (List ℕ)
  pub second : List (List ℕ)
  pub front_is : front ≡ Some first
  pub back_is : back ≡ Some second
  pub whole : (lists ≡ first ++ second) ⊎ (lists ≡ second ++ first)

-- Sides over these terms, one of each, were opened, with this spent before and after.
pub record OpensTerms (i : Indexed) (ss : Sides) (lists : List (List ℕ)) (before after : ℕ) : Type 0 where
  pub nests : AreNests Form.Or ss
  pub account : (point : ℕ) → after + rooms_to i point ss ≤ before + entered lists point i.live.documents
  pub follows : (head unread m : ℕ) → unread ≤ m → (head < 2 ^ 32 → unread < m) → after + follow_rooms i head unread ss ≤ before + rare_readings lists m i.live.documents
