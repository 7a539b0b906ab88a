-- How nodes in which a list leads are opened.
use Rattle.std.specs.Prelude.{◌≡◌, ◌≤◌, ◌<◌, ◌+◌, ◌^◌, ◌⊎◌, ◌++◌, ℕ, List, [], ◌∷◌, length, Option, Some}
use Rattle.sk_base.specs.Numbers.{Docs, length_of}
use Rattle.sk_query.specs.declared.form.Form.{Form}
use Rattle.sk_model.specs.Bounds.{least_length}
use Rattle.sk_model.specs.Sharp.{rare_readings}
use Rattle.sk_index.specs.Indexed.{Indexed}
use Rattle.sk_nodes.specs.declared.top.Top.{Top}
use Rattle.sk_nodes.specs.Shapes.{Shape}
use Rattle.sk_nodes.specs.Flat.{IsNest}
use Rattle.sk_nodes.specs.Led.{IsLone, lead_head, lead_unread, follow_room, led_room, IsAtLead, IsLed}

-- The length of the first list, and 0 where there is none.
abbrev pub first_length : List (List ℕ) → Docs → ℕ
first_length [] docs = 0
first_length (t ∷ ts) docs = length_of t docs

-- The length of the last list, and 0 where there is none.
abbrev pub last_length : List (List ℕ) → Docs → ℕ
last_length [] docs = 0
last_length (t ∷ []) docs = length_of t docs
last_length (t ∷ u ∷ ts) docs = last_length (u ∷ ts) docs

-- The length of the list that leads: in an and the shortest, and otherwise the first.
abbrev pub lead_length : Form → List (List ℕ) → Docs → ℕ
lead_length Form.And lists docs = least_length lists docs
lead_length _ lists docs = first_length lists docs

-- One of the lists leads under the form.
abbrev pub CanLead : Form → List (List ℕ) → Type 0
CanLead Form.And lists = Unit {0}
CanLead Form.AndNot lists = Unit {0}
CanLead Form.Filter lists = Unit {0}
CanLead Form.AndMaybe lists = length lists ≤ 2
CanLead _ lists = ⊥

-- How many of so many parts are put together first: all but the last of an and and of a filter, one of the other forms that are led.
abbrev pub SplitsOff : Form → ℕ → ℕ → Type 0
SplitsOff Form.And count n = count ≤ 1024 → n + 1 ≡ count
SplitsOff Form.Filter count n = count ≤ 1024 → n + 1 ≡ count
SplitsOff Form.AndNot count n = n ≡ 1
SplitsOff Form.AndMaybe count n = n ≡ 1
SplitsOff _ count n = Unit {0}

-- In an and the last list is not shorter than the first.
abbrev pub IsOrdered : Form → List (List ℕ) → Docs → Type 0
IsOrdered Form.And lists docs = first_length lists docs ≤ last_length lists docs
IsOrdered _ lists docs = Unit {0}

-- The terms were split into those that lead and those that follow.
pub record SplitsLed (form : Form) (lists : List (List ℕ)) (docs : Docs) (front back : Option (List (List ℕ))) : Type 0 where
  pub first : List (List ℕ)
  pub second : List (List ℕ)
  pub front_is : front ≡ Some first
  pub back_is : back ≡ Some second
  pub whole : (lists ≡ first ++ second) ⊎ (lists ≡ second ++ first)
  pub can : CanLead form first
  pub lead : lead_length form first docs ≡ lead_length form lists docs
  pub alone : (form ≡ Form.AndNot) ⊎ (length second ≡ 1)

-- A side that follows a list was opened over these terms, with this spent before and after; whatever the length of that list.
pub record OpensFollowing (i : Indexed) (s : Shape) (lists : List (List ℕ)) (before after : ℕ) : Type 0 where
  pub nest : IsNest Form.Or s
  pub lone : length lists ≡ 1 → IsLone s
  pub account : (head unread m : ℕ) → unread ≤ m → (head < 2 ^ 32 → unread < m) → after + follow_room i head unread s ≤ before + rare_readings lists m i.live.documents

-- A node in which one of these lists leads was opened, with this spent before and after.
pub record OpensLed (i : Indexed) (form : Form) (t : Top) (s : Shape) (lists : List (List ℕ)) (before after : ℕ) : Type 0 where
  pub led : IsLed i s
  pub at : IsAtLead i t s
  pub within : lead_unread i s ≤ lead_length form lists i.live.documents
  pub begun : lead_head i s < 2 ^ 32 → lead_unread i s < lead_length form lists i.live.documents
  pub account : after + led_room i s ≤ before + rare_readings lists (lead_length form lists i.live.documents) i.live.documents

-- The same of a whole query.
pub record OpensRare (i : Indexed) (t : Top) (s : Shape) (most before after : ℕ) : Type 0 where
  pub led : IsLed i s
  pub at : IsAtLead i t s
  pub account : after + led_room i s ≤ before + most
