-- What two sides give together, and what is asked of each.
-- Source: Xapian's API documentation (the operators of `Query`).
use Rattle.std.specs.Prelude.{◌≡◌, ◌≤◌, ℕ, ◌+◌, max, Bool, true, false, Option, None, is_some, is_none, unwrap_or, if◌then◌else◌}
use Rattle.sk_query.specs.declared.form.Form.{Form}
use Rattle.sk_model.specs.Combining.{both, either, greater, where_so, with_more}
use Rattle.sk_model.specs.Laws.{one_of}

-- The weight under a form, by those of its two sides.
abbrev pub paired : Form → Option ℕ → Option ℕ → Option ℕ
paired Form.And a b = both a b
paired Form.Or a b = either a b
paired Form.Xor a b = one_of a b
paired Form.Max a b = greater a b
paired Form.AndNot a b = where_so (is_none b) a
paired Form.AndMaybe a b = with_more a b
paired Form.Filter a b = where_so (is_some b) a

-- A side: no document weighs more than its greatest, and where it has ended there is none.
pub record IsSide (greatest : ℕ) (ended : Bool) (a : Option ℕ) : Type 0 where
  pub bound : unwrap_or a 0 ≤ greatest
  pub gone : ended ≡ true → a ≡ None

-- No weight under a form is above it, by the greatest of its sides.
abbrev pub greatest_under : Form → ℕ → ℕ → ℕ
greatest_under Form.And a b = a + b
greatest_under Form.Or a b = a + b
greatest_under Form.Xor a b = max a b
greatest_under Form.Max a b = max a b
greatest_under Form.AndNot a b = a
greatest_under Form.AndMaybe a b = a + b
greatest_under Form.Filter a b = a

-- A form that gives nothing where its first side gives nothing.
abbrev pub is_led : Form → Bool
is_led Form.And = true
is_led Form.Or = false
is_led Form.Xor = false
is_led Form.Max = false
is_led Form.AndNot = true
is_led Form.AndMaybe = true
is_led Form.Filter = true

-- From where the second side is sought, where the first was sought from an id and now has this head.
abbrev pub second_target : Form → ℕ → ℕ → ℕ
second_target form target head = if is_led form then head else target
