-- A line with one member alone.
use Rattle.std.specs.Prelude.{ℕ, Bool, false, List, None, bytes_eq}
use Rattle.serde_json.specs.Data.{Data, null, boolean, number, string, array, object, Members, no_members, member}
use Rattle.sk_base.specs.declared.find.Ask.{Ask}
use Rattle.sk_base.specs.declared.find.Join.{Join}
use Rattle.sk_base.specs.Finds.{default_options}
use Rattle.sk_record.specs.Shapes.{Wanted, by_relevance}

-- The one member has this name.
abbrev pub is_only : List ℕ → Members → Bool
is_only name no_members = false
is_only name (member n d no_members) = bytes_eq n name
is_only name (member n d (member m e ms)) = false

-- The value is an object with this member and no other.
abbrev pub is_alone : List ℕ → Data → Bool
is_alone name (object ms) = is_only name ms
is_alone name null = false
is_alone name (boolean b) = false
is_alone name (number n) = false
is_alone name (string s) = false
is_alone name (array items) = false

-- A find by a text of which nothing else is said.
abbrev pub plain_find : List ℕ → Wanted
plain_find text = record { ask = Ask.Text text Join.Or; options = default_options; sorted = by_relevance; falling = false; collapsed = None }
