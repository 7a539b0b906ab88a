-- What stands in a JSON value: its members, their names, and texts and numbers.
use Rattle.std.specs.Prelude.{ℕ, suc, ◌+◌, ◌&&◌, nat_le, Bool, true, false, List, [], ◌∷◌, length, Option, Some, None, is_some, bytes_eq, if◌then◌else◌}
use Rattle.std.specs.Option.{option_and_then, option_map}
use Rattle.std.specs.List.{list_any}
use Rattle.serde_json.specs.Data.{Data, null, boolean, number, string, array, object, Items, no_items, item, Members, no_members, member}
use Rattle.serde_json.specs.Find.{get, as_u64, as_number, as_str, as_bool, as_array}

-- The value is an object with this member.
abbrev pub has : List ℕ → Data → Bool
has name d = is_some (get name d)

-- The test holds of the name of each member.
abbrev pub all_names : (List ℕ → Bool) → Members → Bool
all_names test no_members = true
all_names test (member name d more) = test name && all_names test more

-- The text is one of these.
abbrev pub is_one_of : List (List ℕ) → List ℕ → Bool
is_one_of texts text = list_any (λ one. bytes_eq text one) texts

-- The value is an object, and each of its members has one of these names.
abbrev pub has_only : List (List ℕ) → Data → Bool
has_only names (object members) = all_names (is_one_of names) members
has_only names null = false
has_only names (boolean b) = false
has_only names (number n) = false
has_only names (string s) = false
has_only names (array items) = false

-- The text at a member.
abbrev pub text_at : List ℕ → Data → Option (List ℕ)
text_at name d = option_and_then as_str (get name d)

-- The unsigned number of 64 bits that a value is.
abbrev pub whole_number : Data → Option ℕ
whole_number d = option_and_then as_u64 (as_number d)

-- The number, where it lies between these.
abbrev pub between : ℕ → ℕ → ℕ → Option ℕ
between least most n = if nat_le least n && nat_le n most then Some n else None

-- What a member is read as, where it may be absent.
abbrev pub optional : {T : Type 0} → T → (Data → Option T) → Option Data → Option T
optional otherwise reads None = Some otherwise
optional otherwise reads (Some d) = reads d

-- The text at a member that may be absent.
abbrev pub optional_text : List ℕ → Data → Option (List ℕ)
optional_text name d = optional [] as_str (get name d)

-- The number at a member that may be absent.
abbrev pub optional_number : List ℕ → ℕ → Data → Option ℕ
optional_number name otherwise d = optional otherwise whole_number (get name d)

-- Whether a member that may be absent says true.
abbrev pub optional_flag : List ℕ → Data → Option Bool
optional_flag name d = optional false as_bool (get name d)

-- The two texts of two items.
abbrev pub pair_of : Items → Option (List ℕ × List ℕ)
pair_of no_items = None
pair_of (item a no_items) = None
pair_of (item a (item b no_items)) = option_and_then (λ field. option_map (λ text. (field, text)) (as_str b)) (as_str a)
pair_of (item a (item b (item c ds))) = None

-- The two texts of an array of two.
abbrev pub two_texts : Data → Option (List ℕ × List ℕ)
two_texts d = option_and_then pair_of (as_array d)

-- The strings that the items are, where they are nothing else.
abbrev pub texts_of : Items → Option (List (List ℕ))
texts_of no_items = Some []
texts_of (item d ds) = option_and_then (λ text. option_map (λ texts. text ∷ texts) (texts_of ds)) (as_str d)

-- How many items there are.
abbrev pub count_items : Items → ℕ
count_items no_items = 0
count_items (item d ds) = suc (count_items ds)

-- How many bytes the strings in a value have, the names of members aside.
abbrev mutual
  pub bytes_in : Data → ℕ
  bytes_in null = 0
  bytes_in (boolean b) = 0
  bytes_in (number n) = 0
  bytes_in (string s) = length s
  bytes_in (array ds) = bytes_in_items ds
  bytes_in (object ms) = bytes_in_members ms

  pub bytes_in_items : Items → ℕ
  bytes_in_items no_items = 0
  bytes_in_items (item d ds) = bytes_in d + bytes_in_items ds

  pub bytes_in_members : Members → ℕ
  bytes_in_members no_members = 0
  bytes_in_members (member name d ms) = bytes_in d + bytes_in_members ms
