-- A member that is taken out of a value, and what the others and the fields find afterwards.
use Rattle.std.proofs.Common.{◌≡◌, ℕ, suc, ◌&&◌, Bool, true, false, cond, if◌then◌else◌, not, List, [], ◌∷◌, ◌++◌, Option, Some, None, is_some, option_map, String, Global, string_bytes, nat_cmp, codes, bytes_eq, true≢false, refl, sym, ap, ◌∙◌}
use Rattle.std.specs.BTreeMap.{is_at}
use Rattle.std.specs.Cmp.Lexicographic.{slice_cmp}
use Rattle.std.specs.List.{list_all}
use Rattle.std.specs.Map.{lookup, remove_entry}
use Rattle.std.specs.Option.{option_and_then}
use Rattle.std.specs.Ordering.{match_ordering}
use Rattle.std.proofs.lemmas.List.{append_assoc}
use Rattle.std.proofs.lemmas.Map.Text.{is_eq-slice_cmp}
use Rattle.std.proofs.lemmas.Slice.Eq.{bytes_eq-Decides}
use Rattle.sk_base.proofs.Tests.{first_so, second_so}
use Rattle.serde_json.specs.Data.{Data, null, boolean, number, string, array, object, Members, no_members, member}
use Rattle.serde_json.specs.Find.{get, get_member, as_str, as_object}
use Rattle.serde_json.specs.View.{view, members_view}
use Rattle.serde_json.proofs.Views.{Entry}
use Rattle.sk_base.specs.declared.record.Entry.{Entry as FieldEntry}
use Rattle.sk_base.specs.declared.record.FieldValue.{FieldValue}
use Rattle.sk_base.specs.declared.schema.Field.{Field}
use Rattle.sk_base.specs.Fields.{clash, kinds_clash, are_apart}
use Rattle.sk_json.specs.Values.{all_names, optional, optional_text, two_texts}
use Rattle.sk_record.specs.FieldRules.{field_named, member_value, with_entry, record_entries_from, names_fields}
use Rattle.sk_record.specs.Rows.{values_object, given_at, pair_at}
use Rattle.sk_record.specs.Shapes.{Given}
use Rattle.sk_record.specs.Taken.{without_members, without_member}
use Rattle.sk_record.proofs.Choices.{first_false}
use Rattle.sk_record.proofs.ByteLemmas.{other_member}

-- ---- as a map takes it

pub object_is : (d : Data) (es : List Entry) → Some (members_view es) ≡ as_object d → d ≡ object (members_view es)
object_is null es e = cc
object_is (boolean b) es e = cc
object_is (number n) es e = cc
object_is (string s) es e = cc
object_is (array ds) es e = cc
object_is (object ms) es e = cc

-- what is left of a member and those behind it, by whether it has the name
abbrev left_of : Bool → List ℕ → List ℕ → Data → Members → Members
left_of b name k d ms = if b then without_members name ms else member k d (without_members name ms)

-- whether a key has this name
abbrev Has : List ℕ → String Global → Bool
Has name = is_at (λ key. slice_cmp nat_cmp name (string_bytes key))

none_to_take : (name : List ℕ) (es : List Entry) → lookup (Has name) es ≡ None → members_view es ≡ without_members name (members_view es)
none_to_take name [] none = refl
none_to_take name (e ∷ es) none = by (bytes_eq name (string_bytes e.0)) refl (none_to_take name es)
  where
    others : (b : Bool) → bytes_eq name (string_bytes e.0) ≡ b → cond b (Some e.1) (lookup (Has name) es) ≡ None
    others b is = ap (λ c. cond c (Some e.1) (lookup (Has name) es)) (sym (is_eq-slice_cmp name (string_bytes e.0) ∙ is)) ∙ none

    by : (b : Bool) → bytes_eq name (string_bytes e.0) ≡ b → (lookup (Has name) es ≡ None → members_view es ≡ without_members name (members_view es))
        → members_view (e ∷ es) ≡ without_members name (members_view (e ∷ es))
    by true is more = let there = others true is in cc
    by false is more =
        ap (member (string_bytes e.0) (view e.1)) (more (others false is))
        ∙ sym (ap (λ c. left_of c name (string_bytes e.0) (view e.1) (members_view es)) is)

taken_once : (name : List ℕ) (es : List Entry) → lookup (Has name) (remove_entry (Has name) es) ≡ None
    → members_view (remove_entry (Has name) es) ≡ without_members name (members_view es)
taken_once name [] none = refl
taken_once name (e ∷ es) none = by (bytes_eq name (string_bytes e.0)) refl (taken_once name es)
  where
    left : (b : Bool) → bytes_eq name (string_bytes e.0) ≡ b → remove_entry (Has name) (e ∷ es) ≡ cond b es (e ∷ remove_entry (Has name) es)
    left b is = ap (λ c. cond c es (e ∷ remove_entry (Has name) es)) (is_eq-slice_cmp name (string_bytes e.0) ∙ is)

    seen : (b : Bool) → bytes_eq name (string_bytes e.0) ≡ b
        → left_of b name (string_bytes e.0) (view e.1) (members_view es) ≡ without_members name (members_view (e ∷ es))
    seen b is = sym (ap (λ c. left_of c name (string_bytes e.0) (view e.1) (members_view es)) is)

    by : (b : Bool) → bytes_eq name (string_bytes e.0) ≡ b
        → (lookup (Has name) (remove_entry (Has name) es) ≡ None → members_view (remove_entry (Has name) es) ≡ without_members name (members_view es))
        → members_view (remove_entry (Has name) (e ∷ es)) ≡ without_members name (members_view (e ∷ es))
    by true is taken = ap members_view (left true is) ∙ none_to_take name es (ap (lookup (Has name)) (sym (left true is)) ∙ none) ∙ seen true is
    by false is taken =
        let more : lookup (Has name) (remove_entry (Has name) es) ≡ None =
        sym (ap (λ c. cond c (Some e.1) (lookup (Has name) (remove_entry (Has name) es))) (is_eq-slice_cmp name (string_bytes e.0) ∙ is)) ∙ ap (lookup (Has name)) (sym (left false is)) ∙ none in
        ap members_view (left false is) ∙ ap (member (string_bytes e.0) (view e.1)) (taken more) ∙ seen false is

-- where a map finds the name no more, its members are those without the name
pub members_taken : (name : List ℕ) (es fs : List Entry) → fs ≡ remove_entry (Has name) es → lookup (Has name) fs ≡ None
    → members_view (remove_entry (Has name) es) ≡ without_members name (members_view es)
members_taken name es fs are none = taken_once name es (ap (lookup (Has name)) (sym are) ∙ none)

-- ---- what is found afterwards

apart : (q k : List ℕ) → bytes_eq q k ≡ false → q ≡ k → ⊥
apart q k unlike same = true≢false (sym ((bytes_eq-Decides q k).1 same) ∙ unlike)

gone : (name : List ℕ) (ms : Members) → get_member name (without_members name ms) ≡ None
gone name no_members = refl
gone name (member k d ms) = by (bytes_eq name k) refl (gone name ms)
  where
    by : (b : Bool) → bytes_eq name k ≡ b → get_member name (without_members name ms) ≡ None
        → get_member name (without_members name (member k d ms)) ≡ None
    by true is none = ap (λ c. get_member name (left_of c name k d ms)) is ∙ none
    by false is none =
        ap (λ c. get_member name (left_of c name k d ms)) is
        ∙ other_member name k d (without_members name ms) (apart name k is)
        ∙ none

stays : (name q : List ℕ) (ms : Members) → bytes_eq name q ≡ false → get_member q (without_members name ms) ≡ get_member q ms
stays name q no_members unlike = refl
stays name q (member k d ms) unlike = by (bytes_eq name k) refl (stays name q ms unlike)
  where
    by : (b : Bool) → bytes_eq name k ≡ b → get_member q (without_members name ms) ≡ get_member q ms
        → get_member q (without_members name (member k d ms)) ≡ get_member q (member k d ms)
    by true is same =
        ap (λ c. get_member q (left_of c name k d ms)) is
        ∙ same
        ∙ sym (other_member q k d ms (λ e. apart name q unlike ((bytes_eq-Decides name k).0 is ∙ sym e)))
    by false is same =
        ap (λ c. get_member q (left_of c name k d ms)) is
        ∙ ap (λ r. match_ordering (slice_cmp nat_cmp q k) r (Some d) r) same

-- the member that was taken is not found
get-taken : (name : List ℕ) (d : Data) → get name (without_member name d) ≡ None
get-taken name null = refl
get-taken name (boolean b) = refl
get-taken name (number n) = refl
get-taken name (string s) = refl
get-taken name (array ds) = refl
get-taken name (object ms) = gone name ms

-- under another name is found what was found before
get-other : (name q : List ℕ) (d : Data) → bytes_eq name q ≡ false → get q (without_member name d) ≡ get q d
get-other name q null unlike = refl
get-other name q (boolean b) unlike = refl
get-other name q (number n) unlike = refl
get-other name q (string s) unlike = refl
get-other name q (array ds) unlike = refl
get-other name q (object ms) unlike = stays name q ms unlike

-- ---- what is left for a row

no_values : (o : Option Data) (payload : List ℕ) → Some payload ≡ optional [] as_str o → option_and_then values_object o ≡ None
no_values None payload e = refl
no_values (Some null) payload e = cc
no_values (Some (boolean b)) payload e = cc
no_values (Some (number n)) payload e = cc
no_values (Some (string s)) payload e = refl
no_values (Some (array ds)) payload e = cc
no_values (Some (object ms)) payload e = cc

-- the values object is found behind the payload
values_left : (name : List ℕ) (d : Data) (payload : List ℕ) → Some payload ≡ optional_text (codes "data") d
    → option_and_then values_object (get name (without_member (codes "data") d)) ≡ option_and_then values_object (get name d)
values_left name d payload e = by (bytes_eq (codes "data") name) refl
  where
    by : (b : Bool) → bytes_eq (codes "data") name ≡ b → option_and_then values_object (get name (without_member (codes "data") d)) ≡ option_and_then values_object (get name d)
    by true is =
        let same : codes "data" ≡ name = (bytes_eq-Decides (codes "data") name).0 is in
        ap (option_and_then values_object) (ap (λ n. get n (without_member (codes "data") d)) (sym same) ∙ get-taken (codes "data") d)
        ∙ sym (ap (λ n. option_and_then values_object (get n d)) (sym same) ∙ no_values (get (codes "data") d) payload e)
    by false is = ap (option_and_then values_object) (get-other (codes "data") name d is)

-- the values object and the payload, as they are taken
pub given_taken : (name : List ℕ) (d left : Data) (payload : List ℕ) (values : Option Data) → Some payload ≡ optional_text (codes "data") d → left ≡ without_member (codes "data") d
    → values ≡ option_and_then values_object (get name left) → option_map (λ v. record { values = v; payload = payload }) values ≡ given_at name d
given_taken name d left payload values e is are =
    with_payload values
    ∙ (λ i. option_and_then (λ v. option_map (λ text. record { values = v; payload = text }) (e i))
    ((are ∙ ap (λ x. option_and_then values_object (get name x)) is ∙ values_left name d payload e) i))
  where
    with_payload : (o : Option Data) → ◌≡◌ {A = Option Given} (option_map (λ v. record { values = v; payload = payload }) o) (option_and_then (λ v. Some (record { values = v; payload = payload })) o)
    with_payload None = refl
    with_payload (Some v) = refl

-- the pair is found behind the values object
pub pair_left : (d left : Data) → left ≡ without_member (codes "with") (without_member (codes "data") d) → pair_at (codes "replace_by") left ≡ pair_at (codes "replace_by") d
pair_left d left is =
    ap (pair_at (codes "replace_by")) is
    ∙ ap (option_and_then two_texts) (get-other (codes "with") (codes "replace_by") (without_member (codes "data") d) refl ∙ get-other (codes "data") (codes "replace_by") d refl)

-- ---- what is left for the other fields

-- the other fields give what they gave
entries_left : (f : Field) (more : List Field) (place : ℕ) (d : Data) → list_all (λ other. not (clash f other)) more ≡ true
    → record_entries_from place more (without_member f.name d) ≡ record_entries_from place more d
entries_left f [] place d others = refl
entries_left f (g ∷ more) place d others =
    let unlike : bytes_eq f.name g.name ≡ false = first_false (bytes_eq f.name g.name) (kinds_clash f.kind g.kind) (first_so (not (clash f g)) (list_all (λ other. not (clash f other)) more) others) in
    let here = get-other f.name g.name d unlike in
    let rest = entries_left f more (suc place) d (second_so (not (clash f g)) (list_all (λ other. not (clash f other)) more) others) in
    λ i. option_and_then (λ value. option_map (with_entry place value) (rest i)) (member_value g.kind (here i))

-- each member names one of the fields
abbrev NameFields : List Field → Members → Bool
NameFields fields = all_names (λ name. is_some (field_named fields name))

names_among : (f : Field) (more : List Field) (ms : Members)
    → NameFields (f ∷ more) ms ≡ NameFields more (without_members f.name ms)
names_among f more no_members = refl
names_among f more (member k d ms) = by (bytes_eq f.name k) refl (names_among f more ms)
  where
    left : (b : Bool) → bytes_eq f.name k ≡ b
        → NameFields more (left_of b f.name k d ms)
        ≡ NameFields more (without_members f.name (member k d ms))
    left b is = sym (ap (λ c. NameFields more (left_of c f.name k d ms)) is)

    by : (b : Bool) → bytes_eq f.name k ≡ b
        → NameFields (f ∷ more) ms ≡ NameFields more (without_members f.name ms)
        → (is_some (cond (bytes_eq f.name k) (Some f) (field_named more k)) && NameFields (f ∷ more) ms)
        ≡ NameFields more (without_members f.name (member k d ms))
    by true is rest = ap (λ c. is_some (cond c (Some f) (field_named more k)) && NameFields (f ∷ more) ms) is ∙ rest ∙ left true is
    by false is rest =
        ap (λ c. is_some (cond c (Some f) (field_named more k)) && NameFields (f ∷ more) ms) is
        ∙ ap (λ b. is_some (field_named more k) && b) rest
        ∙ left false is

-- each member names a field where each that is left names one of the others
names_left : (f : Field) (more : List Field) (d : Data) → names_fields (f ∷ more) d ≡ names_fields more (without_member f.name d)
names_left f more null = refl
names_left f more (boolean b) = refl
names_left f more (number n) = refl
names_left f more (string s) = refl
names_left f more (array ds) = refl
names_left f more (object ms) = names_among f more ms

-- what is put behind the entries for a field stands before those of the other fields
module _ (f : Field) (rest : List Field) (place : ℕ) (old : Data) (entries : List FieldEntry) (value : Option FieldValue) where
  abbrev behind : List FieldEntry
  behind = entries ++ with_entry place value []

  one_more : (o : Option (List FieldEntry)) → option_map (λ es. behind ++ es) o ≡ option_map (λ es. entries ++ es) (option_map (with_entry place value) o)
  one_more None = refl
  one_more (Some es) = ap (λ all. Some all) (append_assoc entries (with_entry place value []) es ∙ ap (λ more. entries ++ more) (joined value))
    where
      joined : (v : Option FieldValue) → with_entry place v [] ++ es ≡ with_entry place v es
      joined None = refl
      joined (Some v) = refl

  entries_more : list_all (λ other. not (clash f other)) rest ≡ true → Some value ≡ member_value f.kind (get f.name old)
      → option_map (λ es. behind ++ es) (record_entries_from (suc place) rest (without_member f.name old)) ≡ option_map (λ es. entries ++ es) (record_entries_from place (f ∷ rest) old)
  entries_more others is =
      ap (option_map (λ es. behind ++ es)) (entries_left f rest (suc place) old others)
      ∙ one_more (record_entries_from (suc place) rest old)
      ∙ ap (λ o. option_map (λ es. entries ++ es) (option_and_then (λ v. option_map (with_entry place v) (record_entries_from (suc place) rest old)) o)) is

-- what the loop over the fields keeps
abbrev pub Keeps : List Field → Data → List Field → ℕ → Data → List FieldEntry → Type 0
Keeps fields all rest place left entries =
    (option_map (λ es. entries ++ es) (record_entries_from place rest left) ≡ record_entries_from 0 fields all)
    × (names_fields rest left ≡ names_fields fields all)
    × (are_apart rest ≡ true)

pub keeps_more : (fields : List Field) (all : Data) (f : Field) (rest : List Field) (place : ℕ) (old left : Data) (entries more : List FieldEntry) (value : Option FieldValue)
    → left ≡ without_member f.name old → Some value ≡ member_value f.kind (get f.name old) → more ≡ entries ++ with_entry place value []
    → Keeps fields all (f ∷ rest) place old entries → Keeps fields all rest (suc place) left more
keeps_more fields all f rest place old left entries more value is there are kept = (
  (λ i. option_map (λ es. are i ++ es) (record_entries_from (suc place) rest (is i)))
      ∙ entries_more f rest place old entries value (first_so (list_all (λ other. not (clash f other)) rest) (are_apart rest) kept.2) there
      ∙ kept.0,
  ap (names_fields rest) is ∙ sym (names_left f rest old) ∙ kept.1,
  second_so (list_all (λ other. not (clash f other)) rest) (are_apart rest) kept.2,
)
