-- The entries of a values object fit the fields.
use Rattle.std.proofs.Common.{◌≡◌, ◌≤◌, ◌<◌, ◌+◌, ℕ, suc, true, List, [], ◌∷◌, length, Option, Some, None, option_map, refl, ap, ◌∙◌, subst, arith}
use Rattle.std.specs.List.{All, AllPairs, list_all, slice_get}
use Rattle.std.specs.Cmp.Derive.{both_true}
use Rattle.std.proofs.lemmas.List.Elements.{All-cons}
use Rattle.std.proofs.lemmas.List.Kept.{AllPairs-cons}
use Rattle.sk_base.proofs.Tests.{second_so}
use Rattle.serde_json.specs.Data.{Data, null, boolean, number, string, array, object, Items, no_items, item}
use Rattle.serde_json.specs.Find.{get, as_str}
use Rattle.sk_base.specs.declared.record.Entry.{Entry}
use Rattle.sk_base.specs.declared.record.FieldValue.{FieldValue}
use Rattle.sk_base.specs.declared.record.Record.{Record}
use Rattle.sk_base.specs.declared.schema.Field.{Field}
use Rattle.sk_base.specs.declared.schema.FieldKind.{FieldKind}
use Rattle.sk_base.specs.Fields.{is_field, are_fields, are_apart}
use Rattle.sk_base.specs.Records.{fits_kind, fits_field, fits_entry, bytes_of_texts, bytes_of_value, bytes_of_values, most_bytes, FitsValues}
use Rattle.sk_json.specs.Values.{whole_number, texts_of, bytes_in, bytes_in_items}
use Rattle.sk_record.specs.Shapes.{Given}
use Rattle.sk_record.specs.FieldRules.{filter_texts, told_value, member_value, with_entry, record_entries_from, names_fields, record_entries, record_of}
use Rattle.sk_record.proofs.Choices.{some_is, chained, mapped, guarded}
use Rattle.sk_record.proofs.ByteLemmas.{bytes_at, named_bytes, named_hold}

-- a text is the string that it is read from
text_bytes : (d : Data) (text : List ℕ) → as_str d ≡ Some text → length text ≤ bytes_in d
text_bytes null text e = cc
text_bytes (boolean b) text e = cc
text_bytes (number n) text e = cc
text_bytes (string s) text e = let same = ap length (some_is s text e) in omega (arith, same)
text_bytes (array ds) text e = cc
text_bytes (object ms) text e = cc

texts_bytes : (ds : Items) (texts : List (List ℕ)) → texts_of ds ≡ Some texts → bytes_of_texts texts ≤ bytes_in_items ds
texts_bytes no_items texts e = let none = ap bytes_of_texts (some_is [] texts e) in omega (arith, none)
texts_bytes (item d ds) texts e =
    chained (λ ts. bytes_of_texts ts ≤ bytes_in d + bytes_in_items ds) (λ text. option_map (λ more. text ∷ more) (texts_of ds)) (as_str d) texts
    (λ text is. mapped (λ ts. bytes_of_texts ts ≤ bytes_in d + bytes_in_items ds) (λ more. text ∷ more) (texts_of ds) texts
    (λ more are. let first = text_bytes d text is in let rest = texts_bytes ds more are in omega (arith, first, rest)))
    e

filter_bytes : (d : Data) (texts : List (List ℕ)) → filter_texts d ≡ Some texts → bytes_of_texts texts ≤ bytes_in d
filter_bytes null texts e = cc
filter_bytes (boolean b) texts e = cc
filter_bytes (number n) texts e = cc
filter_bytes (string s) texts e = let one = ap bytes_of_texts (some_is (s ∷ []) texts e) in omega (arith, one)
filter_bytes (array ds) texts e = texts_bytes ds texts e
filter_bytes (object ms) texts e = cc

-- a value is of its field's kind, and no longer than what it is read from
abbrev FitsValue : FieldKind → ℕ → FieldValue → Type 0
FitsValue kind most value = (fits_kind kind value ≡ true) × (bytes_of_value value ≤ most)

value_fits : (kind : FieldKind) (d : Data) (value : FieldValue) → told_value kind d ≡ Some value → FitsValue kind (bytes_in d) value
value_fits (FieldKind.Text prefix step) d value =
    mapped (FitsValue (FieldKind.Text prefix step) (bytes_in d)) (λ text. FieldValue.Text text) (as_str d) value (λ text is. (refl, text_bytes d text is))
value_fits (FieldKind.Filter prefix) d value =
    mapped (FitsValue (FieldKind.Filter prefix) (bytes_in d)) (λ texts. FieldValue.Filter texts) (filter_texts d) value (λ texts are. (refl, filter_bytes d texts are))
value_fits (FieldKind.Number slot) d value =
    mapped (FitsValue (FieldKind.Number slot) (bytes_in d)) (λ n. FieldValue.Number n) (whole_number d) value (λ n is. (refl, omega arith))
value_fits (FieldKind.Word slot) d value =
    mapped (FitsValue (FieldKind.Word slot) (bytes_in d)) (λ text. FieldValue.Word text) (as_str d) value (λ text is. (refl, text_bytes d text is))

inner : (o : Option FieldValue) (value : FieldValue) → option_map (λ v. Some v) o ≡ Some (Some value) → o ≡ Some value
inner None value e = cc
inner (Some v) value e = cc

member_fits : (kind : FieldKind) (o : Option Data) (value : FieldValue) → member_value kind o ≡ Some (Some value) → FitsValue kind (bytes_at o) value
member_fits kind None value e = cc
member_fits kind (Some null) value e = cc
member_fits kind (Some (boolean b)) value e = value_fits kind (boolean b) value (inner _ value e)
member_fits kind (Some (number n)) value e = value_fits kind (number n) value (inner _ value e)
member_fits kind (Some (string s)) value e = value_fits kind (string s) value (inner _ value e)
member_fits kind (Some (array ds)) value e = value_fits kind (array ds) value (inner _ value e)
member_fits kind (Some (object ms)) value e = value_fits kind (object ms) value (inner _ value e)

-- what the entries of the fields from a place on are
record EntriesFit (fields : List Field) (place most : ℕ) (entries : List Entry) : Type 0 where
  behind : All (λ e. place ≤ e.field) entries
  rising : AllPairs (λ a b. a.field < b.field) entries
  kinds : list_all (fits_entry fields) entries ≡ true
  small : bytes_of_values entries ≤ most

none_fit : (fields : List Field) (place : ℕ) → EntriesFit fields place 0 []
none_fit fields place = record { behind = λ k d l. absurd (omega (arith, l)); rising = λ i j d l m. absurd (omega (arith, m)); kinds = refl; small = omega arith }

with_none : (fields : List Field) (place most more : ℕ) (entries : List Entry) → EntriesFit fields (suc place) more entries → more ≤ most → EntriesFit fields place most entries
with_none fields place most more entries fit least = record {
  behind = λ k d l. let after = fit.behind k d l in omega (arith, after);
  rising = fit.rising;
  kinds = fit.kinds;
  small = let short = fit.small in omega (arith, short);
}

with_one : (fields : List Field) (field : Field) (place most more : ℕ) (value : FieldValue) (entries : List Entry) → slice_get fields place ≡ Some field
    → FitsValue field.kind most value → EntriesFit fields (suc place) more entries → EntriesFit fields place (most + more) (record { field = place; value = value } ∷ entries)
with_one fields field place most more value entries at fits fit = record {
  behind = All-cons (λ (e : Entry). place ≤ e.field) (record { field = place; value = value }) entries (omega arith) (λ k d l. let after = fit.behind k d l in omega (arith, after));
  rising = AllPairs-cons (λ (a b : Entry). a.field < b.field) (record { field = place; value = value }) entries fit.behind fit.rising;
  kinds = both_true (ap (λ o. fits_field o value) at ∙ fits.0) fit.kinds;
  small = let short = fit.small in let one = fits.1 in omega (arith, short, one);
}

with_value : (fields : List Field) (field : Field) (place more : ℕ) (o : Option Data) (value : Option FieldValue) (entries : List Entry) → slice_get fields place ≡ Some field
    → member_value field.kind o ≡ Some value → EntriesFit fields (suc place) more entries → EntriesFit fields place (bytes_at o + more) (with_entry place value entries)
with_value fields field place more o None entries at is fit = with_none fields place (bytes_at o + more) more entries fit (omega arith)
with_value fields field place more o (Some value) entries at is fit = with_one fields field place (bytes_at o) more value entries at (member_fits field.kind o value is) fit

entries_fit : (fields left : List Field) (place : ℕ) (values : Data) (entries : List Entry) → ((k : ℕ) → slice_get fields (k + place) ≡ slice_get left k)
    → record_entries_from place left values ≡ Some entries → EntriesFit fields place (named_bytes left values) entries
entries_fit fields [] place values entries at e = subst (EntriesFit fields place 0) (some_is [] entries e) (none_fit fields place)
entries_fit fields (field ∷ left) place values entries at e =
    chained (EntriesFit fields place (named_bytes (field ∷ left) values)) (λ value. option_map (with_entry place value) (record_entries_from (suc place) left values))
    (member_value field.kind (get field.name values)) entries
    (λ value is. mapped (EntriesFit fields place (named_bytes (field ∷ left) values)) (with_entry place value) (record_entries_from (suc place) left values) entries
    (λ more made. with_value fields field place (named_bytes left values) (get field.name values) value more (here (at 0)) is
    (entries_fit fields left (suc place) values more (λ k. ap (slice_get fields) (next k) ∙ at (suc k)) made)))
    e
  where
    here : slice_get fields (0 + place) ≡ Some field → slice_get fields place ≡ Some field
    here e = ap (slice_get fields) (whole place) ∙ e
      where
        whole : (n : ℕ) → n ≡ 0 + n
        whole n = omega arith

    next : (k : ℕ) → k + suc place ≡ suc k + place
    next k = omega arith

values_fit : (fields : List Field) (values : Data) (entries : List Entry) → are_fields fields ≡ true → bytes_in values ≤ most_bytes → record_entries fields values ≡ Some entries → FitsValues fields entries
values_fit fields values entries is short =
    guarded (FitsValues fields) (names_fields fields values) (record_entries_from 0 fields values) entries
    (λ named made. let fit = entries_fit fields fields 0 values entries (λ k. ap (slice_get fields) (whole k)) made in
    let held = named_hold fields values (second_so (list_all is_field fields) (are_apart fields) is) in
    let small = fit.small in
    record { rising = fit.rising; kinds = fit.kinds; small = omega (arith, held, short, small) })
  where
    whole : (n : ℕ) → n + 0 ≡ n
    whole n = omega arith

pub record_fits : (fields : List Field) (given : Given) (it : Record) → are_fields fields ≡ true → bytes_in given.values ≤ most_bytes → record_of fields given ≡ Some it → FitsValues fields it.values
record_fits fields given it is short =
    mapped (λ (r : Record). FitsValues fields r.values) (λ entries. record { values = entries; payload = given.payload }) (record_entries fields given.values) it
    (λ entries made. values_fit fields given.values entries is short made)
