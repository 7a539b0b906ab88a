-- The test whether values fit says that they do.
use Rattle.std.proofs.Common.{◌≡◌, ◌≤◌, ◌<◌, ◌+◌, ◌-◌, ◌&&◌, ℕ, zero, suc, Bool, true, false, nat_le, if◌then◌else◌, List, [], ◌∷◌, length, get_or, AllPairs, Some, None, is_some, refl, sym, ap, ◌∙◌, arith}
use Rattle.std.proofs.lemmas.List.Kept.{AllPairs-cons}
use Rattle.std.specs.List.{list_all}
use Rattle.std.proofs.lemmas.Bool.{and_from, le-leb, leb-true}
use Rattle.sk_base.proofs.Tests.{first_so, second_so}
use Rattle.sk_base.specs.declared.schema.Field.{Field}
use Rattle.sk_base.specs.declared.record.Entry.{Entry}
use Rattle.sk_base.specs.Records.{fits_entry, bytes_of_values, most_bytes, FitsValues}
use Rattle.sk_base.specs.Fitting.{follow, fit}
use Rattle.sk_base.specs.Rooms.{room_behind}

-- each place is at least the first that may be
all_follow : (least : ℕ) (entries : List Entry) → follow least entries ≡ true → (i : ℕ) (d : Entry) → i < length entries → let e : Entry = get_or entries i d in least ≤ e.field
all_follow least [] f i d l = absurd (omega arith)
all_follow least (e ∷ es) f zero d l = leb-true least e.field (first_so (nat_le least e.field) (follow (e.field + 1) es) f)
all_follow least (e ∷ es) f (suc i) d l =
    let later = all_follow (e.field + 1) es (second_so (nat_le least e.field) (follow (e.field + 1) es) f) i d (omega arith) in
    let here = leb-true least e.field (first_so (nat_le least e.field) (follow (e.field + 1) es) f) in
    omega (arith, later, here)

rising_from : (least : ℕ) (entries : List Entry) → follow least entries ≡ true → AllPairs (λ (a b : Entry). a.field < b.field) entries
rising_from least [] f = λ i j d l m. absurd (omega arith)
rising_from least (e ∷ es) f =
    let rest = second_so (nat_le least e.field) (follow (e.field + 1) es) f in
    AllPairs-cons (λ (a b : Entry). a.field < b.field) e es (λ i d l. let later = all_follow (e.field + 1) es rest i d l in omega (arith, later)) (rising_from (e.field + 1) es rest)

follow_from : (least : ℕ) (entries : List Entry) → ((i : ℕ) (d : Entry) → i < length entries → let e : Entry = get_or entries i d in least ≤ e.field) → AllPairs (λ (a b : Entry). a.field < b.field) entries → follow least entries ≡ true
follow_from least [] h rising = refl
follow_from least (e ∷ es) h rising =
    and_from (nat_le least e.field) (follow (e.field + 1) es) (le-leb least e.field (h 0 e (omega arith)))
    (follow_from (e.field + 1) es (λ i d l. let p = rising 0 (suc i) d (omega arith) (omega arith) in omega (arith, p)) (λ i j d l m. rising (suc i) (suc j) d (omega arith) (omega arith)))

within : (n : ℕ) → is_some (room_behind most_bytes n) ≡ true → n ≤ most_bytes
within n e = by (nat_le n 1048576) refl e
  where
    by : (b : Bool) → nat_le n 1048576 ≡ b → is_some (if b then Some (1048576 - n) else None) ≡ true → n ≤ 1048576
    by true f e = leb-true n 1048576 f
    by false f e = cc

says_within : (n : ℕ) → n ≤ most_bytes → is_some (room_behind most_bytes n) ≡ true
says_within n h = ap (λ b. is_some (if b then Some (1048576 - n) else None)) (le-leb n 1048576 h)

pub fit_is : (fields : List Field) (values : List Entry) (b : Bool) → b ≡ fit fields values → (b ≡ true → FitsValues fields values) × (FitsValues fields values → b ≡ true)
fit_is fields values b is =
    let kinds = list_all (fits_entry fields) values in
    let short = is_some (room_behind most_bytes (bytes_of_values values)) in (
      λ e.
          let all = sym is ∙ e in
          let front = first_so (follow 0 values && kinds) short all in
          record {
            rising = rising_from 0 values (first_so (follow 0 values) kinds front);
            kinds = second_so (follow 0 values) kinds front;
            small = within (bytes_of_values values) (second_so (follow 0 values && kinds) short all);
          },
      λ f. is ∙ and_from (follow 0 values && kinds) short (and_from (follow 0 values) kinds (follow_from 0 values (λ i d l. omega arith) f.rising) f.kinds) (says_within (bytes_of_values values) f.small),
    )
