-- The members that fields of different names have are different members, so their strings are no longer than those of all members.
use Rattle.std.proofs.Common.{◌≡◌, ◌≤◌, ◌+◌, ℕ, Bool, true, false, not, List, [], ◌∷◌, Option, Some, None, Ordering, Less, Equal, Greater, nat_cmp, is_eq, bytes_eq, true≢false, refl, sym, ap, ◌∙◌, arith}
use Rattle.std.specs.List.{AllByRecursion, list_all}
use Rattle.std.specs.Ordering.{match_ordering}
use Rattle.std.specs.Cmp.Lexicographic.{slice_cmp}
use Rattle.std.proofs.lemmas.Map.Text.{is_eq-slice_cmp}
use Rattle.std.proofs.lemmas.Slice.Eq.{bytes_eq-Decides}
use Rattle.sk_base.proofs.Tests.{first_so, second_so}
use Rattle.serde_json.specs.Data.{Data, null, boolean, number, string, array, object, Members, no_members, member}
use Rattle.serde_json.specs.Find.{get, get_member}
use Rattle.sk_base.specs.declared.schema.Field.{Field}
use Rattle.sk_base.specs.Fields.{clash, kinds_clash, are_apart}
use Rattle.sk_json.specs.Values.{bytes_in, bytes_in_members}
use Rattle.sk_record.proofs.Choices.{first_false}

-- how many bytes the strings of a member have, if it is there
abbrev pub bytes_at : Option Data → ℕ
bytes_at None = 0
bytes_at (Some d) = bytes_in d

-- how many bytes the strings of the members have that the fields name
abbrev pub named_bytes : List Field → Data → ℕ
named_bytes [] d = 0
named_bytes (field ∷ more) d = bytes_at (get field.name d) + named_bytes more d

outer : (o : Ordering) (a b : Option Data) → is_eq o ≡ false → match_ordering o a b a ≡ a
outer Less a b e = refl
outer Equal a b e = absurd (true≢false e)
outer Greater a b e = refl

differ : (xs ys : List ℕ) (b : Bool) → bytes_eq xs ys ≡ b → (xs ≡ ys → ⊥) → b ≡ false
differ xs ys true e other = absurd (other ((bytes_eq-Decides xs ys).0 e))
differ xs ys false e other = refl

pub other_member : (q k : List ℕ) (d : Data) (ms : Members) → (q ≡ k → ⊥) → get_member q (member k d ms) ≡ get_member q ms
other_member q k d ms other = outer (slice_cmp nat_cmp q k) _ _ (is_eq-slice_cmp q k ∙ differ q k _ refl other)

-- of these fields each has the member that it has without the first
abbrev pub PassBy : List Field → List ℕ → Data → Members → Type 0
PassBy fields k d ms = AllByRecursion (λ (g : Field). get_member g.name (member k d ms) ≡ get_member g.name ms) fields

-- fields that do not clash with the one of this name have other names
pub passes_by : (f : Field) (more : List Field) (k : List ℕ) (d : Data) (ms : Members) → f.name ≡ k → list_all (λ other. not (clash f other)) more ≡ true → PassBy more k d ms
passes_by f [] k d ms is apart = tt
passes_by f (g ∷ more) k d ms is apart =
    let unlike : bytes_eq f.name g.name ≡ false = first_false (bytes_eq f.name g.name) (kinds_clash f.kind g.kind) (first_so (not (clash f g)) (list_all (λ other. not (clash f other)) more) apart) in (
      other_member g.name k d ms (λ same. true≢false (sym ((bytes_eq-Decides f.name g.name).1 (is ∙ sym same)) ∙ unlike)),
      passes_by f more k d ms is (second_so (not (clash f g)) (list_all (λ other. not (clash f other)) more) apart),
    )

bytes_passed : (fields : List Field) (k : List ℕ) (d : Data) (ms : Members) → PassBy fields k d ms → named_bytes fields (object (member k d ms)) ≡ named_bytes fields (object ms)
bytes_passed [] k d ms by = refl
bytes_passed (g ∷ more) k d ms by = λ i. bytes_at (by.0 i) + bytes_passed more k d ms by.1 i

same_name : (q k : List ℕ) → slice_cmp nat_cmp q k ≡ Equal → q ≡ k
same_name q k e = (bytes_eq-Decides q k).0 (sym (is_eq-slice_cmp q k) ∙ ap is_eq e)

one_member : (fields : List Field) (k : List ℕ) (d : Data) (ms : Members) → are_apart fields ≡ true
    → named_bytes fields (object (member k d ms)) ≤ bytes_in d + named_bytes fields (object ms)
one_member [] k d ms apart = omega arith
one_member (f ∷ more) k d ms apart =
    let later : bytes_at (get_member f.name ms) + named_bytes more (object (member k d ms)) ≤ bytes_in d + (bytes_at (get_member f.name ms) + named_bytes more (object ms)) =
    let rest = one_member more k d ms (second_so (list_all (λ other. not (clash f other)) more) (are_apart more) apart) in omega (arith, rest) in
    elim (slice_cmp nat_cmp f.name k) as (λ o. slice_cmp nat_cmp f.name k ≡ o
    → bytes_at (match_ordering o (get_member f.name ms) (Some d) (get_member f.name ms)) + named_bytes more (object (member k d ms)) ≤ bytes_in d + (bytes_at (get_member f.name ms) + named_bytes more (object ms))) [
      | Less ↦ λ e. later
      | Equal ↦ λ e. let rest = bytes_passed more k d ms (passes_by f more k d ms (same_name f.name k e) (first_so (list_all (λ other. not (clash f other)) more) (are_apart more) apart)) in omega (arith, rest)
      | Greater ↦ λ e. later
    ] refl

none_named : (fields : List Field) → named_bytes fields (object no_members) ≡ 0
none_named [] = refl
none_named (f ∷ more) = let rest = none_named more in omega (arith, rest)

members_hold : (fields : List Field) (ms : Members) → are_apart fields ≡ true → named_bytes fields (object ms) ≤ bytes_in_members ms
members_hold fields no_members apart = let none = none_named fields in omega (arith, none)
members_hold fields (member k d ms) apart =
    let one = one_member fields k d ms apart in
    let rest = members_hold fields ms apart in
    omega (arith, one, rest)

none_at : (fields : List Field) (d : Data) → ((name : List ℕ) → get name d ≡ None) → named_bytes fields d ≤ 0
none_at [] d none = omega arith
none_at (f ∷ more) d none = let here = ap bytes_at (none f.name) in let rest = none_at more d none in omega (arith, here, rest)

pub named_hold : (fields : List Field) (d : Data) → are_apart fields ≡ true → named_bytes fields d ≤ bytes_in d
named_hold fields null apart = none_at fields null (λ name. refl)
named_hold fields (boolean b) apart = none_at fields (boolean b) (λ name. refl)
named_hold fields (number n) apart = none_at fields (number n) (λ name. refl)
named_hold fields (string s) apart = let none = none_at fields (string s) (λ name. refl) in omega (arith, none)
named_hold fields (array ds) apart = let none = none_at fields (array ds) (λ name. refl) in omega (arith, none)
named_hold fields (object ms) apart = members_hold fields ms apart
