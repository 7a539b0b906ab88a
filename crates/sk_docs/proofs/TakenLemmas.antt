-- What is taken of the values of a record, and what is left of them.
use Rattle.std.proofs.Common.{◌≡◌, ◌<◌, ◌≤◌, ◌+◌, ◌==◌, ℕ, false, List, [], ◌∷◌, ◌++◌, cond, fold, refl, sym, ap, ◌∙◌, All, AllPairs, arith}
use Rattle.std.proofs.lemmas.Bool.Decides.{nat_tests}
use Rattle.std.proofs.lemmas.List.Elements.{All-head, All-tail, All-cons, All-weaker}
use Rattle.std.proofs.lemmas.List.Sums.{fold-append}
use Rattle.std.specs.Prelude.{Some, None}
use Rattle.sk_base.specs.declared.record.Entry.{Entry}
use Rattle.sk_model.specs.Documents.{value_at}
use Rattle.sk_docs.specs.Taken.{StandFrom}
use Rattle.sk_docs.proofs.PairLemmas.{pairs_head, pairs_tail}

other_place : (place field : ℕ) → place < field → (field == place) ≡ false
other_place place field lt = grind (arith, nat_tests)

-- the place of an entry is not that of another field
passed : (place : ℕ) (entry : Entry) (entries : List Entry) → (entry.field == place) ≡ false → value_at place (entry ∷ entries) ≡ value_at place entries
passed place entry entries other = ap (λ b. cond b (Some entry.value) (value_at place entries)) other

-- all stand behind the place
none_given : (place : ℕ) (entries : List Entry) → All (λ e. place < e.field) entries → value_at place entries ≡ None
none_given place [] behind = refl
none_given place (entry ∷ entries) behind =
    passed place entry entries (other_place place entry.field (All-head (λ (e : Entry). place < e.field) entry entries behind))
    ∙ none_given place entries (All-tail (λ (e : Entry). place < e.field) entry entries behind)

-- the first of them is taken
pub stand_rest : (place : ℕ) (entry : Entry) (entries : List Entry) → entry.field ≡ place → StandFrom place (entry ∷ entries) → StandFrom (place + 1) entries
stand_rest place entry entries here stand = record {
  rising = pairs_tail (λ (a b : Entry). a.field < b.field) entry entries stand.rising;
  from = All-weaker (λ (e : Entry). entry.field < e.field) (λ e. place + 1 ≤ e.field) (λ e lt. omega (arith, here)) entries (pairs_head (λ (a b : Entry). a.field < b.field) entry entries stand.rising);
}

-- the first of them stands behind the place
pub stand_behind : (place : ℕ) (entry : Entry) (entries : List Entry) → (entry.field ≡ place → ⊥) → StandFrom place (entry ∷ entries) → StandFrom (place + 1) (entry ∷ entries)
stand_behind place entry entries other stand =
    let at_least = All-head (λ (e : Entry). place ≤ e.field) entry entries stand.from in
    let first : place + 1 ≤ entry.field = grind (arith) in
    record {
      rising = stand.rising;
      from = All-cons (λ (e : Entry). place + 1 ≤ e.field) entry entries first
          (All-weaker (λ (e : Entry). entry.field < e.field) (λ e. place + 1 ≤ e.field) (λ e lt. omega (arith, first)) entries (pairs_head (λ (a b : Entry). a.field < b.field) entry entries stand.rising));
    }

-- where all stand behind the place, nothing is given for its field
pub none_here : (place : ℕ) (entries : List Entry) → StandFrom (place + 1) entries → value_at place entries ≡ None
none_here place entries stand = none_given place entries (All-weaker (λ (e : Entry). place + 1 ≤ e.field) (λ e. place < e.field) (λ e le. omega arith) entries stand.from)

-- all of them stand from 0 on
stand_all : (entries : List Entry) → AllPairs (λ (a b : Entry). a.field < b.field) entries → StandFrom 0 entries
stand_all entries rising = record { rising = rising; from = λ k d lt. omega arith }

-- ---- what is left of the values at a place

-- those that are left stand at this place or behind, and none for a field from there on is missing
pub record Left (place : ℕ) (left values : List Entry) : Type 0 where
  pub stand : StandFrom place left
  pub same : (later : ℕ) → place ≤ later → value_at later left ≡ value_at later values

pub left_starts : (values : List Entry) → AllPairs (λ (a b : Entry). a.field < b.field) values → Left 0 values values
left_starts values rising = record { stand = stand_all values rising; same = λ later le. refl }

pub left_goes_on : (place : ℕ) (left rest values : List Entry) → Left place left values → StandFrom (place + 1) rest → ((later : ℕ) → place < later → value_at later rest ≡ value_at later left)
    → Left (place + 1) rest values
left_goes_on place left rest values far stand same = record { stand = stand; same = λ later le. same later (omega arith) ∙ far.same later (omega arith) }

-- what is given at the place is among them
pub left_gives : (place : ℕ) (left values : List Entry) → Left place left values → value_at place left ≡ value_at place values
left_gives place left values far = far.same place (omega arith)

-- what a field gives, folded into what the fields before it gave
pub field_folded : {A B : Type 0} (g : B → A → B) (now new end : B) (own more all : List A) → new ≡ fold g now own → all ≡ own ++ more → fold g now all ≡ end → fold g new more ≡ end
field_folded g now new end own more all put split whole =
    ap (λ b. fold g b more) put ∙ sym (fold-append g now own more) ∙ ap (fold g now) (sym split) ∙ whole
