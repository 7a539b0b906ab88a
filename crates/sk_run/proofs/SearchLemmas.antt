-- The lines of the input behind those of the records.
use Rattle.std.proofs.Common.{◌≡◌, ℕ, Bool, ◌⊎◌, inl, inr, List, ◌++◌, Option, refl}
use Rattle.sk_run.specs.declared.response.Response.{Response}
use Rattle.sk_run.specs.declared.response.Printing.{Printing}
use Rattle.sk_run.specs.declared.status.Status.{Status}
use Rattle.sk_io.specs.Seen.{Seen}
use Rattle.sk_run.specs.Outsides.{Output, WhereTold}
use Rattle.sk_run.specs.Ends.{AnswersAll, AnswersTaken, AnswersFirst, AnswersSome, AnswersThrough, Stopped}
use Rattle.sk_run.specs.Sources.{FirstOf, TakenOf, ThroughOf, AllOf, SomeOf}
use Rattle.sk_run.specs.Ended.{Continues, Ended, NotWhole}
use Rattle.sk_run.specs.ByForm.{BehindRecords}
use Rattle.sk_run.proofs.GoOnLemmas.{ended_after, ended_as}

module _ {W S R : Type 0} (Stands : W → S → Type 0) (Answers : S → List ℕ → R → S → Type 0) (first now : W) (start : S) (at : Stands first start) (records input : Seen) (left : Option (List ℕ)) (a b : List R)
    (through : WhereTold records (λ bytes. (s : S) → Stands first s → AnswersThrough Answers Stands now s bytes a left)) where
  -- What goes on from each state behind the records goes on from one of them.
  pub behind : (GoesOn : List ℕ → S → List R → Type 0) → WhereTold input (λ bytes. (s : S) → Stands now s → GoesOn bytes s b)
      → WhereTold records (λ lines. WhereTold input (λ bytes. BehindRecords Answers start lines (a ++ b) left (GoesOn bytes)))
  behind GoesOn goes_on = λ lines told_lines bytes told.
      let t = through lines told_lines start at in
      record { of_records = a; others = b; middle = t.last; parts = refl; runs = t.runs; left = t.left; goes_on = goes_on bytes told t.last t.at }

-- Where answers are printed so.
module _ {W S : Type 0} (printing : Printing) (Stands : W → S → Type 0) (Commands Asked : S → List ℕ → Response → S → Type 0) (Closes : S → Response → Type 0) (first : W) (start : S) (at : Stands first start) (records records' input input' : Seen) where
  abbrev Behind : (S → List ℕ → List Response → Type 0) → List Response → Type 0
  Behind GoesOn answers = WhereTold records (λ lines. WhereTold input (λ bytes. BehindRecords Commands start lines answers records'.left (λ middle others. GoesOn middle bytes others)))

  abbrev pub SearchedAll : List Response → Type 0
  SearchedAll answers = Behind (λ middle bytes others. AnswersAll Asked Closes middle bytes others input'.left) answers

  abbrev pub SearchedCut : Status → List Response → Type 0
  SearchedCut status answers =
      (Stopped status records records' × (input' ≡ input) × WhereTold records (λ lines. AnswersTaken Commands start lines answers records'.left))
      ⊎ (Stopped status input input' × Behind (λ middle bytes others. AnswersTaken Asked middle bytes others input'.left) answers)

  abbrev pub SearchedFirst : List Response → Type 0
  SearchedFirst answers =
      ((input' ≡ input) × WhereTold records (λ lines. AnswersFirst Commands start lines answers records'.left))
      ⊎ Behind (λ middle bytes others. AnswersSome Asked Closes middle bytes others input'.left) answers

  -- The records came to their end, and the input to its own.
  pub searched : (now : W) (r0 r1 : Bool) (status : Status) (before middle after : Output) → Continues printing (ThroughOf Stands Commands first records records'.left now) r0 r1 before middle
      → Ended printing (AllOf Stands Asked Closes now input input'.left) (TakenOf Stands Asked now input input') (SomeOf Stands Asked Closes now input input'.left) r1 status middle after
      → Ended printing SearchedAll SearchedCut SearchedFirst r0 status before after
  searched now r0 r1 status before middle after c e =
      ended_after printing (ThroughOf Stands Commands first records records'.left now) (AllOf Stands Asked Closes now input input'.left) SearchedAll (SomeOf Stands Asked Closes now input input'.left) SearchedFirst
      (TakenOf Stands Asked now input input') SearchedCut
      (λ a b t all. behind Stands Commands first now start at records input records'.left a b t (λ bytes middle others. AnswersAll Asked Closes middle bytes others input'.left) all)
      (λ st a b t taken. inr (taken.0, behind Stands Commands first now start at records input records'.left a b t (λ bytes middle others. AnswersTaken Asked middle bytes others input'.left) taken.1))
      (λ a b t some. inr (behind Stands Commands first now start at records input records'.left a b t (λ bytes middle others. AnswersSome Asked Closes middle bytes others input'.left) some))
      r0 r1 before middle after c status e

  -- The records did not come to their end, and the input was not touched.
  pub not_searched : input' ≡ input → (r0 : Bool) (status : Status) (before after : Output)
      → Ended printing NotWhole (TakenOf Stands Commands first records records') (FirstOf Stands Commands first records records'.left) r0 status before after
      → Ended printing SearchedAll SearchedCut SearchedFirst r0 status before after
  not_searched same r0 status before after e =
      ended_as printing NotWhole SearchedAll (FirstOf Stands Commands first records records'.left) SearchedFirst (TakenOf Stands Commands first records records') SearchedCut r0 status before after
      (λ a never. absurd never) (λ st a taken. inl (taken.0, same, λ lines told. taken.1 lines told start at)) (λ a come_first. inl (same, λ lines told. come_first lines told start at)) e
