-- A run over lines, and what closes it.
use Rattle.std.proofs.Common.{ℕ, Bool, inl, inr, List, [], ◌++◌, Option, sym, ap, ◌∙◌, subst, append-nil}
use Rattle.serde_json.specs.Data.{Data}
use Rattle.sk_base.specs.declared.command.Command.{Command}
use Rattle.sk_run.specs.declared.response.Response.{Response}
use Rattle.sk_run.specs.declared.response.Printing.{Printing}
use Rattle.sk_run.specs.declared.status.Status.{Status}
use Rattle.sk_run.specs.Lines.{LineByLine}
use Rattle.sk_io.specs.Seen.{Seen}
use Rattle.sk_run.specs.Outsides.{Output, WhereTold}
use Rattle.sk_run.specs.Ends.{AnswersAll, AnswersTaken, AnswersSome, AnswersThrough, Stopped}
use Rattle.sk_run.specs.Sources.{FirstOf, TakenOf, ThroughOf, AllOf, SomeOf}
use Rattle.sk_run.specs.Ended.{Continues, Ended, NotWhole}
use Rattle.sk_run.specs.Closing.{ClosedBy, ClosedOrNot, NeverTaken}
use Rattle.sk_run.proofs.GoOnLemmas.{ended_after, ended_as}
use Rattle.sk_run.specs.Obeying.{Obeyings, ObeysAll, ObeysFirst, ObeysSome, ObeysThrough}

module _ {W S R : Type 0} (Stands : W → S → Type 0) (Closes : S → R → Type 0) (now : W) (a b : List R) where
  -- All lines were answered, and the run was closed.
  pub all_lines : (Answers : S → List ℕ → R → S → Type 0) (start : S) (bytes : List ℕ) (left : Option (List ℕ)) → AnswersThrough Answers Stands now start bytes a left → ClosedBy Stands Closes now b
      → AnswersAll Answers Closes start bytes (a ++ b) left
  all_lines Answers start bytes left t c =
      record { of_lines = a; closing = c.closing; last = t.last; all = ap (λ (w : List R). a ++ w) c.alone; runs = t.runs; closes = c.closes t.last t.at; left = t.left }

  -- All lines were answered, and the run was closed or not.
  pub some_lines : (Answers : S → List ℕ → R → S → Type 0) (start : S) (bytes : List ℕ) (left : Option (List ℕ)) → AnswersThrough Answers Stands now start bytes a left → ClosedOrNot Stands Closes now b
      → AnswersSome Answers Closes start bytes (a ++ b) left
  some_lines Answers start bytes left t (inl none) = record {
    which = inl (record {
      last = t.last;
      pending = [];
      rest = [];
      runs = subst (λ (w : List R). LineByLine Answers start bytes w t.last []) (sym (ap (λ (w : List R). a ++ w) none ∙ append-nil a)) t.runs;
      left = t.left;
    });
  }
  some_lines Answers start bytes left t (inr c) = record { which = inr (all_lines Answers start bytes left t c) }

  -- All commands were obeyed, and the run was closed.
  pub all_commands : (Obeys : S → Command Data → R → S → Type 0) (start : S) (commands : List (Command Data)) → ObeysThrough Obeys Stands now start commands a → ClosedBy Stands Closes now b
      → ObeysAll Obeys Closes start commands (a ++ b)
  all_commands Obeys start commands t c =
      record { of_commands = a; closing = c.closing; last = t.last; all = ap (λ (w : List R). a ++ w) c.alone; runs = t.runs; closes = c.closes t.last t.at }

  pub some_commands : (Obeys : S → Command Data → R → S → Type 0) (start : S) (commands : List (Command Data)) → ObeysThrough Obeys Stands now start commands a → ClosedOrNot Stands Closes now b
      → ObeysSome Obeys Closes start commands (a ++ b)
  some_commands Obeys start commands t (inl none) =
      inl (record { last = t.last; left = []; runs = subst (λ (w : List R). Obeyings Obeys start commands w t.last []) (sym (ap (λ (w : List R). a ++ w) none ∙ append-nil a)) t.runs })
  some_commands Obeys start commands t (inr c) = inr (all_commands Obeys start commands t c)

-- Where answers are printed so.
module _ {W S : Type 0} (printing : Printing) (Stands : W → S → Type 0) (Answers : S → List ℕ → Response → S → Type 0) (Closes : S → Response → Type 0) (first : W) (seen seen' : Seen) where
  -- The lines came to their end, and what closes the run came to its own.
  pub closed_behind : (now : W) (r0 r1 : Bool) (status : Status) (before middle after : Output) → Continues printing (ThroughOf Stands Answers first seen seen'.left now) r0 r1 before middle
      → Ended printing (ClosedBy Stands Closes now) NeverTaken (ClosedOrNot Stands Closes now) r1 status middle after → Ended printing (AllOf Stands Answers Closes first seen seen'.left) (TakenOf Stands Answers first seen seen') (SomeOf Stands Answers Closes first seen seen'.left) r0 status before after
  closed_behind now r0 r1 status before middle after c e =
      ended_after printing (ThroughOf Stands Answers first seen seen'.left now) (ClosedBy Stands Closes now) (AllOf Stands Answers Closes first seen seen'.left) (ClosedOrNot Stands Closes now) (SomeOf Stands Answers Closes first seen seen'.left) NeverTaken (TakenOf Stands Answers first seen seen')
      (λ a b t closed. λ bytes told s at. all_lines Stands Closes now a b Answers s bytes seen'.left (t bytes told s at) closed)
      (λ st a b t never. absurd never)
      (λ a b t closed. λ bytes told s at. some_lines Stands Closes now a b Answers s bytes seen'.left (t bytes told s at) closed)
      r0 r1 before middle after c status e

  -- The lines did not come to their end.
  pub stopped_in : (r0 : Bool) (status : Status) (before after : Output) → Ended printing NotWhole (TakenOf Stands Answers first seen seen') (FirstOf Stands Answers first seen seen'.left) r0 status before after
      → Ended printing (AllOf Stands Answers Closes first seen seen'.left) (TakenOf Stands Answers first seen seen') (SomeOf Stands Answers Closes first seen seen'.left) r0 status before after
  stopped_in r0 status before after e =
      ended_as printing NotWhole (AllOf Stands Answers Closes first seen seen'.left) (FirstOf Stands Answers first seen seen'.left) (SomeOf Stands Answers Closes first seen seen'.left) (TakenOf Stands Answers first seen seen') (TakenOf Stands Answers first seen seen') r0 status before after
      (λ a never. absurd never) (λ st a taken. taken) (λ a come_first. λ bytes told s at. record { which = inl (come_first bytes told s at) }) e

  -- From one state on.
  pub from_one : (start : S) → Stands first start → (r0 : Bool) (status : Status) (before after : Output) → Ended printing (AllOf Stands Answers Closes first seen seen'.left) (TakenOf Stands Answers first seen seen') (SomeOf Stands Answers Closes first seen seen'.left) r0 status before after
      → Ended printing (λ answers. WhereTold seen (λ bytes. AnswersAll Answers Closes start bytes answers seen'.left))
      (λ st answers. Stopped st seen seen' × WhereTold seen (λ bytes. AnswersTaken Answers start bytes answers seen'.left))
      (λ answers. WhereTold seen (λ bytes. AnswersSome Answers Closes start bytes answers seen'.left)) r0 status before after
  from_one start at r0 status before after e =
      ended_as printing (AllOf Stands Answers Closes first seen seen'.left) (λ answers. WhereTold seen (λ bytes. AnswersAll Answers Closes start bytes answers seen'.left))
      (SomeOf Stands Answers Closes first seen seen'.left) (λ answers. WhereTold seen (λ bytes. AnswersSome Answers Closes start bytes answers seen'.left))
      (TakenOf Stands Answers first seen seen') (λ st answers. Stopped st seen seen' × WhereTold seen (λ bytes. AnswersTaken Answers start bytes answers seen'.left)) r0 status before after
      (λ a whole. λ bytes told. whole bytes told start at) (λ st a taken. (taken.0, λ bytes told. taken.1 bytes told start at)) (λ a some. λ bytes told. some bytes told start at) e

-- The commands of a demonstration, and what closes it.
module _ {W S : Type 0} (printing : Printing) (Stands : W → S → Type 0) (Obeys : S → Command Data → Response → S → Type 0) (Closes : S → Response → Type 0) (start : S) (commands : List (Command Data)) where
  pub demo_closed : (now : W) (r0 r1 : Bool) (status : Status) (before middle after : Output) → Continues printing (ObeysThrough Obeys Stands now start commands) r0 r1 before middle
      → Ended printing (ClosedBy Stands Closes now) NeverTaken (ClosedOrNot Stands Closes now) r1 status middle after
      → Ended printing (ObeysAll Obeys Closes start commands) NeverTaken (ObeysSome Obeys Closes start commands) r0 status before after
  demo_closed now r0 r1 status before middle after c e =
      ended_after printing (ObeysThrough Obeys Stands now start commands) (ClosedBy Stands Closes now) (ObeysAll Obeys Closes start commands) (ClosedOrNot Stands Closes now) (ObeysSome Obeys Closes start commands) NeverTaken NeverTaken
      (λ a b t closed. all_commands Stands Closes now a b Obeys start commands t closed) (λ st a b t never. absurd never) (λ a b t closed. some_commands Stands Closes now a b Obeys start commands t closed)
      r0 r1 before middle after c status e

  pub demo_stopped : (r0 : Bool) (status : Status) (before after : Output) → Ended printing NotWhole NeverTaken (ObeysFirst Obeys start commands) r0 status before after
      → Ended printing (ObeysAll Obeys Closes start commands) NeverTaken (ObeysSome Obeys Closes start commands) r0 status before after
  demo_stopped r0 status before after e =
      ended_as printing NotWhole (ObeysAll Obeys Closes start commands) (ObeysFirst Obeys start commands) (ObeysSome Obeys Closes start commands) NeverTaken NeverTaken r0 status before after
      (λ a never. absurd never) (λ st a taken. taken) (λ a come_first. inl come_first) e
