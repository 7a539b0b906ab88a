-- The commands of a demonstration, and how far it has come.
use Rattle.std.proofs.Common.{◌≡◌, ◌≤◌, ◌<◌, ◌+◌, ◌-◌, ◌*◌, ◌%◌, ◌^◌, ℕ, zero, suc, Bool, true, false, ◌||◌, ◌==◌, nat_le, if◌then◌else◌, inl, inr, List, [], ◌∷◌, ◌++◌, length, Option, Some, None, codes, decimal, refl, sym, ap, ◌∙◌, subst, arith, append_assoc, append-nil, length-append, flat_map, AllPairs}
use Rattle.std.specs.Io.KnownBytes.{Appends}
use Rattle.std.proofs.KnownBytes.{Appends-nil}
use Rattle.std.proofs.lemmas.Fmt.{length-decimal-le}
use Rattle.std.proofs.lemmas.List.Sums.{sum_by-append}
use Rattle.std.proofs.lemmas.Bool.Decides.{nat_tests}
use Rattle.serde_json.specs.Data.{Data}
use Rattle.sk_base.specs.declared.command.Command.{Command}
use Rattle.sk_base.specs.declared.command.FlightCommand.{FlightCommand}
use Rattle.sk_base.specs.declared.command.Question.{Question}
use Rattle.sk_base.specs.declared.find.Ask.{Ask}
use Rattle.sk_base.specs.declared.find.Find.{Find}
use Rattle.sk_base.specs.Commands.{FitsFlight, FitsQuestion, flight_over, question_over, command_over}
use Rattle.sk_base.specs.declared.record.Edit.TheVariants as Edit
use Rattle.sk_base.specs.declared.record.Entry.{Entry}
use Rattle.sk_base.specs.declared.schema.Schema.{Schema}
use Rattle.sk_base.specs.Fields.{IsSchema}
use Rattle.sk_base.specs.Finds.{FitsAsk, FitsFind, ask_over, find_over}
use Rattle.sk_base.specs.Records.{FitsValues}
use Rattle.sk_record.specs.Outcome.{MayCome}
use Rattle.sk_io.specs.Causes.{Rose}
use Rattle.sk_io.specs.Fronts.{AppendsPrefix}
use Rattle.sk_run.specs.declared.response.Response.{Response}
use Rattle.sk_run.specs.declared.response.Printing.{Printing}
use Rattle.sk_run.specs.Responses.{text_under, reads_of}
use Rattle.sk_run.specs.declared.status.Status.{Status}
use Rattle.sk_run.specs.Lines.{IsReached}
use Rattle.sk_run.specs.Machines.{schema_behind}
use Rattle.sk_run.specs.Outsides.{Output}
use Rattle.sk_run.specs.Ended.{BreaksOff, RunsOut, Continues, Ended, NotWhole}
use Rattle.sk_run.specs.Closing.{NeverTaken}
use Rattle.sk_run.specs.Waiting.{PutsLast, Joins, FailsWithin, FailsToPut, JoinsNot}
use Rattle.sk_run.proofs.WaitingLemmas.{moves_last, moves_prefix, puts_front}
use Rattle.sk_run.proofs.RunLemmas.{IsPut, none_put, put_more, put_in_part, rose_since}
use Rattle.sk_run.specs.Obeying.{Obeyings, rest, obey, ObeysFirst, ObeysThrough}
use Rattle.sk_run.specs.Demos.{demo_schema, alls, demo_body, demo_record, demo_find, demo_command, demo_commands_from, demo_commands}

-- The schema before the command at a place.
abbrev pub schema_before : ℕ → Option Schema
schema_before place = if place == 0 then None else Some demo_schema

schema_fits : IsSchema demo_schema
schema_fits = record { sound = refl; some = omega arith; few = omega arith }

find_fits : (place : ℕ) → FitsFind (demo_find place)
find_fits zero = record { ask = omega arith; paging = record { page = omega arith; collapse = tt } }
find_fits (suc zero) = record { ask = omega arith; paging = record { page = omega arith; collapse = tt } }
find_fits (suc (suc zero)) = record { ask = omega arith; paging = record { page = omega arith; collapse = tt } }
find_fits (suc (suc (suc zero))) = record { ask = omega arith; paging = record { page = omega arith; collapse = omega arith } }
find_fits (suc (suc (suc (suc n)))) = record { ask = omega arith; paging = record { page = omega arith; collapse = tt } }

alls_length : (k : ℕ) → length (alls k) ≡ 4 * k
alls_length zero = refl
alls_length (suc k) = omega (arith, length-append (alls k) (codes " all"), alls_length k)

-- One time more.
pub alls_more : (s t b : List ℕ) (k : ℕ) → s ≡ b ++ alls k → t ≡ s ++ codes " all" → t ≡ b ++ alls (k + 1)
alls_more s t b k so more =
    let e : k + 1 ≡ suc k = omega arith in
    more ∙ ap (λ (w : List ℕ). w ++ codes " all") so ∙ append_assoc b (alls k) (codes " all") ∙ ap (λ (n : ℕ). b ++ alls n) (sym e)

short_decimal : (i n k : ℕ) → 0 < n → n ≤ 10 ^ k → 0 < k → n < 2 ^ 64 → length (decimal (i % n)) ≤ k
short_decimal i n k some fits digits small =
    let below : i % n < n = omega arith in
    length-decimal-le k (i % n) digits (omega (arith, below, fits)) (omega (arith, below, small))

body_length : (i : ℕ) → length (demo_body i) ≤ 100
body_length i =
    let d = short_decimal i 10 1 (omega arith) (omega arith) (omega arith) (omega arith) in
    let h = short_decimal i 100 2 (omega arith) (omega arith) (omega arith) (omega arith) in
    let k = short_decimal i 1000 3 (omega arith) (omega arith) (omega arith) (omega arith) in
    let few : i % 7 < 7 = omega arith in
    let ks = length-append (codes " k") (decimal (i % 1000)) in
    let hs = length-append (decimal (i % 100)) (codes " k" ++ decimal (i % 1000)) in
    let hh = length-append (codes " h") (decimal (i % 100) ++ (codes " k" ++ decimal (i % 1000))) in
    let ds = length-append (decimal (i % 10)) (codes " h" ++ (decimal (i % 100) ++ (codes " k" ++ decimal (i % 1000)))) in
    let dd = length-append (codes "all d") (decimal (i % 10) ++ (codes " h" ++ (decimal (i % 100) ++ (codes " k" ++ decimal (i % 1000))))) in
    let all = length-append (codes "all d" ++ (decimal (i % 10) ++ (codes " h" ++ (decimal (i % 100) ++ (codes " k" ++ decimal (i % 1000)))))) (alls (i % 7)) in
    omega (arith, d, h, k, few, ks, hs, hh, ds, dd, all, alls_length (i % 7))

site_length : (i : ℕ) → length (codes "s" ++ decimal (i % 50)) ≤ 3
site_length i = omega (arith, length-append (codes "s") (decimal (i % 50)), short_decimal i 50 2 (omega arith) (omega arith) (omega arith) (omega arith))

-- The entries stand by rising place.
rising : (i : ℕ) → AllPairs (λ (a b : Entry). a.field < b.field) (demo_record i).values
rising n zero zero d h l = absurd (omega (arith, h))
rising n zero (suc zero) d h l = omega arith
rising n zero (suc (suc zero)) d h l = omega arith
rising n zero (suc (suc (suc j))) d h l = absurd (omega (arith, l))
rising n (suc zero) zero d h l = absurd (omega (arith, h))
rising n (suc zero) (suc zero) d h l = absurd (omega (arith, h))
rising n (suc zero) (suc (suc zero)) d h l = omega arith
rising n (suc zero) (suc (suc (suc j))) d h l = absurd (omega (arith, l))
rising n (suc (suc i)) j d h l = absurd (omega (arith, h, l))

record_fits : (i : ℕ) → FitsValues demo_schema.fields (demo_record i).values
record_fits i = record { rising = rising i; kinds = refl; small = omega (arith, body_length i, site_length i) }

-- Each command may come behind those before it.
pub comes : (documents place : ℕ) → MayCome (schema_before place) (demo_command documents place)
comes documents place =
    elim (place == 0) as (λ b. MayCome (if b then None else Some demo_schema) (if b then Command.Schema demo_schema 1 else (if nat_le place documents then Command.Edit (Edit.Add (demo_record place)) else Command.Ask (Question.Find (demo_find (place - documents - 1)))))) [
      | true ↦ (schema_fits, record { some = omega arith; few = omega arith })
      | false ↦ elim (nat_le place documents) as (λ b. MayCome (Some demo_schema) (if b then Command.Edit (Edit.Add (demo_record place)) else Command.Ask (Question.Find (demo_find (place - documents - 1))))) [
        | true ↦ record_fits place
        | false ↦ find_fits (place - documents - 1)
      ]
    ]

ask_fits : {A B : Type 0} (f : A → B) (ask : Ask A) → FitsAsk (ask_over f ask) → FitsAsk ask
ask_fits f (Ask.Text text join) fits = fits
ask_fits f (Ask.Tree tree) fits = tt

find_as : {A B : Type 0} (f : A → B) (find : Find A) → FitsFind (find_over f find) → FitsFind find
find_as f find fits = record { ask = ask_fits f find.ask fits.ask; paging = fits.paging }

question_fits : {A B : Type 0} (f : A → B) (question : Question A) → FitsQuestion (question_over f question) → FitsQuestion question
question_fits f (Question.Find find) fits = find_as f find fits
question_fits f (Question.Show text join) fits = fits
question_fits f (Question.Facets facets) fits = fits

flight_fits : {A B : Type 0} (f : A → B) (command : FlightCommand A) → FitsFlight (flight_over f command) → FitsFlight command
flight_fits f (FlightCommand.Open find) fits = find_as f find fits
flight_fits f (FlightCommand.Turn number times) fits = fits
flight_fits f (FlightCommand.Close number) fits = tt
flight_fits f (FlightCommand.Drop number) fits = tt

-- A command may come where what it stands for may.
pub comes_as : {A B : Type 0} (f : A → B) (schema : Option Schema) (command : Command A) → MayCome schema (command_over f command) → MayCome schema command
comes_as f None (Command.Schema given parts) may = may
comes_as f None (Command.Edit edit) may = may
comes_as f None (Command.Ask question) may = may
comes_as f None (Command.Flight asked) may = may
comes_as f (Some schema) (Command.Schema given parts) may = may
comes_as f (Some schema) (Command.Edit edit) may = may
comes_as f (Some schema) (Command.Ask question) may = question_fits f question may
comes_as f (Some schema) (Command.Flight asked) may = flight_fits f asked may

-- It leaves the schema that what it stands for leaves.
pub behind_as : {A B : Type 0} (f : A → B) (schema : Option Schema) (command : Command A) → schema_behind schema command ≡ schema_behind schema (command_over f command)
behind_as f None (Command.Schema given parts) = refl
behind_as f None (Command.Edit edit) = refl
behind_as f None (Command.Ask question) = refl
behind_as f None (Command.Flight asked) = refl
behind_as f (Some schema) command = refl

-- The schema behind each command is that before the next.
pub next_schema : (documents place : ℕ) → schema_behind (schema_before place) (demo_command documents place) ≡ schema_before (place + 1)
next_schema documents place =
    let later : ((place + 1) == 0) ≡ false = grind (arith, nat_tests) in
    let kept : schema_behind (schema_before place) (demo_command documents place) ≡ Some demo_schema =
    elim (place == 0) as (λ b. schema_behind (if b then None else Some demo_schema) (if b then Command.Schema demo_schema 1 else (if nat_le place documents then Command.Edit (Edit.Add (demo_record place)) else Command.Ask (Question.Find (demo_find (place - documents - 1))))) ≡ Some demo_schema) [
      | true ↦ refl
      | false ↦ refl
    ] in
    kept ∙ sym (ap (λ b. if b then None else Some demo_schema) later)

-- For answers that have these texts, refuse their commands so and tell of so many readings, and a machine that stands for states, where a command may be answered so; from a state on.
module _ {W S : Type 0} (printing : Printing) (Stands : W → S → Type 0) (Obeys : S → Command Data → Response → S → Type 0) (start : S) (documents : ℕ) where
  -- The commands from a place on.
  abbrev from : ℕ → List (Command Data)
  from place = demo_commands_from documents place (documents + 6 - place)

  -- The commands before a place were obeyed, and their answers put, but for what waits, and counted.
  pub record DemoSoFar (held0 : Option (List ℕ)) (steps0 place : ℕ) (waiting : List ℕ) (held : Option (List ℕ)) (machine : W) (refused : Bool) (steps : ℕ) : Type 0 where
    pub answers : List Response
    pub put : IsPut printing answers waiting held0 held false refused steps0 steps
    pub state : S
    pub at : Stands machine state
    pub goes_on : (more : List Response) (last : S) (left : List (Command Data)) → Obeyings Obeys state (from place) more last left → Obeyings Obeys start (demo_commands documents) (answers ++ more) last left

  pub demo_none : (waiting : List ℕ) (held : Option (List ℕ)) (machine : W) (steps : ℕ) → waiting ≡ [] → Stands machine start → DemoSoFar held steps 0 waiting held machine false steps
  demo_none waiting held machine steps none at = record {
    answers = [];
    put = none_put printing waiting held false steps none;
    state = start;
    at = at;
    goes_on = λ more last left runs. subst (λ (n : ℕ). Obeyings Obeys start (demo_commands_from documents 0 n) more last left) (omega arith) runs;
  }

  first_from : (place : ℕ) → place < documents + 6 → from place ≡ demo_command documents place ∷ from (place + 1)
  first_from place inside = let more : documents + 6 - place ≡ suc (documents + 6 - (place + 1)) = omega arith in ap (demo_commands_from documents place) more

  -- Nothing was obeyed.
  pub demo_at_once : (before after : Output) → after ≡ before → RunsOut printing (ObeysFirst Obeys start (demo_commands documents)) before after
  demo_at_once before after same =
      subst (RunsOut printing (ObeysFirst Obeys start (demo_commands documents)) before) (sym same)
      (record { answers = []; put = Appends-nil before.sink.held; steps = omega arith; finishes = refl; lines = record { last = start; left = demo_commands documents; runs = rest } })

  -- One command more was obeyed, and its answer joined what waits.
  pub demo_more : (held0 : Option (List ℕ)) (steps0 place : ℕ) (waiting waiting' : List ℕ) (machine machine' : W) (refused more : Bool) (before after : Output) (command : Command Data)
      → place < documents + 6 → DemoSoFar held0 steps0 place waiting before.sink.held machine refused before.steps → command ≡ demo_command documents place
      → Joins printing (λ answer. (s : S) → Stands machine s → IsReached Stands (Obeys s command answer) machine') waiting waiting' more before after
      → DemoSoFar held0 steps0 (place + 1) waiting' after.sink.held machine' (refused || more) after.steps
  demo_more held0 steps0 place waiting waiting' machine machine' refused more before after command inside so is joins =
      let met : IsReached Stands (Obeys so.state command joins.answer) machine' = joins.allowed so.state so.at in
      record {
        answers = so.answers ++ joins.answer ∷ [];
        put = put_more printing so.answers waiting waiting' held0 before.sink.held after.sink.held false refused (refused || more) steps0 before.steps after.steps joins.answer so.put joins.moves (ap (λ b. refused || b) joins.refusal) joins.paid;
        state = met.next;
        at = met.at;
        goes_on = λ rest_of last left runs.
            subst (λ (all : List Response). Obeyings Obeys start (demo_commands documents) all last left) (sym (append_assoc so.answers (joins.answer ∷ []) rest_of))
            (so.goes_on (joins.answer ∷ rest_of) last left
            (subst (λ (cs : List (Command Data)). Obeyings Obeys so.state cs (joins.answer ∷ rest_of) last left) (sym (first_from place inside))
            (subst (λ (c : Command Data). Obeyings Obeys so.state (c ∷ from (place + 1)) (joins.answer ∷ rest_of) last left) is (obey met.allowed runs))));
      }

  -- For what was answered so far.
  module _ (place : ℕ) (waiting : List ℕ) (machine : W) (refused : Bool) (before middle after : Output) (so : DemoSoFar before.sink.held before.steps place waiting middle.sink.held machine refused middle.steps)
      (same : middle.sink.finishes ≡ before.sink.finishes) (since : before.sink.faults ≤ middle.sink.faults) where
    stops_at : Obeyings Obeys start (demo_commands documents) so.answers so.state (from place)
    stops_at = subst (λ (all : List Response). Obeyings Obeys start (demo_commands documents) all so.state (from place)) (append-nil so.answers) (so.goes_on [] so.state (from place) rest)

    first_ones : ObeysFirst Obeys start (demo_commands documents) so.answers
    first_ones = record { last = so.state; left = from place; runs = stops_at }

    lost : Appends middle.sink.held after.sink.held waiting → middle.steps ≤ after.steps → after.sink.finishes ≡ middle.sink.finishes → RunsOut printing (ObeysFirst Obeys start (demo_commands documents)) before after
    lost put later still = record {
      answers = so.answers;
      put = moves_last (flat_map (text_under printing) so.answers) waiting before.sink.held middle.sink.held after.sink.held so.put.put put;
      steps = omega (arith, so.put.paid, later);
      finishes = still ∙ same;
      lines = first_ones;
    }

    unput : AppendsPrefix middle.sink.held after.sink.held waiting → after.steps ≡ middle.steps → after.sink.finishes ≡ middle.sink.finishes → BreaksOff printing (ObeysFirst Obeys start (demo_commands documents)) before after
    unput prefix paid still = record {
      answers = so.answers;
      put = puts_front (text_under printing) so.answers before.sink.held after.sink.held (moves_prefix (flat_map (text_under printing) so.answers) waiting before.sink.held middle.sink.held after.sink.held so.put.put prefix);
      steps = paid ∙ so.put.paid;
      finishes = inl (still ∙ same);
      lines = first_ones;
    }

    -- The sink failed within what waited.
    pub demo_unput : AppendsPrefix middle.sink.held after.sink.held waiting → after.steps ≡ middle.steps → after.sink.finishes ≡ middle.sink.finishes → Rose middle.sink.faults after.sink.faults
        → BreaksOff printing (ObeysFirst Obeys start (demo_commands documents)) before after × Rose before.sink.faults after.sink.faults
    demo_unput prefix paid still rose = (unput prefix paid still, rose_since before.sink.faults middle.sink.faults after.sink.faults since rose)

    -- Memory ran out for the next command.
    pub demo_last : (status : Status) → PutsLast waiting status middle after → after.steps ≡ middle.steps → Ended printing NotWhole NeverTaken (ObeysFirst Obeys start (demo_commands documents)) false status before after
    demo_last Status.Done e paid = absurd e
    demo_last Status.Refused e paid = absurd e
    demo_last Status.Usage e paid = absurd e
    demo_last Status.ReadFault e paid = absurd e
    demo_last Status.WriteFault e paid = demo_unput e.0 paid e.1 e.2
    demo_last Status.Memory e paid = lost e.0 (omega (arith, paid)) e.1
    demo_last Status.TooMuch e paid = absurd e

    -- For the command at that place.
    module _ (command : Command Data) (inside : place < documents + 6) (is : command ≡ demo_command documents place) where
      abbrev Answer : Response → Type 0
      Answer answer = (next : W) × ((s : S) → Stands machine s → IsReached Stands (Obeys s command answer) next)

      unwritten : FailsWithin printing Answer waiting middle after → after.sink.finishes ≡ middle.sink.finishes → BreaksOff printing (ObeysFirst Obeys start (demo_commands documents)) before after
      unwritten fails still =
          let met : IsReached Stands (Obeys so.state command fails.answer) fails.allowed.0 = fails.allowed.1 so.state so.at in
          record {
            answers = so.answers ++ fails.answer ∷ [];
            put = put_in_part printing so.answers waiting before.sink.held middle.sink.held after.sink.held fails.answer so.put.put fails.put;
            steps = omega (arith, fails.paid, so.put.paid, sum_by-append reads_of so.answers (fails.answer ∷ []));
            finishes = inl (still ∙ same);
            lines = record {
              last = met.next;
              left = from (place + 1);
              runs =
                  so.goes_on (fails.answer ∷ []) met.next (from (place + 1))
                  (subst (λ (cs : List (Command Data)). Obeyings Obeys so.state cs (fails.answer ∷ []) met.next (from (place + 1))) (sym (first_from place inside))
                  (subst (λ (c : Command Data). Obeyings Obeys so.state (c ∷ from (place + 1)) (fails.answer ∷ []) met.next (from (place + 1))) is (obey met.allowed rest)));
            };
          }

      breaks : FailsToPut printing Answer waiting middle after → BreaksOff printing (ObeysFirst Obeys start (demo_commands documents)) before after
      breaks fails = elim fails.which as (λ _. BreaksOff printing (ObeysFirst Obeys start (demo_commands documents)) before after) [ inl early ↦ unput early.put early.same fails.finishes | inr late ↦ unwritten late fails.finishes ]

      -- Its answer did not join what waits.
      pub demo_within : (status : Status) → JoinsNot printing Answer waiting status middle after → Ended printing NotWhole NeverTaken (ObeysFirst Obeys start (demo_commands documents)) false status before after
      demo_within Status.Done e = absurd e
      demo_within Status.Refused e = absurd e
      demo_within Status.Usage e = absurd e
      demo_within Status.ReadFault e = absurd e
      demo_within Status.WriteFault e = (breaks e, rose_since before.sink.faults middle.sink.faults after.sink.faults since e.rose)
      demo_within Status.Memory e = lost e.put e.later e.finishes
      demo_within Status.TooMuch e = absurd e

    none_left : documents + 6 - (documents + 6) ≡ 0
    none_left = omega arith

    -- All commands were obeyed, and all that waited was put.
    pub demo_ended : place ≡ documents + 6 → Appends middle.sink.held after.sink.held waiting → after.steps ≡ middle.steps → after.sink.finishes ≡ middle.sink.finishes → middle.sink.faults ≤ after.sink.faults
        → Continues printing (ObeysThrough Obeys Stands machine start (demo_commands documents)) false refused before after
    demo_ended last put paid still later = record {
      answers = so.answers;
      put = moves_last (flat_map (text_under printing) so.answers) waiting before.sink.held middle.sink.held after.sink.held so.put.put put;
      refusals = so.put.refusals;
      steps = paid ∙ so.put.paid;
      finishes = still ∙ same;
      later = omega (arith, since, later);
      lines = record {
        last = so.state;
        runs =
            subst (λ (n : ℕ). Obeyings Obeys start (demo_commands documents) so.answers so.state (demo_commands_from documents (documents + 6) n)) none_left
            (subst (λ (n : ℕ). Obeyings Obeys start (demo_commands documents) so.answers so.state (from n)) last stops_at);
        at = so.at;
      };
    }
