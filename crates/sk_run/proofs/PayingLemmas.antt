-- What the answers of a run tell of is what was read for it, where a store pays what it owes.
use Rattle.std.proofs.Common.{◌≡◌, ◌+◌, ℕ, false, List, [], ◌∷◌, ◌++◌, Option, Some, None, Result, Ok, Err, inl, inr, sum_by, refl, sym, ap, subst, arith}
use Rattle.std.proofs.lemmas.List.Sums.{sum_by-append, sum_by-cons}
use Rattle.serde_json.specs.Data.{Data}
use Rattle.sk_base.specs.declared.command.Command.{Command}
use Rattle.sk_base.specs.declared.command.Question.{Question}
use Rattle.sk_base.specs.declared.command.FlightCommand.{FlightCommand}
use Rattle.sk_base.specs.declared.record.Reply.{Reply}
use Rattle.sk_base.specs.declared.schema.Schema.{Schema}
use Rattle.sk_query.specs.Trees.{Tree}
use Rattle.sk_parser.specs.declared.asked.AskError.{AskError}
use Rattle.sk_parser.specs.Asked.{asked, text_asked}
use Rattle.sk_run.specs.declared.form.Form.{Form}
use Rattle.sk_run.specs.declared.response.Response.{Response}
use Rattle.sk_run.specs.declared.status.Status.{Status}
use Rattle.sk_run.specs.Responses.{reads_of, steps_of, response_to}
use Rattle.sk_run.specs.Asking.{RefusedFor, AnswersAsk, IsFound, IsCounted, IsShown}
use Rattle.sk_run.specs.Meaning.{Meaning, blank, refusal, asks, unread, meaning}
use Rattle.sk_run.specs.Queries.{query_meaning}
use Rattle.sk_run.specs.Lines.{LineByLine, stop, line}
use Rattle.sk_run.specs.Obeying.{Obeyings, rest, obey, ObeysAll}
use Rattle.sk_run.specs.Ends.{AnswersAll}
use Rattle.sk_run.specs.Conducts.{Conduct, State, schema_of, AnswersQuestion, AnswersFlight, Does, Obeys, AnswersMeaning, Answers, AnswersQuery, Closes}
use Rattle.sk_run.specs.Demos.{demo_commands}
use Rattle.sk_run.specs.Outsides.{Outside}
use Rattle.sk_run.specs.ByForm.{printing_of, BehindRecords, ReadsTold, WholeBy}
use Rattle.sk_run.specs.Ended.{Finishes}
use Rattle.sk_run.specs.Paying.{Pays}

-- ---- answers one behind the other, whatever the states and what is owed in them

module _ {S : Type 0} (owed : S → ℕ) where
  -- What is owed behind an answer, and what it tells, is what was owed before it, and what was read for it.
  abbrev pub Settles : S → Response → S → Type 0
  Settles s answer next = owed next + steps_of answer ≡ owed s + reads_of answer

  -- The same of several answers.
  abbrev pub SettlesAll : S → List Response → S → Type 0
  SettlesAll s answers last = owed last + sum_by steps_of answers ≡ owed s + sum_by reads_of answers

  -- They tell of all that was owed before them, and was read for them.
  abbrev pub TellsAll : S → List Response → Type 0
  TellsAll s answers = sum_by steps_of answers ≡ owed s + sum_by reads_of answers

  one_first : (s next last : S) (answer : Response) (answers : List Response) → Settles s answer next → SettlesAll next answers last → SettlesAll s (answer ∷ answers) last
  one_first s next last answer answers one others = omega (arith, one, others, sum_by-cons steps_of answer answers, sum_by-cons reads_of answer answers)

  lines_pay : (Answers : S → List ℕ → Response → S → Type 0) → ((s : S) (text : List ℕ) (answer : Response) (next : S) → Answers s text answer next → Settles s answer next)
      → (s last : S) (bytes left : List ℕ) (answers : List Response) → LineByLine Answers s bytes answers last left → SettlesAll s answers last
  lines_pay Answers pays s last bytes left [] stop = refl
  lines_pay Answers pays s last bytes left (answer ∷ answers) (line {next = next} {text = text} {after = after} is allowed more) =
      one_first s next last answer answers (pays s text answer next allowed) (lines_pay Answers pays next last after left answers more)

  obeyings_pay : (Obeys : S → Command Data → Response → S → Type 0) → ((s : S) (command : Command Data) (answer : Response) (next : S) → Obeys s command answer next → Settles s answer next)
      → (s last : S) (commands left : List (Command Data)) (answers : List Response) → Obeyings Obeys s commands answers last left → SettlesAll s answers last
  obeyings_pay Obeys pays s last commands left [] rest = refl
  obeyings_pay Obeys pays s last commands left (answer ∷ answers) (obey {next = next} {command = command} {commands = commands'} allowed more) =
      one_first s next last answer answers (pays s command answer next allowed) (obeyings_pay Obeys pays next last commands' left answers more)

  -- Behind answers that settle come answers that tell all.
  told_behind : (s middle : S) (first others : List Response) → SettlesAll s first middle → TellsAll middle others → TellsAll s (first ++ others)
  told_behind s middle first others settles tells = omega (arith, settles, tells, sum_by-append steps_of first others, sum_by-append reads_of first others)

  -- What closes tells all.
  told_closing : (s : S) (closing : Response) → steps_of closing ≡ owed s + reads_of closing → TellsAll s (closing ∷ [])
  told_closing s closing closes = omega (arith, closes, sum_by-cons steps_of closing [], sum_by-cons reads_of closing [])

  -- All lines were answered.
  all_told : (Answers : S → List ℕ → Response → S → Type 0) (Closes : S → Response → Type 0) → ((s : S) (text : List ℕ) (answer : Response) (next : S) → Answers s text answer next → Settles s answer next)
      → ((s : S) (answer : Response) → Closes s answer → steps_of answer ≡ owed s + reads_of answer)
      → (s : S) (bytes : List ℕ) (answers : List Response) (left : Option (List ℕ)) → AnswersAll Answers Closes s bytes answers left → TellsAll s answers
  all_told Answers Closes pays settles s bytes answers left whole =
      subst (TellsAll s) (sym whole.all)
      (told_behind s whole.last whole.of_lines (whole.closing ∷ []) (lines_pay Answers pays s whole.last bytes [] whole.of_lines whole.runs) (told_closing whole.last whole.closing (settles whole.last whole.closing whole.closes)))

  -- All commands were obeyed.
  all_obeyed : (Obeys : S → Command Data → Response → S → Type 0) (Closes : S → Response → Type 0) → ((s : S) (command : Command Data) (answer : Response) (next : S) → Obeys s command answer next → Settles s answer next)
      → ((s : S) (answer : Response) → Closes s answer → steps_of answer ≡ owed s + reads_of answer)
      → (s : S) (commands : List (Command Data)) (answers : List Response) → ObeysAll Obeys Closes s commands answers → TellsAll s answers
  all_obeyed Obeys Closes pays settles s commands answers whole =
      subst (TellsAll s) (sym whole.all)
      (told_behind s whole.last whole.of_commands (whole.closing ∷ []) (obeyings_pay Obeys pays s whole.last commands [] whole.of_commands whole.runs) (told_closing whole.last whole.closing (settles whole.last whole.closing whole.closes)))

  -- All lines of the records were answered, and the others tell all.
  behind_records : (Answers : S → List ℕ → Response → S → Type 0) → ((s : S) (text : List ℕ) (answer : Response) (next : S) → Answers s text answer next → Settles s answer next)
      → (GoesOn : S → List Response → Type 0) → ((s : S) (answers : List Response) → GoesOn s answers → TellsAll s answers)
      → (s : S) (records : List ℕ) (answers : List Response) (left : Option (List ℕ)) → BehindRecords Answers s records answers left GoesOn → TellsAll s answers
  behind_records Answers pays GoesOn tells s records answers left whole =
      subst (TellsAll s) (sym whole.parts)
      (told_behind s whole.middle whole.of_records whole.others (lines_pay Answers pays s whole.middle records [] whole.of_records whole.runs) (tells whole.middle whole.others whole.goes_on))

-- ---- answers that tell of what was read for them

-- It tells of what was read for it.
abbrev pub TellsItself : Response → Type 0
TellsItself answer = steps_of answer ≡ reads_of answer

as_it : (answer it : Response) → answer ≡ it → TellsItself it → TellsItself answer
as_it answer it same tells = subst TellsItself (sym same) tells

refused_itself : (why : AskError) (answer : Response) → RefusedFor why answer → TellsItself answer
refused_itself (AskError.BadQuery kind place) answer is = as_it answer _ is refl
refused_itself AskError.BadTree answer is = as_it answer _ is refl
refused_itself AskError.NoMemory answer is = absurd is

ask_itself : (Answers : Tree → Response → Type 0) → ((query : Tree) (answer : Response) → Answers query answer → TellsItself answer)
    → (asked : Result Tree AskError) (answer : Response) → AnswersAsk Answers asked answer → TellsItself answer
ask_itself Answers tells (Ok query) answer is = tells query answer is
ask_itself Answers tells (Err why) answer is = refused_itself why answer is

reply_itself : (reply : Reply) → TellsItself (response_to reply)
reply_itself (Reply.Id id) = refl
reply_itself (Reply.Done count) = refl
reply_itself Reply.NotFound = refl
reply_itself Reply.NoIdLeft = refl

-- ---- over a store that pays what it owes

module _ {S : Type 0} (conduct : Conduct S) (owed : S → ℕ) (pays : Pays conduct owed) where
  -- What is owed by a run: nothing before a schema was accepted.
  abbrev pub owed_in : State S → ℕ
  owed_in None = 0
  owed_in (Some s) = owed s.1

  question_itself : (schema : Schema) (question : Question Data) (s : S) (answer : Response) → AnswersQuestion conduct schema question s answer → TellsItself answer
  question_itself schema (Question.Find find) s answer is =
      ask_itself (λ query found. IsFound (conduct.finds s find.paging query) find.paging.options.first found) (λ query found h. as_it found _ h.2 refl) (asked schema find.ask) answer is
  question_itself schema (Question.Show text join) s answer is = ask_itself IsShown (λ query found h. as_it found _ h refl) (text_asked schema join text) answer is
  question_itself schema (Question.Facets facets) s answer (inl is) = as_it answer _ is.1 refl
  question_itself schema (Question.Facets facets) s answer (inr is) =
      ask_itself (λ query found. IsCounted (conduct.facets s facets.slot facets.size query) facets.kind found) (λ query found h. as_it found _ h.2 refl) (text_asked schema facets.join facets.text) answer is.1

  stays : (s next : S) (answer : Response) → TellsItself answer → next ≡ s → Settles owed s answer next
  stays s next answer tells same = let still : owed next ≡ owed s = ap owed same in omega (arith, tells, still)

  flight_pays : (schema : Schema) (s : S) (command : FlightCommand Data) (answer : Response) (next : S) → AnswersFlight conduct schema s command answer next → Settles owed s answer next
  flight_pays schema s command answer next (inl is) = stays s next answer (as_it answer _ is.1 refl) is.2
  flight_pays schema s command answer next (inr is) = pays.flies schema s command answer next is.1

  does_pays : (schema : Schema) (s : S) (command : Command Data) (answer : Response) (next : S) → Does conduct schema s command answer next → Settles owed s answer next
  does_pays schema s (Command.Schema given parts) answer next is = absurd is
  does_pays schema s (Command.Edit edit) answer next is =
      let tells : TellsItself answer = as_it answer _ is.2 (reply_itself is.0) in
      let still : owed next ≡ owed s = pays.edits schema s edit is.0 next is.1 in
      omega (arith, tells, still)
  does_pays schema s (Command.Ask question) answer next is = stays s next answer (question_itself schema question s answer is.0) is.1
  does_pays schema s (Command.Flight command) answer next is = flight_pays schema s command answer next is

  begins_paid : (schema : Schema) (parts fields : ℕ) (answer : Response) (next : State S) → answer ≡ Response.Schema fields → next ≡ Some (schema, conduct.begun parts) → Settles owed_in None answer next
  begins_paid schema parts fields answer next is same =
      let tells : TellsItself answer = as_it answer _ is refl in
      let begun : owed_in next ≡ owed (conduct.begun parts) = ap owed_in same in
      omega (arith, tells, begun, pays.none parts)

  obeys_pay : (s : State S) (command : Command Data) (answer : Response) (next : State S) → Obeys conduct s command answer next → Settles owed_in s answer next
  obeys_pay None (Command.Schema schema parts) answer next is = begins_paid schema parts _ answer next is.0 is.1
  obeys_pay None (Command.Edit edit) answer next is = absurd is
  obeys_pay None (Command.Ask question) answer next is = absurd is
  obeys_pay None (Command.Flight command) answer next is = absurd is
  obeys_pay (Some s) command answer next is =
      let one = does_pays s.0 s.1 command answer is.0 is.1 in
      let same : owed_in next ≡ owed is.0 = ap owed_in is.2 in
      omega (arith, one, same)

  stays_in : (s next : State S) (answer : Response) → TellsItself answer → next ≡ s → Settles owed_in s answer next
  stays_in s next answer tells same = let still : owed_in next ≡ owed_in s = ap owed_in same in omega (arith, tells, still)

  meaning_pays : (s : State S) (m : Meaning) (answer : Response) (next : State S) → AnswersMeaning conduct s m answer next → Settles owed_in s answer next
  meaning_pays s blank answer next is = stays_in s next answer (as_it answer _ is.0 refl) is.1
  meaning_pays s (refusal why) answer next is = stays_in s next answer (as_it answer _ is.0 refl) is.1
  meaning_pays s (asks command) answer next is = obeys_pay s command answer next is
  meaning_pays s unread answer next is = absurd is

  closes_pays : (s : State S) (answer : Response) → Closes conduct s answer → steps_of answer ≡ owed_in s + reads_of answer
  closes_pays None answer is = let tells : TellsItself answer = as_it answer _ is refl in omega (arith, tells)
  closes_pays (Some s) answer is = pays.closes s.0 s.1 answer is

  -- Of a run that came to its end the answers tell of all that was read, where the sources that it reads tell their bytes.
  whole_told : (form : Form) (before after : Outside) (answers : List Response) → ReadsTold form before → WholeBy conduct form before after answers → TellsAll owed_in None answers
  whole_told Form.Run before after answers told whole =
      all_told owed_in (Answers conduct) (Closes conduct) (λ s text answer next is. meaning_pays s (meaning (schema_of s) text) answer next is) closes_pays None told.0 answers after.input.left (whole told.0 told.1)
  whole_told (Form.Search join) before after answers told whole =
      behind_records owed_in (Answers conduct) (λ s text answer next is. meaning_pays s (meaning (schema_of s) text) answer next is)
      (λ middle others. AnswersAll (AnswersQuery conduct join) (Closes conduct) middle told.1.0 others after.input.left)
      (λ middle others all. all_told owed_in (AnswersQuery conduct join) (Closes conduct) (λ s text answer next is. meaning_pays s (query_meaning join (schema_of s) text) answer next is) closes_pays middle told.1.0 others after.input.left all)
      None told.0.0 answers after.records.left (whole told.0.0 told.0.1 told.1.0 told.1.1)
  whole_told (Form.Demo documents) before after answers told whole = all_obeyed owed_in (Obeys conduct) (Closes conduct) obeys_pay closes_pays None (demo_commands documents) answers whole

  -- The counter rose by what the answers tell.
  pub readings_are_told : (form : Form) (status : Status) (before after : Outside) → ReadsTold form before → (end : Finishes (printing_of form) (WholeBy conduct form before after) false status before.output after.output)
      → after.output.steps ≡ before.output.steps + sum_by steps_of end.answers
  readings_are_told form status before after told end = let same = whole_told form before after end.answers told end.lines in omega (arith, same, end.steps)
