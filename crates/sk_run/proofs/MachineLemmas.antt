-- How a machine goes from state to state.
use Rattle.std.proofs.Common.{◌≡◌, ◌≤◌, ◌<◌, ℕ, true, false, if◌then◌else◌, List, length, nat_lt, Option, Some, None, Result, refl, sym, ap, ◌∙◌, subst, arith}
use Rattle.std.proofs.lemmas.Bool.Decides.{nat_tests}
use Rattle.std.specs.Str.{is_utf8, IsUtf8}
use Rattle.std.proofs.lemmas.Str.{IsUtf8-from_is_utf8}
use Rattle.sk_io.specs.LineText.{most_line}
use Rattle.serde_json.specs.Data.{Data}
use Rattle.sk_base.specs.declared.command.Command.{Command}
use Rattle.sk_base.specs.declared.command.Question.TheVariants as Question
use Rattle.sk_base.specs.declared.find.Find.{Find}
use Rattle.sk_base.specs.declared.find.Join.{Join}
use Rattle.sk_base.specs.declared.schema.Schema.{Schema}
use Rattle.sk_record.specs.declared.fault.LineFault.{LineFault}
use Rattle.sk_record.specs.Lines.{line_value}
use Rattle.sk_record.specs.Outcome.{outcome}
use Rattle.sk_io.specs.declared.line.Line.{Line}
use Rattle.sk_io.specs.declared.line.Line.TheVariants.{Whole, TooLong}
use Rattle.sk_run.specs.declared.request.Request.{Request}
use Rattle.sk_run.specs.declared.machine.Machine.{Machine}
use Rattle.sk_run.specs.declared.machine.Reading.{Reading}
use Rattle.sk_run.specs.declared.refusal.Refusal.TheVariants as Refusal
use Rattle.sk_run.specs.declared.response.Response.{Response}
use Rattle.sk_run.specs.Meaning.{Meaning, blank, refusal, asks, is_blank, meaning, meaning_of}
use Rattle.sk_run.specs.Lines.{IsReached, Answered, AnsweredLine}
use Rattle.sk_run.specs.Queries.{find_by, text_meaning, query_meaning}
use Rattle.sk_run.specs.Conducts.{Conduct, State, schema_of, Does, Obeys, AnswersMeaning, AnswersAs}
use Rattle.sk_run.specs.Machines.{StandsFor, MachineStands, schema_in, Did}
use Rattle.sk_run.specs.Requests.{meant, meaning_as, AsksFor, AnswersRequest, AnsweredRequest}

-- A line that is not blank means what its outcome does.
pub line_meant : (schema : Option Schema) (line : List ℕ) (o : Result (Command Data) LineFault) → length line ≤ most_line → is_blank line ≡ false → outcome schema (line_value line) ≡ o → meaning schema line ≡ meaning_of o
line_meant schema line o short full is =
    let fits : nat_lt most_line (length line) ≡ false = grind (arith, nat_tests) in
    ap (λ b. if b then refusal Refusal.TooLong else (if is_blank line then blank else meaning_of (outcome schema (line_value line)))) fits
    ∙ ap (λ b. if b then blank else meaning_of (outcome schema (line_value line))) full
    ∙ ap meaning_of is

-- Bytes that are not UTF-8 fail the test.
pub not_utf8 : (line : List ℕ) → (IsUtf8 line → ⊥) → is_utf8 line ≡ false
not_utf8 line h = elim (is_utf8 line) as (λ b. is_utf8 line ≡ b → b ≡ false) [ true ↦ λ e. absurd (h (IsUtf8-from_is_utf8 line e)) | false ↦ λ e. refl ] refl

long_test : (line : List ℕ) → most_line < length line → nat_lt most_line (length line) ≡ true
long_test line long = grind (arith, nat_tests)

short_test : (line : List ℕ) → length line ≤ most_line → nat_lt most_line (length line) ≡ false
short_test line short = grind (arith, nat_tests)

long_meant : (schema : Option Schema) (line : List ℕ) → most_line < length line → meaning schema line ≡ refusal Refusal.TooLong
long_meant schema line long = ap (λ b. if b then refusal Refusal.TooLong else (if is_blank line then blank else meaning_of (outcome schema (line_value line)))) (long_test line long)

long_asked : (join : Join) (schema : Option Schema) (line : List ℕ) → most_line < length line → query_meaning join schema line ≡ refusal Refusal.TooLong
long_asked join schema line long = ap (λ b. if b then refusal Refusal.TooLong else text_meaning join schema line) (long_test line long)

short_asked : (join : Join) (schema : Option Schema) (line : List ℕ) → length line ≤ most_line → query_meaning join schema line ≡ text_meaning join schema line
short_asked join schema line short = ap (λ b. if b then refusal Refusal.TooLong else text_meaning join schema line) (short_test line short)

-- A line that is too long is refused, however lines are read.
pub long_request : (reading : Reading) (schema : Option Schema) (line : List ℕ) → most_line < length line → meaning_as reading schema line ≡ refusal Refusal.TooLong
long_request Reading.Commands schema line long = long_meant schema line long
long_request (Reading.Queries join) schema line long = long_asked join schema line long

-- Before a schema was accepted a query text is refused.
pub none_asked : (join : Join) (schema : Option Schema) (line : List ℕ) → schema ≡ None → length line ≤ most_line → query_meaning join schema line ≡ refusal Refusal.NoSchema
none_asked join schema line none short = short_asked join schema line short ∙ ap (λ o. text_meaning join o line) none

-- A line that is no text is refused.
pub not_text : (join : Join) (schema : Option Schema) (under : Schema) (line : List ℕ) → schema ≡ Some under → length line ≤ most_line → is_utf8 line ≡ false → query_meaning join schema line ≡ refusal Refusal.BadShape
not_text join schema under line some short is_not =
    short_asked join schema line short ∙ ap (λ o. text_meaning join o line) some ∙ ap (λ b. if b then asks (Command.Ask (Question.Find (find_by join line))) else refusal Refusal.BadShape) is_not

-- A text asks for a find of it.
pub text_asked : (join : Join) (schema : Option Schema) (under : Schema) (line : List ℕ) (find : Find Data) → schema ≡ Some under → length line ≤ most_line → is_utf8 line ≡ true → find ≡ find_by join line → query_meaning join schema line ≡ asks (Command.Ask (Question.Find find))
text_asked join schema under line find some short is_text is =
    short_asked join schema line short ∙ ap (λ o. text_meaning join o line) some ∙ ap (λ b. if b then asks (Command.Ask (Question.Find (find_by join line))) else refusal Refusal.BadShape) is_text
    ∙ ap (λ (f : Find Data). asks (Command.Ask (Question.Find f))) (sym is)

-- Over a store that tells these.
module _ {M S : Type 0} (under : M → Schema) (Holds : M → S → Type 0) (conduct : Conduct S) where
  -- A schema begins a store.
  pub accepted : (store : M) (schema : Schema) (parts : ℕ) (response : Response) → under store ≡ schema → Holds store (conduct.begun parts) → response ≡ Response.Schema (length schema.fields)
      → (s : State S) → StandsFor under Holds None s → IsReached (MachineStands under Holds) (Obeys conduct s (Command.Schema schema parts) response) (record { store = Some store })
  accepted store schema parts response same holds is None at = record { next = Some (schema, conduct.begun parts); allowed = (is, refl); at = (sym same, holds) }
  accepted store schema parts response same holds is (Some s) at = absurd at

  -- What a store did, its machine did.
  pub obeyed : (old new : M) (c : Command Data) (response : Response) → Did under Holds conduct old c response new → under new ≡ under old
      → (s : State S) → StandsFor under Holds (Some old) s → IsReached (MachineStands under Holds) (Obeys conduct s c response) (record { store = Some new })
  obeyed old new c response did same None at = absurd at
  obeyed old new c response did same (Some s) at =
      let met = did s.1 at.1 in
      record {
        next = Some (s.0, met.next);
        allowed = (met.next, subst (λ (f : Schema). Does conduct f s.1 c response met.next) (sym at.0) met.allowed, refl);
        at = (at.0 ∙ sym same, met.at);
      }

  -- The schema of a machine is that of the state.
  pub schema_in_state : (store : Option M) (s : State S) → StandsFor under Holds store s → schema_in under (record { store = store }) ≡ schema_of s
  schema_in_state None None at = refl
  schema_in_state None (Some s) at = absurd at
  schema_in_state (Some store) None at = absurd at
  schema_in_state (Some store) (Some s) at = ap Some (sym at.0)

  -- A request is answered as what it means.
  request_as : (s : State S) (request : Request) (response : Response) (next : State S) → AnswersRequest conduct s request response next → AnswersMeaning conduct s (meant request) response next
  request_as s Request.Blank response next h = h
  request_as s (Request.Refused why) response next h = h
  request_as s (Request.Asks c) response next h = h

  follows_as : (reading : Reading) (s : State S) (line : List ℕ) (response : Response) (next : State S) → AnswersMeaning conduct s (meaning_as reading (schema_of s) line) response next → AnswersAs conduct reading s line response next
  follows_as Reading.Commands s line response next h = h
  follows_as (Reading.Queries join) s line response next h = h

  text_answered : (old new : Machine M) (reading : Reading) (line : List ℕ) (request : Request) (response : Response) → meaning_as reading (schema_in under old) line ≡ meant request → AnsweredRequest under Holds conduct old request response new
      → Answered (MachineStands under Holds) (AnswersAs conduct reading) old line response new
  text_answered old new reading line request response is answered = λ s at.
      let met = answered s at in
      let means : meaning_as reading (schema_of s) line ≡ meant request = subst (λ o. meaning_as reading o line ≡ meant request) (schema_in_state old.store s at) is in
      record { next = met.next; allowed = follows_as reading s line response met.next (subst (λ (m : Meaning). AnswersMeaning conduct s m response met.next) (sym means) (request_as s request response met.next met.allowed)); at = met.at }

  -- A line is answered as what it asks for.
  pub line_answered : (old new : Machine M) (reading : Reading) (l : Line) (request : Request) (response : Response) → AsksFor reading (schema_in under old) l request → AnsweredRequest under Holds conduct old request response new
      → AnsweredLine (MachineStands under Holds) (AnswersAs conduct reading) old l response new
  line_answered old new reading (Whole text) request response is answered = text_answered old new reading text.now request response is answered
  line_answered old new reading TooLong request response is answered = λ text long. text_answered old new reading text request response (is text long) answered
