-- The text of what a line is answered. Each line of it ends with the byte 10, and numbers are decimal.
use Rattle.std.specs.Prelude.{ℕ, Bool, true, false, List, [], ◌++◌, codes, decimal, flat_map, sum_by, if◌then◌else◌}
use Rattle.sk_base.specs.declared.record.Reply.{Reply}
use Rattle.sk_run.specs.declared.refusal.Refusal.{Refusal}
use Rattle.sk_run.specs.declared.response.Response.{Response}
use Rattle.sk_run.specs.declared.response.Printing.{Printing}
use Rattle.sk_run.specs.declared.response.Printing.TheVariants.{All, WithoutOk}
use Rattle.sk_run.specs.declared.response.Response.TheVariants.{Skipped, Refused, Schema, Id, Deleted, Found, Query, Facets, Opened, Turned, Closed, Dropped, StillOpen}
use Rattle.sk_run.specs.Refusals.{refusal_line}
use Rattle.sk_run.specs.Found.{found_text}
use Rattle.sk_run.specs.Facets.{facets_text}

-- What a turn line ends with: whether the last turn was done.
abbrev pub turn_name : Bool → List ℕ
turn_name done = if done then codes "done" else codes "more"

-- A search by its number, with its readings.
abbrev pub readings_text : ℕ → ℕ → List ℕ
readings_text number spent = decimal number ++ (codes " steps=" ++ (decimal spent ++ codes "\n"))

-- The line of a search that is still open.
abbrev pub open_line : ℕ × ℕ → List ℕ
open_line one = codes "open " ++ readings_text one.0 one.1

-- The text of one answer.
abbrev pub text_of : Response → List ℕ
text_of Skipped = []
text_of (Refused why) = refusal_line why
text_of (Schema fields) = codes "ok schema " ++ (decimal fields ++ codes "\n")
text_of (Id id) = codes "ok id " ++ (decimal id ++ codes "\n")
text_of (Deleted count) = codes "ok deleted " ++ (decimal count ++ codes "\n")
text_of (Found first report) = found_text first report
text_of (Query text) = codes "query " ++ (text ++ codes "\n")
text_of (Facets kind facets) = facets_text kind facets
text_of (Opened number reads) = codes "ok open " ++ (decimal number ++ codes "\n")
text_of (Turned number done reads) = codes "ok turn " ++ (decimal number ++ (codes " " ++ (turn_name done ++ codes "\n")))
text_of (Closed first report reads) = found_text first report
text_of (Dropped number spent) = codes "dropped " ++ readings_text number spent
text_of (StillOpen readings) = flat_map open_line readings

-- Whether the answer says no more than that its line was done: its line begins with `ok`.
abbrev pub says_ok : Response → Bool
says_ok Skipped = false
says_ok (Refused why) = false
says_ok (Schema fields) = true
says_ok (Id id) = true
says_ok (Deleted count) = true
says_ok (Found first report) = false
says_ok (Query text) = false
says_ok (Facets kind facets) = false
says_ok (Opened number reads) = true
says_ok (Turned number done reads) = true
says_ok (Closed first report reads) = false
says_ok (Dropped number spent) = false
says_ok (StillOpen readings) = false

-- The text of one answer, where all answers are printed, or all but those that say `ok`.
abbrev pub text_under : Printing → Response → List ℕ
text_under All answer = text_of answer
text_under WithoutOk answer = if says_ok answer then [] else text_of answer

-- Whether the answer refuses its line.
abbrev pub is_refusal : Response → Bool
is_refusal Skipped = false
is_refusal (Refused why) = true
is_refusal (Schema fields) = false
is_refusal (Id id) = false
is_refusal (Deleted count) = false
is_refusal (Found first report) = false
is_refusal (Query text) = false
is_refusal (Facets kind facets) = false
is_refusal (Opened number reads) = false
is_refusal (Turned number done reads) = false
is_refusal (Closed first report reads) = false
is_refusal (Dropped number spent) = false
is_refusal (StillOpen readings) = false

-- The readings that were made for an answer.
abbrev pub reads_of : Response → ℕ
reads_of Skipped = 0
reads_of (Refused why) = 0
reads_of (Schema fields) = 0
reads_of (Id id) = 0
reads_of (Deleted count) = 0
reads_of (Found first report) = report.steps
reads_of (Query text) = 0
reads_of (Facets kind facets) = facets.steps
reads_of (Opened number reads) = reads
reads_of (Turned number done reads) = reads
reads_of (Closed first report reads) = reads
reads_of (Dropped number spent) = 0
reads_of (StillOpen readings) = 0

-- The readings that an answer tells of: what stands behind `steps=` in its lines. Those of a search in flight are told where it ends, and at the end of the run where it does not.
abbrev pub steps_of : Response → ℕ
steps_of Skipped = 0
steps_of (Refused why) = 0
steps_of (Schema fields) = 0
steps_of (Id id) = 0
steps_of (Deleted count) = 0
steps_of (Found first report) = report.steps
steps_of (Query text) = 0
steps_of (Facets kind facets) = facets.steps
steps_of (Opened number reads) = 0
steps_of (Turned number done reads) = 0
steps_of (Closed first report reads) = report.steps
steps_of (Dropped number spent) = spent
steps_of (StillOpen readings) = sum_by (λ (one : ℕ × ℕ). one.1) readings

-- What an edit's reply is answered.
abbrev pub response_to : Reply → Response
response_to (Reply.Id id) = Id id
response_to (Reply.Done count) = Deleted count
response_to Reply.NotFound = Refused Refusal.NotFound
response_to Reply.NoIdLeft = Refused Refusal.NoIdLeft
