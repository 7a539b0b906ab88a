-- Laws of what is answered where searches in flight are asked for.
use Rattle.std.proofs.Common.{◌≡◌, ◌≤◌, ◌+◌, ℕ, true, List, Some, None, Result, Ok, Err, IfOk, inl, inr, refl, ap, ◌∙◌, subst, arith}
use Rattle.std.specs.declared.alloc.AllocError.{AllocError}
use Rattle.serde_json.specs.Data.{Data}
use Rattle.sk_base.specs.declared.command.FlightCommand.{FlightCommand}
use Rattle.sk_base.specs.declared.report.Report.{Report}
use Rattle.sk_base.specs.declared.schema.Schema.{Schema}
use Rattle.sk_sorted.proofs.EntryLaws.{without-absent}
use Rattle.sk_report.specs.Flights.{Open, Flights, open_at, without_search, owed, readings_open, AllMay, ClosesAs}
use Rattle.sk_run.specs.declared.refusal.Refusal.TheVariants as Refusal
use Rattle.sk_run.specs.declared.response.Response.{Response}
use Rattle.sk_run.specs.Lines.{IsReached}
use Rattle.sk_run.specs.Held.{Held, ClosesHeld, DropsHeld, FliesBy, FliesHeld, EndsHeld}
use Rattle.sk_run.specs.Responses.{reads_of, steps_of}
use Rattle.sk_reference.specs.Searches.{Stands, Tells}
use Rattle.sk_reference.specs.Shelved.{Shelved, held_by, holds}

-- the same shelf, with other searches in flight
abbrev pub flown : Shelved → Flights → Shelved
flown shelf flights = record { schema = shelf.schema; live = shelf.live; parts = shelf.parts; flights = flights }

-- ---- ends

pub closes_one : (old new : Shelved) (number : ℕ) (one : Open) (first : ℕ) (report : Report) (reads : ℕ) → open_at number old.flights ≡ Some one → one.done ≡ true
    → Stands one → Tells one report → first ≡ one.paging.options.first → new ≡ flown old (without_search number old.flights)
    → ClosesHeld Stands Tells number (held_by old) (Response.Closed first report reads) (held_by new)
closes_one old new number one first report reads there done stands tells from after =
    inr (inr (report, reads, without_search number old.flights, closes, ap (λ (n : ℕ). Response.Closed n report reads) from, ap held_by after))
  where
    closes : ClosesAs Stands Tells number old.flights report (without_search number old.flights)
    closes = record {
      search = one;
      is = there;
      ended = done;
      tells = tells;
      paid = let none : one.spent ≡ 0 = stands.unread in omega (arith, none);
      after = refl;
    }

pub drops_none : (old new : Shelved) (number : ℕ) → open_at number old.flights ≡ None → new ≡ flown old (without_search number old.flights)
    → DropsHeld Stands Tells number (held_by old) (Response.Refused Refusal.NotOpen) (held_by new)
drops_none old new number none after =
    inl (none, refl, ap held_by (after ∙ ap (λ (searches : List (ℕ × Open)). flown old (record { searches = searches; opened = old.flights.opened })) (without-absent number old.flights.searches none)))

-- ---- the whole

-- what a command does, from each state that the shelf holds
pub flies : (old new : Shelved) (schema : Schema) (command : FlightCommand Data) (answer : Response) → FliesBy Stands Tells schema (held_by old) command answer (held_by new)
    → owed new.flights ≡ owed old.flights → steps_of answer ≡ reads_of answer
    → (s : Held) → holds old s → IsReached holds (FliesHeld Stands Tells schema s command answer) new
flies old new schema command answer does unread told s at = subst (λ (held : Held). IsReached holds (FliesHeld Stands Tells schema held command answer) new) at reached
  where
    reached : IsReached holds (FliesHeld Stands Tells schema (held_by old) command answer) new
    reached = record { next = held_by new; allowed = record { does = does; paid = λ i. unread i + told i }; at = refl }

-- the same where a search is to close
pub closes_flies : (old new : Shelved) (schema : Schema) (number : ℕ) (result : Result Response AllocError)
    → IfOk result (λ answer. ClosesHeld Stands Tells number (held_by old) answer (held_by new)) → owed new.flights ≡ owed old.flights
    → IfOk result (λ answer. steps_of answer ≡ reads_of answer)
    → IfOk result (λ answer. (s : Held) → holds old s → IsReached holds (FliesHeld Stands Tells schema s (FlightCommand.Close number) answer) new)
closes_flies old new schema number (Ok answer) closes unread told = flies old new schema (FlightCommand.Close number) answer closes unread told
closes_flies old new schema number (Err no_memory) closes unread told = tt

pub ends : (shelf : Shelved) (readings : List (ℕ × ℕ)) → readings ≡ readings_open shelf.flights → AllMay Stands shelf.flights
    → (s : Held) → holds shelf s → EndsHeld Stands Tells shelf.schema s (Response.StillOpen readings)
ends shelf readings is may s at = subst (λ (held : Held). EndsHeld Stands Tells shelf.schema held (Response.StillOpen readings)) at (record { tells = ap Response.StillOpen is; may = may })
