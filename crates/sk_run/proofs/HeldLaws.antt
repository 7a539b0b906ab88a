-- A store of documents with searches in flight tells of all readings.
use Rattle.std.proofs.Common.{◌≡◌, ℕ, List, map, sum_by, refl, ap, arith}
use Rattle.std.proofs.lemmas.List.Sums.{sum_by-cons}
use Rattle.std.proofs.lemmas.List.Recursion.{is_sum_by}
use Rattle.sk_base.specs.declared.facets.Facets.{Facets}
use Rattle.sk_base.specs.declared.find.Paging.{Paging}
use Rattle.sk_base.specs.declared.report.Report.{Report}
use Rattle.sk_query.specs.Trees.{Tree}
use Rattle.sk_report.specs.Flights.{Open, Flights, owed, readings_open}
use Rattle.sk_run.specs.Responses.{reads_of, steps_of}
use Rattle.sk_run.specs.Held.{Held, nothing_held, are_in_parts, EditsHeld, FliesHeld, EndsHeld}
use Rattle.sk_run.specs.Paying.{Pays}

-- The readings that are told of open searches are those that are owed.
pub readings_told : (flights : Flights) → sum_by (λ (one : ℕ × ℕ). one.1) (readings_open flights) ≡ owed flights
readings_told flights =
    is_sum_by (λ (es : List (ℕ × Open)). sum_by (λ (one : ℕ × ℕ). one.1) (map (λ (e : ℕ × Open). (e.0, e.1.spent)) es)) (λ (e : ℕ × Open). e.1.spent) refl
    (λ e es. sum_by-cons (λ (one : ℕ × ℕ). one.1) (e.0, e.1.spent) (map (λ (e : ℕ × Open). (e.0, e.1.spent)) es)) flights.searches

-- Whatever its searches in flight may be, and its finds and facets are answered, it pays what they owe.
pub held_pays : (May : Open → Type 0) (Tells : Open → Report → Type 0) (finds : Held → Paging → Tree → Report → Type 0) (facets : Held → ℕ → ℕ → Tree → Facets → Type 0)
    → Pays (record { begun = nothing_held; in_parts = are_in_parts; edits = EditsHeld; finds = finds; facets = facets; flies = FliesHeld May Tells; closes = EndsHeld May Tells }) (λ held. owed held.flights)
held_pays May Tells finds facets = record {
  none = λ parts. refl;
  edits = λ schema held edit reply next is. ap (λ (held : Held). owed held.flights) is.1;
  flies = λ schema held command answer next flies. flies.paid;
  closes = λ schema held answer ends.
      let tells : steps_of answer ≡ sum_by (λ (one : ℕ × ℕ). one.1) (readings_open held.flights) = ap steps_of ends.tells in
      let free : reads_of answer ≡ 0 = ap reads_of ends.tells in
      omega (arith, tells, free, readings_told held.flights);
}
