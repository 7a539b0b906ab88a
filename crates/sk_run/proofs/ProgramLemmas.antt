-- What a run did, by the arguments of its program.
use Rattle.std.proofs.Common.{◌≡◌, ℕ, List, Result, Ok, String, Global, Vec, map, drop, string_bytes, sym, subst}
use Rattle.sk_run.specs.declared.status.Status.{Status}
use Rattle.sk_run.specs.Outsides.{Outside}
use Rattle.sk_run.specs.Started.{Around, outside, RanBy, RanFrom}

-- a run by the words behind the first argument, from a counter at 0 on
pub ran_from : (Runs : List (List ℕ) → Status → Outside → Outside → Type 0) (arguments : Result (Vec (String Global) Global) Status) (own : Vec (String Global) Global) (words : List (String Global)) (status : Status) (before after : Around) (begun steps : ℕ)
    → arguments ≡ Ok own → words ≡ drop 1 own.items → begun ≡ 0 → Runs (map string_bytes words) status (outside before begun) (outside after steps) → RanFrom Runs arguments status before after
ran_from Runs arguments own words status before after begun steps is same none ran = record {
  steps = steps;
  ran =
      subst (λ (a : Result (Vec (String Global) Global) Status). RanBy Runs a status (outside before 0) (outside after steps)) (sym is)
      (subst (λ (n : ℕ). RanBy Runs (Ok own) status (outside before n) (outside after steps)) none
      (subst (λ (ws : List (String Global)). Runs (map string_bytes ws) status (outside before begun) (outside after steps)) same ran));
}
