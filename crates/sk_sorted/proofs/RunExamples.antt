-- The words on runs, computed.
use Rattle.std.proofs.Common.{◌≡◌, ℕ, List, [], ◌∷◌, refl, lit<}
use Rattle.sk_sorted.specs.Entries.{put, without}
use Rattle.sk_sorted.specs.Runs.{flat, RunsRise, AreRuns, FitsAt}

abbrev first : List (ℕ × ℕ)
first = (1, 3) ∷ (4, 0) ∷ []

abbrev second : List (ℕ × ℕ)
second = (7, 2) ∷ (4294967295, 5) ∷ []

abbrev two : List (List (ℕ × ℕ))
two = first ∷ second ∷ []

-- the entries of both, one behind another
flat_two : flat two ≡ (1, 3) ∷ (4, 0) ∷ (7, 2) ∷ (4294967295, 5) ∷ []
flat_two = refl

flat_none : flat {X = ℕ} [] ≡ []
flat_none = refl

-- the ids rise from run to run, up to the greatest
rise_two : RunsRise 0 two
rise_two = ((lit< tt, (lit< tt, tt)), (lit< tt, ((lit< tt, (lit< tt, tt)), (lit< tt, tt))))

runs_two : AreRuns two
runs_two = record { rise = rise_two; small = (lit< tt, (lit< tt, (lit< tt, (lit< tt, tt)))) }

-- an id of the second run, one between the runs, and one in the first
fits_second : FitsAt 7 two 1
fits_second = (lit< tt, tt)

fits_gap_behind : FitsAt 5 two 1
fits_gap_behind = (lit< tt, tt)

fits_gap_before : FitsAt 5 two 0
fits_gap_before = (lit< tt, (lit< tt, tt))

-- an edit there is an edit of the whole
put_second : flat (first ∷ put 9 1 second ∷ []) ≡ put 9 1 (flat two)
put_second = refl

without_first : flat (without 4 first ∷ second ∷ []) ≡ without 4 (flat two)
without_first = refl
