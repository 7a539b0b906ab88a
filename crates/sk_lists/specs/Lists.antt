-- A posting list in chunks.
use Rattle.std.specs.Prelude.{◌≡◌, ℕ, List, [], ◌∷◌, length}
use Rattle.sk_sorted.specs.Runs.{flat, AreRuns}
use Rattle.sk_chunks.specs.Postings.{Postings, greatest_wdf}

-- The entries of a list, chunk by chunk.
abbrev pub Runs : Type 0
Runs = List Postings

-- One chunk, which may be empty.
abbrev pub one_run : Postings → Runs
one_run [] = []
one_run (p ∷ ps) = (p ∷ ps) ∷ []

-- The runs of a directory, with the number of all entries and their greatest wdf.
pub record IsDirectory (runs : Runs) (count most : ℕ) : Type 0 where
  pub sound : AreRuns runs
  pub count_is : length (flat runs) ≡ count
  pub most_is : greatest_wdf (flat runs) ≡ most
