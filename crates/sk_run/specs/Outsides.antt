-- What a run sees of the outside.
use Rattle.std.specs.Prelude.{◌≡◌, ℕ, List, Some}
use Rattle.sk_io.specs.Seen.{Seen, Taken}

-- What is seen of the sink, and the readings so far.
pub record Output : Type 0 where
  pub sink : Taken
  pub steps : ℕ

abbrev pub output_at : Taken → ℕ → Output
output_at sink steps = record { sink = sink; steps = steps }

-- Two sources, the input and that of the records, a sink and a counter.
pub record Outside : Type 0 where
  pub input : Seen
  pub records : Seen
  pub output : Output

abbrev pub outside_at : Seen → Seen → Taken → ℕ → Outside
outside_at input records sink steps = record { input = input; records = records; output = output_at sink steps }

-- Where the source tells its bytes.
abbrev pub WhereTold : Seen → (List ℕ → Type 0) → Type 0
WhereTold before P = (bytes : List ℕ) → before.left ≡ Some bytes → P bytes

-- The source tells its bytes.
abbrev pub IsTold : Seen → Type 0
IsTold before = (bytes : List ℕ) × (before.left ≡ Some bytes)
