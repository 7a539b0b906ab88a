-- What a line with the right shape gives, before the rules on fields are asked.
use Rattle.std.specs.Prelude.{ℕ, Bool, List, Option}
use Rattle.serde_json.specs.Data.{Data}
use Rattle.sk_base.specs.declared.find.Ask.{Ask}
use Rattle.sk_base.specs.declared.find.Join.{Join}
use Rattle.sk_base.specs.declared.find.Options.{Options}
use Rattle.sk_base.specs.declared.schema.Schema.{Schema}
use Rattle.sk_record.specs.declared.row.Sort.{Sort}

-- A values object, and the payload.
pub record Given : Type 0 where
  pub values : Data
  pub payload : List ℕ

-- The order of a find: by relevance, or by a named field, whether in reverse.
pub data Sorted : Type 0 where
  by_relevance : Sorted
  by_field : Sort → List ℕ → Bool → Sorted

-- The named field that is collapsed on, and how many are kept of each value.
pub record CollapsedOn : Type 0 where
  pub field : List ℕ
  pub max : ℕ

-- A find with its options.
pub record Wanted : Type 0 where
  pub ask : Ask Data
  pub options : Options
  pub sorted : Sorted
  pub falling : Bool
  pub collapsed : Option CollapsedOn

-- A query text, the named field whose values are counted, and how many values are told at the most.
pub record Counted : Type 0 where
  pub text : List ℕ
  pub join : Join
  pub field : List ℕ
  pub size : ℕ

-- What is asked of searches in flight, each of which has a number: one is opened, given turns, closed or dropped.
pub data Flight : Type 0 where
  opening : Wanted → Flight
  turning : ℕ → ℕ → Flight
  closing : ℕ → Flight
  dropping : ℕ → Flight

-- The rows. A schema has the number of parts beside it. A field and a text are those of `replace_by` and `delete_by`.
pub data Shape : Type 0 where
  schema : Schema → ℕ → Shape
  add : Given → Shape
  replace : ℕ → Given → Shape
  replace_by : List ℕ × List ℕ → Given → Shape
  delete : ℕ → Shape
  delete_by : List ℕ × List ℕ → Shape
  seek : Wanted → Shape
  show : List ℕ → Join → Shape
  facets : Counted → Shape
  flight : Flight → Shape
