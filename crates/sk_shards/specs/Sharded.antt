-- Documents in several indexes.
use Rattle.std.specs.Prelude.{List}
use Rattle.sk_base.specs.declared.schema.Schema.{Schema}
use Rattle.sk_model.specs.Edits.{Live}
use Rattle.sk_index.specs.Indexed.{Indexed}

-- The schema, the live documents under joined ids with the highest that was ever used, and the indexes, in the order of their turns.
pub record Sharded : Type 0 where
  pub schema : Schema
  pub live : Live
  pub indexes : List Indexed
