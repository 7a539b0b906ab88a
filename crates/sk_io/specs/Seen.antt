-- What is seen of a source and of a sink.
use Rattle.std.specs.Prelude.{ℕ, Bool, List, Option}

-- Of a source: the bytes still to come, where it tells them, and how often it has failed.
pub record Seen : Type 0 where
  pub left : Option (List ℕ)
  pub faults : ℕ

-- Of a sink: the bytes that it took, where it tells them, how often it has failed, how often it was to finish, the calls that failed included, and whether all that it took is where it belongs.
pub record Taken : Type 0 where
  pub held : Option (List ℕ)
  pub faults : ℕ
  pub finishes : ℕ
  pub settled : Bool
