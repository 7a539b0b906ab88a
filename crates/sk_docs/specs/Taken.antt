-- Which values of a record are still to be taken, when its fields are gone through.
use Rattle.std.specs.Prelude.{◌<◌, ◌≤◌, ℕ, List, All, AllPairs}
use Rattle.sk_base.specs.declared.record.Entry.{Entry}

-- The entries stand by rising place, from this one on.
pub record StandFrom (place : ℕ) (values : List Entry) : Type 0 where
  pub rising : AllPairs (λ a b. a.field < b.field) values
  pub from : All (λ entry. place ≤ entry.field) values
