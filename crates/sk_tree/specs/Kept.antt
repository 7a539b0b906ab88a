-- What a tree keeps of its accounts of steps.
use Rattle.std.specs.Prelude.{ℕ}
use Rattle.sk_index.specs.Indexed.{Indexed}
use Rattle.sk_tree.specs.declared.tree.Tree.{Tree}
use Rattle.sk_tree.specs.Built.{gives}
use Rattle.sk_tree.specs.Stops.{PaysToStop, MayMove}
use Rattle.sk_tree.specs.Rare.{Rare}
use Rattle.sk_tree.specs.Decays.{Decays, MayFall}

-- A tree was sought from the target under the need, and keeps each account that it had: it goes on to stop at a point up to which it may go; a list that leads goes on to lead; and of two lists of which one fades it reads no more than the account says, as long as that is not asked for behind the point.
pub record KeepsAccounts (i : Indexed) (target need : ℕ) (old new : Tree) : Type 0 where
  pub stops : (point most : ℕ) → PaysToStop i old point most → MayMove point target need old.top.greatest (gives i old point) → PaysToStop i new point most
  pub rare : (most : ℕ) → Rare i old most → Rare i new most
  pub decays : (point greatest most : ℕ) → Decays i old point greatest most → MayFall point greatest target need old.top.greatest → Decays i new point greatest most
