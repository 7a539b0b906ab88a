-- What is put in a node's place under a need.
use Rattle.std.specs.Prelude.{◌≡◌, ℕ, ◌<◌, ◌+◌, ◌^◌, ◌==◌}
use Rattle.sk_query.specs.declared.form.Form.{Form}
use Rattle.sk_decay.specs.declared.change.Change.{Change}
use Rattle.sk_decay.specs.Changes.{change_of}
use Rattle.sk_nodes.specs.declared.top.Top.{Top}
use Rattle.sk_nodes.specs.Shapes.{Shape, ended, pair}
use Rattle.sk_nodes.specs.Sound.{Sound, Replaces}
use Rattle.sk_index.specs.Indexed.{Indexed}

-- What a change makes of two sides under a form.
abbrev pub changed_pair : Change → Form → Top → Shape → Top → Shape → Shape
changed_pair Change.Keep form ta a tb b = pair form ta a tb b
changed_pair Change.Nothing form ta a tb b = ended
changed_pair Change.First form ta a tb b = a
changed_pair Change.Second form ta a tb b = b
changed_pair Change.Maybe form ta a tb b = pair Form.AndMaybe ta a tb b
changed_pair Change.MaybeSwap form ta a tb b = pair Form.AndMaybe tb b ta a
changed_pair Change.Both form ta a tb b = pair Form.And ta a tb b
changed_pair Change.Not form ta a tb b = pair Form.AndNot ta a tb b
changed_pair Change.NotSwap form ta a tb b = pair Form.AndNot tb b ta a

-- What two sides can weigh together fits into 63 bits.
abbrev pub SidesFit : Shape → Type 0
SidesFit (pair form ta a tb b) = ta.greatest + tb.greatest < 2 ^ 127
SidesFit _ = Unit {0}

-- What stands for a node under a need: of two sides what the table of the form says, and any other node itself.
abbrev pub decayed : ℕ → Shape → Shape
decayed need (pair form ta a tb b) = changed_pair (change_of form ta.greatest tb.greatest (ta.head == 2 ^ 32) (tb.head == 2 ^ 32) need) form ta a tb b
decayed need s = s

-- What is put in a node's place under a need is what the table says, and may stand for it.
pub record IsDecayed (need : ℕ) (old new : Shape) : Type 0 where
  pub covers : (i : Indexed) → Sound i old → Replaces i need old new
  pub table : new ≡ decayed need old
