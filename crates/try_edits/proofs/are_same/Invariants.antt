use Rattle.sk_lists.specs.Cursor.{IsOn}
use Rattle.try_edits.proofs.are_same.Given as goal

abbrev pub invariant-entries : goal.invariant-entries
invariant-entries g l = IsOn l.cursor l.both.list
