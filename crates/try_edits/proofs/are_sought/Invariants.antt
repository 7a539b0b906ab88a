use Rattle.sk_lists.specs.Cursor.{IsOn}
use Rattle.try_edits.proofs.are_sought.Given as goal

abbrev pub invariant-seeks : goal.invariant-seeks
invariant-seeks g l = IsOn l.cursor l.both.list
