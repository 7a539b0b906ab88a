use Rattle.std.proofs.Common.{◌≡◌, ◌++◌}
use Rattle.sk_run.proofs.words.collected.Given as goal

abbrev pub invariant-words : goal.invariant-words
invariant-words l = l.words.items ++ l.word-iterator.rest.items ≡ l.fn.args.rest.items
