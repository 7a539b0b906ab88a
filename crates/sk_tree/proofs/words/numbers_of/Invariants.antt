-- Those that were found, and those that are left.
use Rattle.std.proofs.Common.{◌≡◌, ◌++◌, map, drop}
use Rattle.sk_dict.specs.Terms.{term_at}
use Rattle.sk_tree.specs.Opened.{numbered}
use Rattle.sk_nodes.specs.Proximity.{AreThere}
use Rattle.sk_tree.proofs.words.numbers_of.Given as goal

abbrev pub invariant-words : goal.invariant-words
invariant-words l = record {
  there : AreThere l.index l.numbers.items;
  terms : map (term_at l.index.terms) l.numbers.items ++ numbered l.index (drop l.word-index l.words) ≡ numbered l.index l.words;
}
