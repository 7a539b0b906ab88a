-- The words that were taken, and those that are left.
use Rattle.std.proofs.Common.{◌≡◌, drop}
use Rattle.sk_query.specs.Trees.{queries_view}
use Rattle.sk_tree.specs.Opened.{term_trees}
use Rattle.sk_tree.proofs.OpenLaws.{joined}
use Rattle.sk_tree.proofs.words.terms_of.Given as goal

abbrev pub invariant-words : goal.invariant-words
invariant-words l = joined (queries_view l.terms.items) (term_trees (drop l.word-index l.words)) ≡ term_trees l.words
