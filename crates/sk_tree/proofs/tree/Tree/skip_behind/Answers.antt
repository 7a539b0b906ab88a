use Rattle.sk_tree.specs.declared.tree.Tree.{Tree}
use Rattle.sk_tree.proofs.RangeSkipLaws.{tree_skips_if}
use Rattle.sk_tree.proofs.tree.Tree.skip_behind.Goals as goal

pub returns-clause-some : goal.returns-clause-some
returns-clause-some g c =
    let new : Tree = record { top = c.skip_behind.new.top; node = c.skip_behind.new.node; need = c.args.self.now.need; spent = c.skip_behind.new.spent } in
    tree_skips_if c.args.index.now c.args.key c.args.last.now c.skip_behind.result c.args.self.now new c.requires.tree c.skip_behind.ensures.some
