use Rattle.std.proofs.Common.{◌∙◌}
use Rattle.sk_parser.specs.Sound.{nothing_behind}
use Rattle.sk_parser.specs.Stack.{level_view, below_view}
use Rattle.sk_parser.proofs.SoundLemmas.{closed_end}
use Rattle.sk_parser.proofs.reading.finish.Goals as goal

pub levels-preserved : goal.levels-preserved
levels-preserved c = λ schema.
    c.in_ok-stack.ensures.ends schema nothing_behind
    ∙ closed_end schema c.args.join (level_view schema c.levels.stack.top) (below_view schema (c.levels.stack.below).items) ∙ c.levels.invariant schema
