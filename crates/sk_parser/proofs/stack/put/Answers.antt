use Rattle.std.proofs.Common.{[], ap, ◌∙◌}
use Rattle.sk_grammar.specs.Parts.{prefix_in, single_part, with_part}
use Rattle.sk_parser.specs.Views.{parts_behind}
use Rattle.sk_parser.specs.Stack.{level_view, below_view}
use Rattle.sk_parser.proofs.StackLemmas.{put_moved}
use Rattle.sk_parser.proofs.stack.put.Goals as goal

pub returns : goal.returns
returns c = λ join behind.
    put_moved c.args.schema.now join (level_view c.args.schema.now c.args.stack.top) (level_view c.args.schema.now c.in_ok-top.top) (below_view c.args.schema.now (c.args.stack.below).items)
    c.args.kind.now behind.here behind.outside (ap (prefix_in c.args.schema.now []) c.in_ok-top.ensures.field)
    (c.in_ok-top.ensures.parts ∙ ap (with_part (parts_behind (c.args.stack.top.parts).items)) (c.in_ok-part.ensures ∙ ap (λ prefix. single_part c.args.schema.now prefix c.args.kind.now) c.prefix_in.ensures))
