use Rattle.std.proofs.Common.{[], ap, ◌∙◌}
use Rattle.sk_grammar.specs.Parts.{prefix_in}
use Rattle.sk_parser.specs.Views.{parts_behind}
use Rattle.sk_parser.specs.Stack.{level_view, below_view}
use Rattle.sk_parser.proofs.StackLemmas.{open_moved, below_last, prefix_or}
use Rattle.sk_parser.proofs.stack.open.Goals as goal

pub returns : goal.returns
returns c = λ schema join behind.
    open_moved schema join (level_view schema c.args.stack.top) (level_view schema (record { field = c.field_or.result; parts = c.new.result }))
    (below_view schema (c.args.stack.below).items) (below_view schema (c.push.new.self).items) c.args.field behind.here behind.outside
    (ap (below_view schema) c.in_ok-push.ensures.items ∙ below_last schema (c.args.stack.below).items c.args.stack.top)
    (ap (prefix_in schema []) c.field_or.ensures ∙ prefix_or schema c.args.field c.args.stack.top.field)
    (ap parts_behind c.new.ensures.items)
