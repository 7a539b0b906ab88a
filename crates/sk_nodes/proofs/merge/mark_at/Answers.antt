-- What is read does not depend on what would stand for it.
use Rattle.std.proofs.Common.{◌∙◌, List, slice_index_or, ap}
use Rattle.std.proofs.lemmas.List.{get_or_default}
use Rattle.sk_buckets.specs.declared.mark.Mark.{Mark}
use Rattle.sk_nodes.proofs.merge.mark_at.Goals as goal

pub returns : goal.returns
returns c d =
    ap (λ (ms : List Mark). slice_index_or ms c.args.which (record { head = 0; weight = 0; greatest = 0 })) c.marks.ensures.value
    ∙ get_or_default c.args.queue.now c.args.which (record { head = 0; weight = 0; greatest = 0 }) d c.requires
