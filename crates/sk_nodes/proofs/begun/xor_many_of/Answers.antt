-- A node of the sides of an xor has their shape.
use Rattle.std.proofs.Common.{◌∙◌}
use Rattle.sk_nodes.proofs.NodeLaws.{xor_many_written}
use Rattle.sk_nodes.proofs.begun.xor_many_of.Goals as goal

pub returns-clause-gathers : goal.returns-clause-gathers
returns-clause-gathers g c =
    let shape = xor_many_written c.args.tops c.args.nodes c.begin_xor_many.new.tops c.begin_xor_many.new.nodes (c.begin_xor_many.auto.tops ∙ c.deref_mut.ensures.len) (c.begin_xor_many.auto.nodes ∙ c.deref_mut-2.ensures.len) in
    rw (shape, ← c.deref_mut.ensures.value, ← c.deref_mut-2.ensures.value) c.begin_xor_many.ensures.gathers

pub returns-clause-spends : goal.returns-clause-spends
returns-clause-spends g c =
    let shape = xor_many_written c.args.tops c.args.nodes c.begin_xor_many.new.tops c.begin_xor_many.new.nodes (c.begin_xor_many.auto.tops ∙ c.deref_mut.ensures.len) (c.begin_xor_many.auto.nodes ∙ c.deref_mut-2.ensures.len) in
    rw (shape, ← c.deref_mut.ensures.value, ← c.deref_mut-2.ensures.value) c.begin_xor_many.ensures.spends
