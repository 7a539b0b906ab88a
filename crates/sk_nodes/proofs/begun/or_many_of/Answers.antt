-- A node of the sides of an or has their shape.
use Rattle.std.proofs.Common.{◌∙◌}
use Rattle.sk_nodes.proofs.NodeLaws.{or_many_written}
use Rattle.sk_nodes.proofs.begun.or_many_of.Goals as goal

pub returns-clause-gathers : goal.returns-clause-gathers
returns-clause-gathers g c =
    let shape = or_many_written c.args.tops c.args.nodes c.begin_or_many.new.tops c.begin_or_many.new.nodes (c.begin_or_many.auto.tops ∙ c.deref_mut.ensures.len) (c.begin_or_many.auto.nodes ∙ c.deref_mut-2.ensures.len) in
    rw (shape, ← c.deref_mut.ensures.value, ← c.deref_mut-2.ensures.value) c.begin_or_many.ensures.gathers

pub returns-clause-spends : goal.returns-clause-spends
returns-clause-spends g c =
    let shape = or_many_written c.args.tops c.args.nodes c.begin_or_many.new.tops c.begin_or_many.new.nodes (c.begin_or_many.auto.tops ∙ c.deref_mut.ensures.len) (c.begin_or_many.auto.nodes ∙ c.deref_mut-2.ensures.len) in
    rw (shape, ← c.deref_mut.ensures.value, ← c.deref_mut-2.ensures.value) c.begin_or_many.ensures.spends

pub returns-clause-accounts : goal.returns-clause-accounts
returns-clause-accounts g c =
    let shape = or_many_written c.args.tops c.args.nodes c.begin_or_many.new.tops c.begin_or_many.new.nodes (c.begin_or_many.auto.tops ∙ c.deref_mut.ensures.len) (c.begin_or_many.auto.nodes ∙ c.deref_mut-2.ensures.len) in
    rw (shape, ← c.deref_mut.ensures.value, ← c.deref_mut-2.ensures.value) c.begin_or_many.ensures.accounts
