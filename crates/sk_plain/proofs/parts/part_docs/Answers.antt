use Rattle.std.proofs.Common.{rules, sym, ◌∙◌}
use Rattle.sk_sorted.specs.Joined.{part_in}
use Rattle.sk_plain.proofs.PartLemmas.{gathers_one, gathers_other}
use Rattle.sk_plain.proofs.parts.part_docs.Goals as goal

pub docs-preserved-in_ok-insert : goal.docs-preserved-in_ok-insert
docs-preserved-in_ok-insert c =
    gathers_one c.args.parts c.args.part c.docs.own.entries (part_in c.args.parts c.args.part c.args.docs.now.entries)
    c.next.new.self (c.in-Some.id.now, c.in-Some.doc.now) c.insert.new.self.entries c.docs.id-iterator
    (search rules) (sym c.part_of.ensures.value ∙ c.if-part_of-part.true) (search rules) c.docs.invariant

pub docs-preserved-in_ok-insert-2 : goal.docs-preserved-in_ok-insert-2
docs-preserved-in_ok-insert-2 c =
    gathers_one c.args.parts c.args.part c.docs.own.entries (part_in c.args.parts c.args.part c.args.docs.now.entries)
    c.next.new.self (c.in-Some.id.now, c.in-Some.doc.now) c.insert.new.self.entries c.docs.id-iterator
    (search rules) (sym c.part_of.ensures.value ∙ c.if-part_of-part.true) (search rules) c.docs.invariant

pub docs-preserved : goal.docs-preserved
docs-preserved c =
    gathers_other c.args.parts c.args.part c.docs.own.entries (part_in c.args.parts c.args.part c.args.docs.now.entries)
    c.next.new.self (c.in-Some.id.now, c.in-Some.doc.now) c.docs.id-iterator
    (search rules) (λ e. c.if-part_of-part.false (c.part_of.ensures.value ∙ e)) c.docs.invariant
