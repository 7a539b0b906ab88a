use Rattle.std.proofs.Common.{rules}
use Rattle.sk_reference.proofs.SearchLaws.{copied}
use Rattle.sk_reference.proofs.search.copy_of.Goals as goal

pub docs-preserved-in_ok-insert : goal.docs-preserved-in_ok-insert
docs-preserved-in_ok-insert c =
    copied c.in-Some.id.now c.in-Some.doc.now c.in_ok-doc.doc c.docs.copy.entries c.insert.new.self.entries c.docs.id-iterator c.next.new.self c.args.docs.now.entries
    (search rules) (search rules) (search rules) c.docs.invariant c.requires

pub docs-preserved : goal.docs-preserved
docs-preserved c =
    copied c.in-Some.id.now c.in-Some.doc.now c.in_ok-doc.doc c.docs.copy.entries c.insert.new.self.entries c.docs.id-iterator c.next.new.self c.args.docs.now.entries
    (search rules) (search rules) (search rules) c.docs.invariant c.requires
