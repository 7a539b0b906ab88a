use Rattle.std.proofs.Common.{rules}
use Rattle.sk_base.specs.Numbers.{terms_with}
use Rattle.sk_sharp.proofs.ListLemmas.{terms_more}
use Rattle.sk_sharp.proofs.lists.terms_with.Goals as goal

pub docs-preserved : goal.docs-preserved
docs-preserved c =
    terms_more c.args.prefix.now c.docs.terms c.push_last.new.terms (terms_with c.args.prefix.now c.args.docs.now.entries)
    (c.in-Some.field-0-0.now, c.in-Some.doc.now) c.docs.left c.next.new.self
    (search rules) (search rules) c.docs.invariant
