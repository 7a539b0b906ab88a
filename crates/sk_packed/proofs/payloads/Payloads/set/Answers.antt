-- The document has an entry with the text, and each other entry stays.
use Rattle.std.proofs.Common.{sym, ap, ◌∙◌}
use Rattle.sk_sorted.specs.Entries.{found}
use Rattle.sk_sorted.proofs.EntryLaws.{found-put, found-put_other}
use Rattle.sk_sorted.specs.Runs.{flat}
use Rattle.sk_packed.specs.Payloads.{text_or_empty, payload_of}
use Rattle.sk_packed.proofs.payloads.Payloads.set.Goals as goal

pub returns-clause-value : goal.returns-clause-value
returns-clause-value c = ap text_or_empty (ap (found c.args.id) c.in_ok-put.ensures.ok ∙ found-put c.args.id c.args.payload (flat c.self.inside.texts))

pub returns-clause-others : goal.returns-clause-others
returns-clause-others c =
    λ other apart. ap text_or_empty (ap (found other) c.in_ok-put.ensures.ok ∙ found-put_other c.args.id other c.args.payload (flat c.self.inside.texts) (λ same. apart (sym same))) ∙ ap (payload_of other) c.self.view_is
