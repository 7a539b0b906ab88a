-- The entry of the document goes, and no other.
use Rattle.std.proofs.Common.{sym, ap, ◌∙◌}
use Rattle.sk_sorted.specs.Entries.{found}
use Rattle.sk_sorted.proofs.EntryLaws.{found-without, found-without_other}
use Rattle.sk_sorted.specs.Runs.{flat}
use Rattle.sk_packed.specs.Payloads.{text_or_empty, payload_of}
use Rattle.sk_packed.proofs.payloads.Payloads.clear.Goals as goal

pub returns-clause-value : goal.returns-clause-value
returns-clause-value c = ap text_or_empty (ap (found c.args.id) c.take.ensures.after ∙ found-without 0 c.args.id (flat c.self.inside.texts) c.length-sorted.ensures.sorted.rise)

pub returns-clause-others : goal.returns-clause-others
returns-clause-others c =
    λ other apart. ap text_or_empty (ap (found other) c.take.ensures.after ∙ found-without_other c.args.id other (flat c.self.inside.texts) (λ same. apart (sym same))) ∙ ap (payload_of other) c.self.view_is
