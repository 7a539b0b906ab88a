use Rattle.std.proofs.Common.{false, true, sym, ◌∙◌}
use Rattle.sk_record.proofs.SchemaLemmas.{some_fields-items_view}
use Rattle.sk_record.proofs.schema.some_fields.Goals as goal

pub returns-then-not-are_few-clause-value : goal.returns-then-not-are_few-clause-value
returns-then-not-are_few-clause-value c = sym (some_fields-items_view c.args.items.now false (sym c.if-not-are_few.true ∙ c.are_few.ensures))

pub returns-clause-value : goal.returns-clause-value
returns-clause-value c =
    c.in_ok-fields.ensures.value ∙ sym (some_fields-items_view c.args.items.now true (sym c.if-not-are_few.false ∙ c.are_few.ensures))
