use Rattle.std.proofs.Common.{◌≤◌, length, rules, sym, subst}
use Rattle.sk_query.specs.Trees.{query_view}
use Rattle.sk_model.specs.Facets.{values_found}
use Rattle.sk_plain.proofs.FacetLemmas.{few_values, value_step, no_value_step}
use Rattle.sk_plain.proofs.facets.values_found.Goals as goal

pub docs-preserved-in-Continue-branch-2 : goal.docs-preserved-in-Continue-branch-2
docs-preserved-in-Continue-branch-2 c =
    value_step (query_view c.args.query.now) c.args.slot c.docs.values.items c.push.new.self.items
    (values_found (query_view c.args.query.now) c.args.slot c.args.docs.now.entries)
    c.in_ok-value.value (c.in-Some.field-0-0.now, c.in-Some.doc.now) c.docs.doc-iterator c.next.new.self
    (search rules) (search rules) (search rules) (search rules) c.docs.invariant

pub docs-preserved : goal.docs-preserved
docs-preserved c =
    no_value_step (query_view c.args.query.now) c.args.slot c.docs.values.items
    (values_found (query_view c.args.query.now) c.args.slot c.args.docs.now.entries)
    (c.in-Some.field-0-0.now, c.in-Some.doc.now) c.docs.doc-iterator c.next.new.self
    (search rules) (search rules) c.docs.invariant

pub returns-clause-few : goal.returns-clause-few
returns-clause-few c =
    subst (λ values. length values ≤ length c.args.docs.now.entries) (sym (search rules))
    (few_values (query_view c.args.query.now) c.args.slot c.args.docs.now.entries)
