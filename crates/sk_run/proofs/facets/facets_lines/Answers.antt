use Rattle.std.proofs.Common.{string_bytes, ◌∙◌}
use Rattle.sk_run.proofs.FacetLemmas.{next_value}
use Rattle.sk_run.proofs.facets.facets_lines.Goals as goal

pub values-preserved : goal.values-preserved
values-preserved c =
    let same = c.as_slice-facet-items.ensures in
    next_value (string_bytes c.values.text) (string_bytes c.push_facet_line.new.text) c.args.kind c.values.facet-index c.args.facets.now.values c.facet-item.result (rw same at c.values-test.true) (rw same at c.facet-item.is) c.in_ok-push_facet_line.ensures
    ∙ c.values.invariant
