use Rattle.std.proofs.Common.{◌++◌, ◌∷◌, [], ap, ◌∙◌, length, bytes_eq, sym, subst, arith}
use Rattle.std.proofs.lemmas.List.Sorted.{length_permutation}
use Rattle.std.specs.List.{list_any}
use Rattle.sk_base.specs.declared.facets.Facet.{Facet}
use Rattle.sk_model.specs.Facets.{times, AreCounted}
use Rattle.sk_model.specs.Laws.{AreTallied}
use Rattle.sk_model.proofs.FacetLaws.{few_facets}
use Rattle.sk_plain.proofs.FacetLemmas.{AreTalliedTo, passed, put_last, tallied_all, put_whole, no_value, some_value}
use Rattle.sk_plain.proofs.facets.count_values.Goals.{then-is_empty-via-then-is_empty, then-is_empty-via-else-is_empty+then-is_there}
use Rattle.sk_plain.proofs.facets.count_values.Goals as goal

pub values-preserved-then-is_empty : goal.values-preserved-then-is_empty
values-preserved-then-is_empty c =
    passed c.args.values.now c.values.value-index c.values.facets.items c.value-item.result (omega arith) c.value-item.is
    (elim c.then-is_empty.branch [
      | then-is_empty-via-then-is_empty w ↦ λ some. absurd (no_value c.value-item.result c.as_slice-value.result.now c.as_slice-value.ensures (sym w.if-is_empty.true ∙ c.is_empty.ensures) some)
      | then-is_empty-via-else-is_empty+then-is_there w ↦ λ some.
          (λ i. list_any (λ (f : Facet). bytes_eq f.value (sym c.as_slice-value.ensures i)) (sym w.as_slice.ensures.value i)) ∙ sym w.is_there.ensures ∙ w.if-is_there.true
    ])
    c.values.invariant

pub values-preserved : goal.values-preserved
values-preserved c =
    subst (AreTalliedTo c.args.values.now _)
    (sym (c.in_ok-push.ensures.items ∙ ap (λ x. c.values.facets.items ++ x ∷ []) (c.in_ok-facet.ensures ∙ λ i. record { value = c.as_slice-value.ensures i; count = times (c.as_slice-value.ensures i) c.args.values.now })))
    (put_last c.args.values.now c.values.value-index c.values.facets.items c.value-item.result (omega arith) c.value-item.is
    (some_value c.value-item.result c.as_slice-value.result.now c.as_slice-value.ensures (sym c.if-is_empty.false ∙ c.is_empty.ensures))
    ((λ i. list_any (λ (f : Facet). bytes_eq f.value (sym c.as_slice-value.ensures i)) (sym c.as_slice.ensures.value i)) ∙ sym c.is_there.ensures ∙ c.if-is_there.false)
    c.values.invariant)

pub returns-clause-counted : goal.returns-clause-counted
returns-clause-counted c =
    subst (AreCounted c.args.values.now)
    (put_whole c.values.facets.len c.values.facets.items c.sort_facets.new.facets
    (omega (arith, length_permutation _ _ c.sort_facets.ensures.same, ap length c.deref_mut.ensures.value, c.values.facets.ok)))
    (c.sort_facets.ensures.counted c.args.values.now (subst (AreTallied c.args.values.now) (sym c.deref_mut.ensures.value)
    (tallied_all c.args.values.now c.values.facets.items (subst (λ n. AreTalliedTo c.args.values.now n c.values.facets.items) (omega arith) c.values.invariant))))

pub returns-clause-few : goal.returns-clause-few
returns-clause-few c = few_facets c.args.values.now _ (returns-clause-counted c)
