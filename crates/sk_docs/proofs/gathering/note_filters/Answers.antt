use Rattle.std.proofs.Common.{ap, ◌∙◌, sym, refl, ◌++◌, drop, get_or, ◌+◌}
use Rattle.std.proofs.lemmas.List.{append_assoc}
use Rattle.sk_model.specs.Documents.{value_at, filter_terms_of, filter_terms_from}
use Rattle.sk_docs.proofs.GatherLemmas.{drop_here}
use Rattle.sk_docs.proofs.TakenLemmas.{left_starts, left_goes_on, left_gives}
use Rattle.sk_docs.proofs.gathering.note_filters.Goals as goal

pub fields-init : goal.fields-init
fields-init c = (left_starts c.args.values.now c.requires.rising, refl)

pub taken-requires : goal.taken-requires
taken-requires c = record { stand = c.fields.invariant.0.stand }

pub fields-preserved : goal.fields-preserved
fields-preserved c =
    let far = c.fields.invariant.0 in
    let field = get_or c.args.fields.now c.fields.place c.index-fields-place.result in
    let value = c.taken.ensures.value ∙ left_gives c.fields.place c.fields.left.now c.args.values.now far in
    let own = filter_terms_of field.kind (value_at c.fields.place c.args.values.now) in
    let more = filter_terms_from (c.fields.place + 1) (drop (c.fields.place + 1) c.args.fields.now) c.args.values.now in (
      left_goes_on c.fields.place c.fields.left.now c.taken.result.1.now c.args.values.now far c.taken.ensures.stand c.taken.ensures.same,
      ap (λ ms. ms ++ more) (c.in_ok-note_filter.ensures ∙ ap (λ v. c.fields.gathered.mentions ++ filter_terms_of field.kind v) value)
          ∙ append_assoc c.fields.gathered.mentions own more
          ∙ ap (λ fields. c.fields.gathered.mentions ++ filter_terms_from c.fields.place fields c.args.values.now)
          (sym (drop_here c.args.fields.now c.fields.place c.index-fields-place.result c.fields-test.true))
          ∙ c.fields.invariant.1,
    )
