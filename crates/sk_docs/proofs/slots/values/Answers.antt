use Rattle.std.proofs.Common.{subst, sym, ap, ◌∙◌, ◌+◌, drop_of_length-le, fold, drop, get_or}
use Rattle.sk_base.specs.Documents.{AreValues}
use Rattle.sk_model.specs.Documents.{value_at, slot_values_of, slot_values_from, with_value}
use Rattle.sk_model.proofs.DocumentLaws.{values_rise}
use Rattle.sk_docs.proofs.GatherLemmas.{drop_here}
use Rattle.sk_docs.proofs.TakenLemmas.{left_starts, left_goes_on, left_gives, field_folded}
use Rattle.sk_docs.proofs.slots.values.Goals as goal

pub fields-init : goal.fields-init
fields-init c = (
  left_starts c.args.given.now c.requires.rising,
  ap (λ items. fold with_value items (slot_values_from 0 c.args.fields.now c.args.given.now)) c.new-made.ensures.items,
)

pub taken-requires : goal.taken-requires
taken-requires c = record { stand = c.fields.invariant.0.stand }

pub fields-preserved : goal.fields-preserved
fields-preserved c =
    let far = c.fields.invariant.0 in
    let field = get_or c.args.fields.now c.fields.place c.index-fields-place.result in
    let value = c.taken.ensures.value ∙ left_gives c.fields.place c.fields.left.now c.args.given.now far in (
      left_goes_on c.fields.place c.fields.left.now c.taken.result.1.now c.args.given.now far c.taken.ensures.stand c.taken.ensures.same,
      field_folded with_value c.fields.made.items c.put_given.new.made.items _ (slot_values_of field.kind (value_at c.fields.place c.args.given.now))
          (slot_values_from (c.fields.place + 1) (drop (c.fields.place + 1) c.args.fields.now) c.args.given.now) _
          (c.in_ok-put_given.ensures ∙ ap (λ v. fold with_value c.fields.made.items (slot_values_of field.kind v)) value)
          (ap (λ fields. slot_values_from c.fields.place fields c.args.given.now) (drop_here c.args.fields.now c.fields.place c.index-fields-place.result c.fields-test.true))
          c.fields.invariant.1,
    )

pub from_vec-requires : goal.from_vec-requires
from_vec-requires c =
    let rest = drop_of_length-le c.args.fields.now c.fields-test.false in
    let all = sym c.fields.invariant.1 ∙ ap (λ fields. fold with_value c.fields.made.items (slot_values_from c.fields.place fields c.args.given.now)) rest in
    record { rising = subst AreValues all (values_rise c.args.fields.now c.args.given.now c.requires.apart) }
