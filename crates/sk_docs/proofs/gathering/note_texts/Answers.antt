use Rattle.std.proofs.Common.{◌+◌, ◌*◌, ◌≤◌, subst, sym, ap, ◌∙◌, drop, arith, get_or}
use Rattle.sk_base.specs.Records.{most_bytes}
use Rattle.sk_model.specs.Documents.{occurrences_of, text_fields}
use Rattle.sk_docs.specs.Gathered.{CanGather, after, bytes_of_given}
use Rattle.sk_docs.proofs.GatherLemmas.{InFields, bytes_of_one, fields_start, fields_go_on, room_here, kind_is_sound, drop_here}
use Rattle.sk_docs.proofs.TakenLemmas.{left_starts, left_goes_on, left_gives}
use Rattle.sk_docs.proofs.gathering.note_texts.Goals as goal

pub fields-init : goal.fields-init
fields-init c = (left_starts c.args.values.now c.requires.rising, fields_start c.args.values.now c.args.gathered.now c.args.fields.now c.requires.room)

pub taken-requires : goal.taken-requires
taken-requires c = record { stand = c.fields.invariant.0.stand }

pub note_value-requires-clause-sound : goal.note_value-requires-clause-sound
note_value-requires-clause-sound c = kind_is_sound c.args.fields.now c.fields.place c.index-fields-place.result c.requires.sound c.fields-test.true

pub note_value-requires-clause-small : goal.note_value-requires-clause-small
note_value-requires-clause-small c =
    subst (λ value. bytes_of_given value ≤ most_bytes) (sym (c.taken.ensures.value ∙ left_gives c.fields.place c.fields.left.now c.args.values.now c.fields.invariant.0))
    (omega (arith, bytes_of_one c.fields.place c.args.values.now, c.requires.small))

pub note_value-requires-clause-room : goal.note_value-requires-clause-room
note_value-requires-clause-room c =
    subst (λ value. CanGather c.fields.gathered c.fields.before (bytes_of_given value + 1))
    (sym (c.taken.ensures.value ∙ left_gives c.fields.place c.fields.left.now c.args.values.now c.fields.invariant.0))
    (room_here c.args.values.now c.args.gathered.now c.fields.gathered c.fields.place c.fields.before _ c.args.fields.now c.fields.invariant.1)

pub fields-preserved : goal.fields-preserved
fields-preserved c =
    let far = c.fields.invariant.0 in
    let field = get_or c.args.fields.now c.fields.place c.index-fields-place.result in
    let value = c.taken.ensures.value ∙ left_gives c.fields.place c.fields.left.now c.args.values.now far in (
      left_goes_on c.fields.place c.fields.left.now c.taken.result.1.now c.args.values.now far c.taken.ensures.stand c.taken.ensures.same,
      subst (λ n. InFields c.args.values.now c.args.gathered.now c.note_value.new.gathered (c.fields.place + 1) (c.fields.before + n) (drop (c.fields.place + 1) c.args.fields.now) c.args.fields.now)
          (sym c.text_fields-own.ensures)
          (fields_go_on c.args.values.now c.args.gathered.now c.fields.gathered c.note_value.new.gathered c.fields.place c.fields.before field _ c.args.fields.now
          (kind_is_sound c.args.fields.now c.fields.place c.index-fields-place.result c.requires.sound c.fields-test.true)
          (omega (arith, c.fields-test.true, c.requires.few))
          (subst (λ rest. InFields c.args.values.now c.args.gathered.now c.fields.gathered c.fields.place c.fields.before rest c.args.fields.now)
          (drop_here c.args.fields.now c.fields.place c.index-fields-place.result c.fields-test.true) c.fields.invariant.1)
          (c.in_ok-note_value.ensures.value ∙ ap (λ v. after c.fields.gathered (occurrences_of field.kind c.fields.before v)) value)
          (subst (λ v. 2 * c.note_value.new.gathered.next ≤ 2 * c.fields.gathered.next + bytes_of_given v + text_fields field.kind) value c.in_ok-note_value.ensures.count)),
    )
