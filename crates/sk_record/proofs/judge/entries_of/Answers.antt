use Rattle.std.proofs.Common.{◌∷◌, suc, drop, sym, ap, ◌∙◌, subst, rules}
use Rattle.std.proofs.Math.Seq.{drop-cons}
use Rattle.serde_json.specs.View.{view}
use Rattle.serde_json.specs.Find.{get}
use Rattle.sk_record.specs.FieldRules.{member_value}
use Rattle.sk_record.specs.Taken.{without_member}
use Rattle.sk_record.proofs.TakenLemmas.{Keeps, keeps_more}
use Rattle.sk_record.proofs.judge.entries_of.Goals as goal

pub fields-preserved : goal.fields-preserved
fields-preserved c =
    let fields = c.args.fields.now in
    let field = c.index-fields-place.result in
    let before = view c.fields.values in
    let left = c.take_member-member.ensures.left ∙ ap (λ name. without_member name before) c.as_str.ensures in
    let there = sym c.in-Some.is ∙ c.in_ok-value.ensures ∙ ap (member_value field.kind) (c.take_member-member.ensures.taken ∙ ap (λ name. get name before) c.as_str.ensures) in
    let next = drop-cons fields c.fields.place field c.fields-test.true ∙ ap (λ f. f ∷ drop (suc c.fields.place) fields) (sym c.index-fields-place.is) in
    let kept = keeps_more fields (view c.args.values) field (drop (suc c.fields.place) fields) c.fields.place before (view c.take_member-member.new.value)
    c.fields.entries c.push_entry.new.entries c.in-Some.value left there c.in_ok-push_entry.ensures
    (subst (λ fs. Keeps fields (view c.args.values) fs c.fields.place before c.fields.entries) next c.fields.invariant) in
    search (rules, kept)
