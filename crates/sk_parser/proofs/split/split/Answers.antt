use Rattle.std.proofs.Common.{◌∷◌, ◌++◌, [], sym, ap, ◌∙◌, subst}
use Rattle.std.proofs.lemmas.List.{map-append}
use Rattle.sk_parser.specs.Views.{part_view, parts_view, segment_view, segments_view, border_test}
use Rattle.sk_parser.proofs.SplitLemmas.{SoFar, split_in, split_cut, split_moved}
use Rattle.sk_parser.proofs.split.split.Goals as goal

pub parts-preserved-then-is_at : goal.parts-preserved-then-is_at
parts-preserved-then-is_at c =
    let test = border_test c.args.border in
    let all = parts_view c.args.parts.items in
    let made = segments_view c.parts.made.items in
    let held = parts_view c.parts.held.items in
    let rest = parts_view c.next.new.self.rest.items in
    let before = subst (λ xs. SoFar test all made held (parts_view xs)) c.in-Some.ensures.steps.0 c.parts.invariant in
    split_moved test all (made ++ held ∷ []) (segments_view c.push.new.self.items) [] (parts_view c.replace.new.dest.items) rest
    (ap segments_view c.in_ok-push.ensures.items ∙ map-append segment_view c.parts.made.items (c.replace.result ∷ []) ∙ ap (λ v. made ++ segment_view v ∷ []) c.replace.ensures.value)
    (ap segment_view c.replace.ensures.after ∙ ap parts_view c.new.ensures.items)
    (split_cut test all made held (part_view c.in-Some.part) rest (sym c.is_at.ensures ∙ c.if-is_at.true) before)

pub parts-preserved : goal.parts-preserved
parts-preserved c =
    let test = border_test c.args.border in
    let all = parts_view c.args.parts.items in
    let made = segments_view c.parts.made.items in
    let held = parts_view c.parts.held.items in
    let rest = parts_view c.next.new.self.rest.items in
    let before = subst (λ xs. SoFar test all made held (parts_view xs)) c.in-Some.ensures.steps.0 c.parts.invariant in
    subst (λ ps. SoFar test all made ps rest) (sym (ap parts_view c.in_ok-push-2.ensures.items ∙ map-append part_view c.parts.held.items (c.in-Some.part ∷ [])))
    (split_in test all made held (part_view c.in-Some.part) rest (sym c.is_at.ensures ∙ c.if-is_at.false) before)
