use Rattle.std.proofs.Common.{◌∷◌, ◌++◌, [], true, false, map, sym, ap, ◌∙◌, subst}
use Rattle.std.proofs.lemmas.List.{map-append}
use Rattle.sk_parser.specs.Views.{part_view, parts_view, run_view, run_of}
use Rattle.sk_parser.proofs.SplitLemmas.{RunsSoFar, runs_and, runs_more, runs_fresh, runs_not, runs_moved}
use Rattle.sk_parser.proofs.split.runs_in.Goals as goal

pub parts-preserved-then-is_and : goal.parts-preserved-then-is_and
parts-preserved-then-is_and c =
    let all = parts_view c.args.parts.items in
    let made = map run_view c.parts.made.items in
    let held = parts_view c.parts.held.items in
    let rest = parts_view c.next.new.self.rest.items in
    let before = subst (λ xs. RunsSoFar all made held c.parts.fresh c.parts.negative (parts_view xs)) c.in-Some.ensures.steps.0 c.parts.invariant in
    runs_moved all (made ++ run_of c.parts.negative held ∷ []) (map run_view c.close.new.made.items) [] (parts_view c.close.new.held.items) true false rest
    c.in_ok-close.ensures.made c.in_ok-close.ensures.held
    (runs_and all made held c.parts.fresh c.parts.negative (part_view c.in-Some.part) rest (sym c.is_and.ensures ∙ c.if-is_and.true) before)

pub parts-preserved-then-not-is_not : goal.parts-preserved-then-not-is_not
parts-preserved-then-not-is_not c =
    let all = parts_view c.args.parts.items in
    let made = map run_view c.parts.made.items in
    let held = parts_view c.parts.held.items in
    let rest = parts_view c.next.new.self.rest.items in
    let before = subst (λ xs. RunsSoFar all made held c.parts.fresh c.parts.negative (parts_view xs)) c.in-Some.ensures.steps.0 c.parts.invariant in
    subst (λ ps. RunsSoFar all made ps false c.parts.negative rest) (sym (ap parts_view c.in_ok-push.ensures.items ∙ map-append part_view c.parts.held.items (c.in-Some.part ∷ [])))
    (runs_more all made held c.parts.fresh c.parts.negative (part_view c.in-Some.part) rest (sym c.is_not.ensures ∙ c.if-not-is_not.true) (sym c.is_and.ensures ∙ c.if-is_and.false) before)

pub parts-preserved-then-fresh : goal.parts-preserved-then-fresh
parts-preserved-then-fresh c =
    let all = parts_view c.args.parts.items in
    let made = map run_view c.parts.made.items in
    let held = parts_view c.parts.held.items in
    let rest = parts_view c.next.new.self.rest.items in
    let before = subst (λ xs. RunsSoFar all made held c.parts.fresh c.parts.negative (parts_view xs)) c.in-Some.ensures.steps.0 c.parts.invariant in
    runs_fresh all made held c.parts.negative (part_view c.in-Some.part) rest (sym c.is_not.ensures ∙ c.if-not-is_not.false)
    (subst (λ b. RunsSoFar all made held b c.parts.negative (part_view c.in-Some.part ∷ rest)) c.if-fresh.true before)

pub parts-preserved : goal.parts-preserved
parts-preserved c =
    let all = parts_view c.args.parts.items in
    let made = map run_view c.parts.made.items in
    let held = parts_view c.parts.held.items in
    let rest = parts_view c.next.new.self.rest.items in
    let before = subst (λ xs. RunsSoFar all made held c.parts.fresh c.parts.negative (parts_view xs)) c.in-Some.ensures.steps.0 c.parts.invariant in
    runs_moved all (made ++ run_of c.parts.negative held ∷ []) (map run_view c.close-else-fresh.new.made.items) [] (parts_view c.close-else-fresh.new.held.items) c.parts.fresh true rest
    c.in_ok-close-2.ensures.made c.in_ok-close-2.ensures.held
    (subst (λ b. RunsSoFar all (made ++ run_of c.parts.negative held ∷ []) [] b true rest) (sym c.if-fresh.false)
    (runs_not all made held c.parts.negative (part_view c.in-Some.part) rest (sym c.is_not.ensures ∙ c.if-not-is_not.false)
    (subst (λ b. RunsSoFar all made held b c.parts.negative (part_view c.in-Some.part ∷ rest)) c.if-fresh.false before)))
