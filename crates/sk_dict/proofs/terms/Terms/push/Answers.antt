use Rattle.std.proofs.Common.{◌++◌, ◌∷◌, [], ap, ◌∙◌}
use Rattle.sk_dict.proofs.CutLemmas.{terms-push, packed-push}
use Rattle.sk_dict.proofs.terms.Terms.push.Goals as goal

-- one term more
pub invariant_of-self-2 : goal.invariant_of-self-2
invariant_of-self-2 c =
    packed-push c.self.inside.bytes.items c.self.inside.ends.items c.self.inside.heads.items c.args.term.now c.extend_from_slice.new.self.items c.push_reserved.new.self.items c.push_reserved-2.new.self.items
    c.len.result c.head_of.result c.self.invariant
    (c.in_ok-extend_from_slice.ensures.items ∙ ap (λ w. w ++ c.args.term.now) c.in_ok-make_room_for.ensures.same)
    (c.push_reserved.ensures.items ∙ ap (λ w. w ++ c.len.result ∷ []) c.in_ok-make_room.ensures.same)
    (c.push_reserved-2.ensures.items ∙ ap (λ w. w ++ c.head_of.result ∷ []) c.in_ok-make_room-2.ensures.same)
    (c.len.ensures ∙ c.extend_from_slice.new.self.ok.0) c.head_of.ensures.value c.head_of.ensures.bytes

pub returns-clause-ok : goal.returns-clause-ok
returns-clause-ok c =
    terms-push c.self.inside.bytes.items c.self.inside.ends.items c.self.inside.heads.items c.args.term.now c.extend_from_slice.new.self.items c.push_reserved.new.self.items c.len.result c.self.invariant
    (c.in_ok-extend_from_slice.ensures.items ∙ ap (λ w. w ++ c.args.term.now) c.in_ok-make_room_for.ensures.same)
    (c.push_reserved.ensures.items ∙ ap (λ w. w ++ c.len.result ∷ []) c.in_ok-make_room.ensures.same)
    (c.len.ensures ∙ c.extend_from_slice.new.self.ok.0) ∙ ap (λ w. w ++ c.args.term.now ∷ []) c.self.view_is
