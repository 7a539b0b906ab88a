use Rattle.std.proofs.Common.{take, ap, ◌∙◌}
use Rattle.sk_dict.specs.Cuts.{start_at}
use Rattle.sk_dict.proofs.CutLemmas.{terms-take, packed-take}
use Rattle.sk_dict.proofs.terms.Terms.truncate.Goals as goal

-- the first terms are left
pub invariant_of-self : goal.invariant_of-self
invariant_of-self c =
    packed-take c.self.inside.bytes.items c.self.inside.ends.items c.self.inside.heads.items c.truncate-3.new.self.items c.truncate.new.self.items c.truncate-2.new.self.items
    c.args.count c.start-end.result c.self.invariant c.truncate-3.ensures.items c.truncate.ensures.items c.truncate-2.ensures.items
    (c.start-end.ensures ∙ ap (λ w. start_at 0 w c.len.result) c.deref.ensures.value ∙ ap (start_at 0 c.truncate.new.self.items) (c.len.ensures ∙ c.truncate.new.self.ok.0))

pub returns : goal.returns
returns c =
    terms-take c.self.inside.bytes.items c.self.inside.ends.items c.self.inside.heads.items c.truncate-3.new.self.items c.truncate.new.self.items
    c.args.count c.start-end.result c.self.invariant c.truncate-3.ensures.items c.truncate.ensures.items
    (c.start-end.ensures ∙ ap (λ w. start_at 0 w c.len.result) c.deref.ensures.value ∙ ap (start_at 0 c.truncate.new.self.items) (c.len.ensures ∙ c.truncate.new.self.ok.0))
    ∙ ap (take c.args.count) c.self.view_is
