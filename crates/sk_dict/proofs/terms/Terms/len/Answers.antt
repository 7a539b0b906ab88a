use Rattle.std.proofs.Common.{length, sym, ap, ◌∙◌}
use Rattle.sk_dict.proofs.CutLemmas.{length-cut}
use Rattle.sk_dict.proofs.terms.Terms.len.Goals as goal

pub returns : goal.returns
returns c =
    c.len.ensures ∙ c.self.inside.ends.ok.0 ∙ sym (length-cut 0 c.self.inside.ends.items c.self.inside.bytes.items) ∙ ap length c.self.view_is
