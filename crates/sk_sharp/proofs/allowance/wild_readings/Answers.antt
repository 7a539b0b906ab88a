use Rattle.std.proofs.Common.{◌∙◌, sym, ap}
use Rattle.sk_base.specs.Numbers.{length_of, terms_with}
use Rattle.sk_model.specs.Bounds.{lengths_of}
use Rattle.sk_sharp.proofs.ListLemmas.{sum_is}
use Rattle.sk_sharp.proofs.allowance.wild_readings.Goals as goal

pub returns : goal.returns
returns c =
    c.lengths_of.ensures.value
    ∙ ap (λ ts. lengths_of ts c.args.docs.now.entries) (c.as_slice.ensures ∙ c.in_ok-terms.ensures)
    ∙ sym (sum_is (λ t. length_of t c.args.docs.now.entries) (terms_with c.args.prefix.now c.args.docs.now.entries))
