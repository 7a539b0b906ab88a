-- What the walk adds up is the sum over the terms of the documents.
use Rattle.std.proofs.Common.{◌^◌, ◌-◌, min, ap, ◌∙◌}
use Rattle.sk_base.specs.Numbers.{greatest_of}
use Rattle.sk_chunks.specs.Postings.{greatest_wdf}
use Rattle.sk_terms.specs.Listed.{list_of}
use Rattle.sk_terms.specs.Wild.{figure_of}
use Rattle.sk_terms.specs.declared.term_lists.Figure.TheVariants as Figure
use Rattle.sk_index.proofs.WildLemmas.{sum_behind-terms_with, greatest_of-none}
use Rattle.sk_index.proofs.NumberLemmas.{greatest-postings}
use Rattle.sk_index.proofs.stats.IndexStats.wild_greatest.Goals as goal

pub returns : goal.returns
returns c =
    let docs = c.args.self.now.live.documents in
    let terms = c.term_lists.result.now in
    let lists = c.term_lists.ensures.entries in
    let sums = sum_behind-terms_with (λ t. figure_of Figure.Greatest (list_of t terms)) (λ t. greatest_of t docs) c.args.prefix.now terms docs c.sum.ensures.sound c.term_lists.ensures.ordered lists
    (λ t. ap greatest_wdf (lists t) ∙ greatest-postings t docs) (λ t none. greatest_of-none t docs none) in
    c.sum.ensures.value ∙ (λ i. min (2 ^ 29 - 1) (sums i))
