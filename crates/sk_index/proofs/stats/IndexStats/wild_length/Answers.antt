-- What the walk adds up is the sum over the terms of the documents.
use Rattle.std.proofs.Common.{ℕ, min, length, ap, ◌∙◌}
use Rattle.std.proofs.lemmas.List.{length-map}
use Rattle.sk_base.specs.Numbers.{length_of}
use Rattle.sk_model.specs.Documents.{Document}
use Rattle.sk_terms.specs.Listed.{list_of}
use Rattle.sk_terms.specs.Wild.{figure_of}
use Rattle.sk_terms.specs.declared.term_lists.Figure.TheVariants as Figure
use Rattle.sk_index.proofs.WildLemmas.{sum_behind-terms_with, length_of-none}
use Rattle.sk_index.proofs.NumberLemmas.{length-postings}
use Rattle.sk_index.proofs.stats.IndexStats.wild_length.Goals as goal

pub returns : goal.returns
returns c =
    let docs = c.args.self.now.live.documents in
    let terms = c.term_lists.result.now in
    let lists = c.term_lists.ensures.entries in
    let sums = sum_behind-terms_with (λ t. figure_of Figure.Length (list_of t terms)) (λ t. length_of t docs) c.args.prefix.now terms docs c.sum.ensures.sound c.term_lists.ensures.ordered lists
    (λ t. ap length (lists t) ∙ length-postings t docs) (λ t none. length_of-none t docs none) in
    let all = c.length.ensures.value ∙ ap length c.all.ensures.entries ∙ length-map docs (λ (one : ℕ × Document). (one.0, 0)) in
    c.sum.ensures.value ∙ (λ i. min (all i) (sums i))
