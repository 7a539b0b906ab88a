-- By the chunk that the target falls into.
use Rattle.std.proofs.Common.{◌<◌, ◌∙◌, [], length, get_or, ap, sym, subst, arith}
use Rattle.sk_sorted.specs.Entries.{top_id}
use Rattle.sk_sorted.specs.Ends.{EndsRise}
use Rattle.sk_sorted.proofs.ReachLaws.{runs_rise}
use Rattle.sk_lists.specs.Lists.{Runs}
use Rattle.sk_lists.proofs.BlockLaws.{block_here, block_behind, block_none}
use Rattle.sk_lists.proofs.cursor.Cursor.block_max.Goals as goal

pub first_reaching-at-requires-clause-rise : goal.first_reaching-at-requires-clause-rise
first_reaching-at-requires-clause-rise c = subst (λ (rs : Runs). EndsRise (top_id 0) 0 rs) (sym c.as_slice-2.ensures.value) (runs_rise c.args.list.now c.as_slice-2.ensures.sound)

pub returns-then-target-last-clause-within : goal.returns-then-target-last-clause-within
returns-then-target-last-clause-within c =
    block_here c.args.target c.args.list.now c.as_slice.ensures.sound c.args.self.now.run c.args.self.now.read c.index-as_slice-self.result
    (c.index-as_slice-self.is ∙ ap (λ rs. get_or rs c.args.self.now.run c.index-as_slice-self.result) c.as_slice.ensures.value) c.args.self.now.head _ _ c.requires.on c.of.ensures.last c.of.ensures.greatest

pub returns-then-at-chunks-clause-within : goal.returns-then-at-chunks-clause-within
returns-then-at-chunks-clause-within c =
    block_none c.args.target c.args.list.now c.as_slice.ensures.sound c.args.self.now.run c.args.self.now.read c.index-as_slice-self.result
    (c.index-as_slice-self.is ∙ ap (λ rs. get_or rs c.args.self.now.run c.index-as_slice-self.result) c.as_slice.ensures.value) c.first_reaching-at.result (omega (arith, c.if-target-last.false, c.last.ensures)) (λ k from lt. subst (λ (rs : Runs). top_id 0 (get_or rs k []) < c.args.target) c.as_slice-2.ensures.value (c.first_reaching-at.ensures.before [] k from lt))
    c.args.self.now.head _ _ c.requires.on (c.if-at-chunks.true ∙ c.chunks.ensures.value) c.ended-then-at-chunks.ensures.greatest

pub returns-clause-within : goal.returns-clause-within
returns-clause-within c =
    block_behind c.args.target c.args.list.now c.as_slice.ensures.sound c.args.self.now.run c.args.self.now.read c.index-as_slice-self.result
    (c.index-as_slice-self.is ∙ ap (λ rs. get_or rs c.args.self.now.run c.index-as_slice-self.result) c.as_slice.ensures.value) c.first_reaching-at.result (omega (arith, c.if-target-last.false, c.last.ensures)) (λ k from lt. subst (λ (rs : Runs). top_id 0 (get_or rs k []) < c.args.target) c.as_slice-2.ensures.value (c.first_reaching-at.ensures.before [] k from lt))
    c.args.self.now.head _ _ c.chunk.result.now c.requires.on c.first_reaching-at.ensures.bound.0 (omega (arith, c.first_reaching-at.ensures.bound.1, c.if-at-chunks.false, c.chunks.ensures.value, ap (λ (rs : Runs). length rs) c.as_slice-2.ensures.value)) c.chunk.ensures c.of-2.ensures.last c.of-2.ensures.greatest
