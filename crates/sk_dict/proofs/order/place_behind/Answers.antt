use Rattle.std.proofs.Common.{ℕ, true, subst}
use Rattle.std.specs.List.{concat}
use Rattle.sk_dict.specs.Terms.{term_at}
use Rattle.sk_dict.specs.Searches.{passes}
use Rattle.sk_dict.specs.Order.{IsSplit}
use Rattle.sk_dict.specs.Blocks.{front_of, rest_from}
use Rattle.sk_dict.proofs.OrderLemmas.{behind_splits}
use Rattle.sk_dict.proofs.order.place_behind.Goals as goal

-- the number stands where it was guessed
pub returns-clause-split : goal.returns-clause-split
returns-clause-split c =
    subst (λ (n : ℕ). IsSplit (passes c.args.terms.now (term_at c.args.terms.now n) true) (concat c.args.blocks.now)
    (front_of c.args.blocks.now c.in-Some.behind.block c.in-Some.behind.offset) (rest_from c.args.blocks.now c.in-Some.behind.block c.in-Some.behind.offset))
    c.if-there-number.true
    (behind_splits c.args.terms.now c.args.blocks.now c.args.guess.block c.args.guess.offset c.in-Some.there c.in-Some.behind.block c.in-Some.behind.offset
    c.if-guess-blocks.true c.requires.rising c.in-Some.ensures)
