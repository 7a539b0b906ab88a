use Rattle.std.proofs.Common.{◌≡◌, OnOk, ◌++◌, ◌∷◌, [], ap, subst, ◌∙◌}
use Rattle.sk_parser.specs.Views.{parts_behind}
use Rattle.sk_parser.proofs.ChainLemmas.{linked_chain}
use Rattle.sk_parser.proofs.chain.link.Goals as goal

pub returns-in_ok-append-in-Some-Chain : goal.returns-in_ok-append-in-Some-Chain
returns-in_ok-append-in-Some-Chain c =
    let grown = linked_chain c.args.ordered c.args.distance c.args.in_order c.args.own c.args.stem c.in-Some-Chain.field-0-2 c.args.words.items c.pop.new.self.items c.args.parts.now.items c.in-Some-Chain.field-0-0 c.in-Some-Chain.greatest
    c.max.result c.in-Some-Chain.before c.append.new.self (c.in-Some-Chain.ensures.items ∙ ap (λ x. c.pop.new.self.items ++ x ∷ []) c.in-Some-Chain.field-0-is)
    c.max.ensures c.in_ok-append-in-Some-Chain.ensures.items in
    subst (λ ps. OnOk c.put.result (parts_behind c.put.new.parts.items ≡ ps)) grown c.put.ensures
