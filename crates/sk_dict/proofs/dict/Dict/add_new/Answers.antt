use Rattle.std.proofs.Common.{◌≡◌, Some, None, ap, sym, ◌∙◌}
use Rattle.std.specs.List.{concat}
use Rattle.sk_dict.specs.Terms.{number_of}
use Rattle.sk_dict.proofs.NumberLaws.{number_of-added}
use Rattle.sk_dict.proofs.FindLemmas.{order_kept, order_added}
use Rattle.sk_dict.proofs.dict.Dict.add_new.Goals as goal

-- the order of the old terms
pub put-requires-clause-rising : goal.put-requires-clause-rising
put-requires-clause-rising c =
    (order_kept c.self.inside.terms c.push.new.self (concat c.self.inside.blocks.items) c.args.term.now c.in_ok-push.ensures.ok c.self.invariant).0

pub put-requires-clause-known : goal.put-requires-clause-known
put-requires-clause-known c =
    (order_kept c.self.inside.terms c.push.new.self (concat c.self.inside.blocks.items) c.args.term.now c.in_ok-push.ensures.ok c.self.invariant).1

-- the new term was put into it
pub invariant_of-self-in-Ok : goal.invariant_of-self-in-Ok
invariant_of-self-in-Ok c =
    order_added c.args.self.now c.self.inside.terms c.push.new.self _ _ c.args.term.now c.len-number.result c.self.view_is c.in_ok-push.ensures.ok
    c.len-number.ensures c.requires c.self.invariant c.in-Ok.ensures.ok

-- and has that number
pub returns-in-Ok-clause-found : goal.returns-in-Ok-clause-found
returns-in-Ok-clause-found c =
    let absent : number_of c.args.term.now c.self.inside.terms ≡ None = ap (number_of c.args.term.now) c.self.view_is ∙ c.requires in
    ap (number_of c.args.term.now) c.in_ok-push.ensures.ok ∙ number_of-added c.self.inside.terms c.args.term.now absent ∙ ap Some (sym c.len-number.ensures)
