use Rattle.sk_dict.specs.Terms.{term_at}
use Rattle.sk_dict.proofs.HeadLemmas.{lower_is_passed, higher_is_left}
use Rattle.sk_dict.proofs.CutLemmas.{read_head, term_small}
use Rattle.sk_dict.proofs.terms.Terms.is_passed.Goals as goal

pub returns-then-own-head : goal.returns-then-own-head
returns-then-own-head c =
    lower_is_passed c.index-own.result.now c.args.head (term_at c.args.self.now c.args.number) c.args.key.now c.args.behind
    (term_small c.self.inside.bytes.items c.self.inside.ends.items c.self.inside.heads.items c.args.self.now c.args.number c.self.invariant c.self.view_is c.requires.there) c.requires.bytes
    (read_head c.self.inside.bytes.items c.self.inside.ends.items c.self.inside.heads.items c.args.self.now c.args.number c.self.invariant c.self.view_is c.requires.there c.index-own.result.now c.index-own.ensures)
    c.requires.head c.if-own-head.true

pub returns-then-own-head-2 : goal.returns-then-own-head-2
returns-then-own-head-2 c =
    higher_is_left c.index-own.result.now c.args.head (term_at c.args.self.now c.args.number) c.args.key.now c.args.behind
    (term_small c.self.inside.bytes.items c.self.inside.ends.items c.self.inside.heads.items c.args.self.now c.args.number c.self.invariant c.self.view_is c.requires.there) c.requires.bytes
    (read_head c.self.inside.bytes.items c.self.inside.ends.items c.self.inside.heads.items c.args.self.now c.args.number c.self.invariant c.self.view_is c.requires.there c.index-own.result.now c.index-own.ensures)
    c.requires.head c.if-own-head-2.true
