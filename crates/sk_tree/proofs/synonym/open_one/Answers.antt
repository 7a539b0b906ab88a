-- One term counts as itself.
use Rattle.sk_query.specs.declared.form.Form.TheVariants as Form
use Rattle.sk_nodes.specs.Shapes.{shape_of}
use Rattle.sk_tree.proofs.SynonymLaws.{one_opened, one_there, read_one}
use Rattle.sk_tree.proofs.NestLaws.{one_nest}
use Rattle.sk_tree.proofs.synonym.open_one.Goals as goal

pub returns-clause-opens : goal.returns-clause-opens
returns-clause-opens g c =
    one_opened c.args.index.now c.in_ok-top.top (shape_of c.in_ok-top.node) c.args.numbers.now _ c.args.scheme c.args.factor c.requires.one (read_one c.args.numbers.now 0 c.requires.one) c.requires.can.light c.in_ok-top.ensures.opens

pub returns-clause-nest : goal.returns-clause-nest
returns-clause-nest g c =
    one_nest c.args.index.now Form.Or (shape_of c.in_ok-top.node) c.args.numbers.now _ _ _ c.requires.one (read_one c.args.numbers.now 0 c.requires.one) (c.in_ok-top.ensures.term.nest Form.Or)

pub open_numbered-requires-clause-there : goal.open_numbered-requires-clause-there
open_numbered-requires-clause-there g c = one_there c.args.index.now c.args.numbers.now _ c.requires.one (read_one c.args.numbers.now 0 c.requires.one) c.requires.there

pub open_numbered-requires-clause-factor : goal.open_numbered-requires-clause-factor
open_numbered-requires-clause-factor g c = c.requires.can.bounded

pub open_numbered-requires-clause-can : goal.open_numbered-requires-clause-can
open_numbered-requires-clause-can g c = c.requires.can.read

pub returns-in_err-top-clause-counts : goal.returns-in_err-top-clause-counts
returns-in_err-top-clause-counts g c = c.open_numbered.ensures.counts

pub returns-clause-counts : goal.returns-clause-counts
returns-clause-counts g c = c.open_numbered.ensures.counts
