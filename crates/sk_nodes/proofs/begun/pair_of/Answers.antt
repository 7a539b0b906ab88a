-- A node of two sides gives what they give together.
use Rattle.std.proofs.Common.{ℕ, Option, sym, subst, ◌∙◌, refl, arith}
use Rattle.sk_model.proofs.CoverLaws.{covers_exactly}
use Rattle.sk_decay.specs.Sides.{paired, greatest_under}
use Rattle.sk_nodes.specs.Shapes.{Shape, shape_of}
use Rattle.sk_nodes.specs.Left.{rest, from_on}
use Rattle.sk_nodes.specs.Begun.{Yields}
use Rattle.sk_nodes.proofs.LeafLaws.{from_on-at}
use Rattle.sk_nodes.proofs.NodeLaws.{pair_shape}
use Rattle.sk_nodes.proofs.MoveLaws.{seek_along}
use Rattle.sk_nodes.proofs.begun.pair_of.Goals as goal

pub returns-clause-yields : goal.returns-clause-yields
returns-clause-yields g c =
    let i = c.args.index.now in
    let both : ℕ → Option ℕ = λ id. paired c.args.form (rest i (shape_of c.args.a) id) (rest i (shape_of c.args.b) id) in
    let shape = pair_shape _ c.args.form c.seek_pair.new.ta c.seek_pair.new.tb c.in_ok-a.a c.in_ok-b.b c.seek_pair.new.a c.seek_pair.new.b refl (sym c.in_ok-a.ensures.ok) (sym c.in_ok-b.ensures.ok) in
    let lands = c.seek_pair.ensures.sought.lands in
    subst (λ (s : Shape). Yields i c.seek_pair.new.top s both (greatest_under c.args.form c.args.ta.greatest c.args.tb.greatest)) (sym shape)
    (record {
      top = lands.top;
      sound = lands.sound;
      gives = λ id. covers_exactly (from_on 0 both id) (paired c.args.form (rest i (shape_of c.seek_pair.new.a) id) (rest i (shape_of c.seek_pair.new.b) id)) (lands.covers id) ∙ from_on-at 0 both id (omega arith);
      ceiling = c.seek_pair.ensures.sought.falls;
    })

pub returns-clause-accounts : goal.returns-clause-accounts
returns-clause-accounts g c =
    let i = c.args.index.now in
    let shape = pair_shape _ c.args.form c.seek_pair.new.ta c.seek_pair.new.tb c.in_ok-a.a c.in_ok-b.b c.seek_pair.new.a c.seek_pair.new.b refl (sym c.in_ok-a.ensures.ok) (sym c.in_ok-b.ensures.ok) in
    seek_along i 0 0 _ _ _ _ _ _ _ refl shape c.seek_pair.ensures.accounts
