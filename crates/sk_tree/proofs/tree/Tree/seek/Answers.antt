-- Nothing is left where the need exceeds the ceiling; without a need just what lies below the target goes.
use Rattle.std.proofs.Common.{ℕ, sym, ap, subst, refl, arith, inl, inr}
use Rattle.sk_model.specs.Covers.{Covers}
use Rattle.sk_nodes.specs.Shapes.{Shape, shape_of}
use Rattle.sk_nodes.specs.Left.{rest, from_on}
use Rattle.sk_nodes.proofs.NodeLaws.{shape_of-Nothing, covers_gone}
use Rattle.sk_tree.proofs.TreeLaws.{weighed_ids-none, left_exact, stops_closed, stops_sought, rare_closed, fades_closed}
use Rattle.sk_index.specs.Indexed.{Indexed}
use Rattle.sk_nodes.specs.declared.top.Top.{Top}
use Rattle.sk_tree.specs.declared.tree.Tree.{Tree}
use Rattle.sk_tree.specs.Decays.{Decays, MayFall}
use Rattle.sk_nodes.specs.Moved.{ReachAccounts, with_lead}
use Rattle.sk_tree.proofs.tree.Tree.seek.Goals as goal

pub returns-then-self-need-clause-covers : goal.returns-then-self-need-clause-covers
returns-then-self-need-clause-covers g c =
    let i = c.args.index.now in
    subst (λ (s : Shape). Covers (from_on c.args.target (rest i (shape_of c.args.self.now.node))) (rest i s) c.args.need) (sym shape_of-Nothing)
    (covers_gone c.args.target c.args.need c.args.self.now.top.greatest (rest i (shape_of c.args.self.now.node)) c.requires.tree.top.bound c.if-self-need.true)

pub returns-then-self-need-clause-closed : goal.returns-then-self-need-clause-closed
returns-then-self-need-clause-closed g c lt = (refl, weighed_ids-none _ c.args.index.now.live.documents (λ id. ap (λ s. rest c.args.index.now s id) shape_of-Nothing))

pub returns-clause-exact : goal.returns-clause-exact
returns-clause-exact g c none =
    let i = c.args.index.now in
    left_exact i c.args.target (shape_of c.args.self.now.node) (shape_of c.reach.new.node) c.requires.tree.documents
    (subst (λ n. Covers (from_on c.args.target (rest i (shape_of c.args.self.now.node))) (rest i (shape_of c.reach.new.node)) n) none
    (subst (λ n. Covers (from_on n (rest i (shape_of c.args.self.now.node))) (rest i (shape_of c.reach.new.node)) c.args.need) c.from.ensures c.reach.ensures.sought.lands.covers))

pub returns-then-self-need-clause-accounts : goal.returns-then-self-need-clause-accounts
returns-then-self-need-clause-accounts g c =
    let i = c.args.index.now in
    let old = c.args.self.now in
    record {
      stops = λ point most stops may.
          let done = stops_closed i (shape_of old.node) _ c.args.need point most old.spent shape_of-Nothing stops.account in
          record { shape = done.0; account = done.1 };
      rare = λ most rare.
          let done = rare_closed i c.ended-self.result (shape_of old.node) _ old.spent most shape_of-Nothing (ap (λ (u : Top). u.head) c.ended-self.ensures) rare.account in
          record { led = done.0; at = done.1.0; account = done.1.1 };
      decays = λ point greatest most decays may.
          let done = fades_closed i (shape_of old.node) _ point greatest most old.spent decays.first shape_of-Nothing decays.account in
          record { first = decays.first; fading = done.0; account = done.1 };
    }

pub returns-clause-accounts : goal.returns-clause-accounts
returns-clause-accounts g c = record {
  stops = λ point most stops may.
      let done = stops_sought i (shape_of old.node) (shape_of c.reach.new.node) old.need c.args.need c.args.target point most old.spent c.reach.new.spent old.top.greatest
      c.requires.rising c.if-self-need.false c.ranges.target.fits reached.all stops.shape stops.account may in
      record { shape = done.0; account = done.1 };
  rare = λ most rare.
      let keeps = c.reach.ensures.accounts.all.keeps with_lead in
      let paid = keeps.paid rare.led tt in
      record { led = keeps.kind rare.led; at = c.reach.ensures.accounts.at rare.led rare.at; account = omega (arith, paid, rare.account) };
  decays = by;
}
  where
    i : Indexed
    i = c.args.index.now

    old : Tree
    old = c.args.self.now

    reached : ReachAccounts i c.args.target c.args.need old.spent c.reach.new.spent (shape_of old.node) (shape_of c.reach.new.node) old.top c.reach.new.top
    reached = subst (λ n. ReachAccounts i n c.args.need old.spent c.reach.new.spent (shape_of old.node) (shape_of c.reach.new.node) old.top c.reach.new.top) c.from.ensures c.reach.ensures.accounts

    by : (point greatest most : ℕ) → Decays i old point greatest most → MayFall point greatest c.args.target c.args.need old.top.greatest → Decays i (record old { node = c.reach.new.node; top = c.reach.new.top; need = c.args.need; spent = c.reach.new.spent }) point greatest most
    by point greatest most decays (inl high) = absurd (omega (arith, c.if-self-need.false, high))
    by point greatest most decays (inr may) =
        let to = reached.fades point greatest decays.first decays.fading may in
        record { first = to.0; fading = to.1.0; account = omega (arith, to.1.1, decays.account) }
