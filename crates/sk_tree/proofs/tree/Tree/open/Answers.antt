-- The node of a query gives what the documents score.
use Rattle.std.proofs.Common.{subst, arith}
use Rattle.sk_chunks.specs.Postings.{Postings}
use Rattle.sk_sorted.specs.Entries.{AreSorted}
use Rattle.sk_query.specs.Trees.{query_view}
use Rattle.sk_nodes.specs.Shapes.{shape_of}
use Rattle.sk_nodes.specs.Left.{rest}
use Rattle.sk_tree.specs.Opened.{score_of}
use Rattle.sk_tree.proofs.TermLaws.{AreSorted-all}
use Rattle.sk_tree.proofs.OpenLaws.{fits_ceil}
use Rattle.sk_tree.proofs.TreeLaws.{weighed_ids-scored}
use Rattle.sk_tree.proofs.tree.Tree.open.Goals as goal

pub open_node-requires-clause-can : goal.open_node-requires-clause-can
open_node-requires-clause-can g c = record {
  read = record {
    documents = AreSorted-all c.args.index.now.live.documents (subst (λ (ps : Postings). AreSorted ps) c.all.ensures.entries c.length-sorted.ensures.sound);
    room = omega arith;
    small = omega arith;
  };
  bounded = omega arith;
  light = c.highest-sound.ensures.light;
}

pub returns-clause-built : goal.returns-clause-built
returns-clause-built g c =
    let i = c.args.index.now in
    let opens = c.in_ok-top.ensures.opens in
    let paid = c.in_ok-top.ensures.pays.paid in
    record {
      tree = record {
        top = opens.top;
        sound = opens.sound;
        fits = omega (arith, opens.ceiling, fits_ceil (query_view c.args.query.now) c.args.scheme i.live.documents c.requires.fits c.highest-sound.ensures.light);
        room = omega (arith, paid, c.in_ok-top.ensures.counts.small);
        documents = AreSorted-all i.live.documents (subst (λ (ps : Postings). AreSorted ps) c.all.ensures.entries c.length-sorted.ensures.sound);
      };
      ceiling = opens.ceiling;
      account = omega (arith, paid, c.in_ok-top.ensures.pays.within);
    }

pub returns-clause-left : goal.returns-clause-left
returns-clause-left g c =
    let i = c.args.index.now in
    weighed_ids-scored (rest i (shape_of c.in_ok-top.node)) (score_of (query_view c.args.query.now) c.args.scheme 1) 0 i.live.documents
    (AreSorted-all i.live.documents (subst (λ (ps : Postings). AreSorted ps) c.all.ensures.entries c.length-sorted.ensures.sound)).rise
    (λ id lt. c.in_ok-top.ensures.opens.gives id)

pub returns-clause-stops : goal.returns-clause-stops
returns-clause-stops g c lists e point =
    let flat = c.in_ok-top.ensures.accounts.flat lists e in
    record { shape = flat.shape; account = omega (arith, flat.account point) }

pub returns-clause-rare : goal.returns-clause-rare
returns-clause-rare g c lists m e =
    let rare = c.in_ok-top.ensures.accounts.rare lists m e in
    record { led = rare.led; at = rare.at; account = omega (arith, rare.account) }

pub returns-clause-decays : goal.returns-clause-decays
returns-clause-decays g c ts a b is terms point =
    let both = c.in_ok-top.ensures.accounts.fading ts a b is terms in
    let one = both.0 point in
    let two = both.1 point in
    (record { first = one.0; fading = one.1.0; account = omega (arith, one.1.1) }, record { first = two.0; fading = two.1.0; account = omega (arith, two.1.1) })
