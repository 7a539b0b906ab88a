-- The weight is that of the first that is left.
use Rattle.std.proofs.Common.{◌≡◌, sym, ap, ◌∙◌, inl, inr, ◌^◌}
use Rattle.std.proofs.lemmas.Bool.{cases_lt}
use Rattle.sk_nodes.specs.Shapes.{shape_of}
use Rattle.sk_tree.specs.Built.{left, first_weight}
use Rattle.sk_tree.proofs.TreeLaws.{top_left, top_ended}
use Rattle.sk_tree.proofs.tree.Tree.weight.Goals as goal

pub returns : goal.returns
returns c i on =
    let t = c.args.self.now in
    elim (cases_lt t.top.head (2 ^ 32)) as (λ _. t.top.weight ≡ first_weight (left i t)) [
      | inl lt ↦ sym (top_left i t.top (shape_of t.node) on.top on.sound on.documents lt).1
      | inr le ↦ let gone = top_ended i t.top (shape_of t.node) on.top le in gone.1 ∙ sym (ap first_weight gone.0)
    ]
