-- An edit of the piece where the id belongs is an edit of the whole.
use Rattle.std.proofs.Common.{◌≡◌, List, ℕ, ◌<◌, true, false, length, is_some, sym, ap, subst, ◌∙◌, arith}
use Rattle.sk_sorted.specs.Entries.{has}
use Rattle.sk_sorted.specs.Runs.{flat}
use Rattle.sk_sorted.proofs.RunEditLaws.{read_set, found_run, length_new, length_out, nil_is, nothing_out, without_view, without_sound, gone_same, gone_view, gone_sound}
use Rattle.sk_pieces.specs.Pieces.{ArePieces}
use Rattle.sk_pieces.proofs.pieces.Pieces.take_out.Goals.{then-count-eq0, else-count-eq0}
use Rattle.sk_pieces.proofs.pieces.Pieces.take_out.Goals as goal

pub invariant_of-self : goal.invariant_of-self
invariant_of-self g c =
    let none : has c.args.id c.index_mut.result.now ≡ false = ap is_some (sym c.remove.ensures.gone ∙ c.in_err-x.was) in
    subst (λ (s : List (List (ℕ × g.row.T.Denot))). ArePieces s c.self.inside.length) (sym (nothing_out c.args.id c.args.at c.self.inside.pieces.items c.args.self.now c.self.view_is c.self.invariant.sound c.requires.there c.requires.fits c.index_mut.result.now c.index_mut.ensures.value c.remove.new.self c.remove.ensures.after none)) c.self.invariant

pub returns-in_err-x-clause-after : goal.returns-in_err-x-clause-after
returns-in_err-x-clause-after g c = without_view c.args.id c.args.at c.self.inside.pieces.items c.args.self.now c.self.view_is c.self.invariant.sound c.requires.there c.requires.fits c.index_mut.result.now c.index_mut.ensures.value c.remove.new.self c.remove.ensures.after

pub returns-in_err-x-clause-gone : goal.returns-in_err-x-clause-gone
returns-in_err-x-clause-gone g c = c.from_residual.ensures ∙ sym c.in_err-x.was ∙ c.remove.ensures.gone ∙ found_run c.args.id c.args.at c.self.inside.pieces.items c.args.self.now c.self.view_is c.self.invariant.sound c.requires.there c.requires.fits c.index_mut.result.now c.index_mut.ensures.value

pub invariant_of-self-then-count-eq0 : goal.invariant_of-self-then-count-eq0
invariant_of-self-then-count-eq0 g c =
    let total = length_new c.args.id c.args.at c.self.inside.pieces.items c.args.self.now c.self.view_is c.self.invariant.sound c.requires.there c.requires.fits c.index_mut.result.now c.index_mut.ensures.value c.remove.new.self in
    let there : has c.args.id c.index_mut.result.now ≡ true = ap is_some (sym c.remove.ensures.gone ∙ c.in_ok-x.was) in
    let one = length_out c.args.id c.index_mut.result.now there in
    let lt = subst (λ (s : List (List (ℕ × g.row.T.Denot))). c.args.at < length s) (sym c.self.view_is) c.requires.there in
    let after = read_set c.self.inside.pieces.items c.args.at c.remove.new.self c.index.result.now lt c.index.ensures in
    let none = nil_is c.remove.new.self (omega (arith, ap length after, c.count.ensures.value, c.if-count-eq0.true)) in
    let same = gone_same c.args.id c.args.at c.self.inside.pieces.items c.args.self.now c.self.view_is c.self.invariant.sound c.requires.there c.requires.fits c.index_mut.result.now c.index_mut.ensures.value c.remove.new.self c.remove.ensures.after c.remove-then-count-eq0.new.self.items c.remove-then-count-eq0.ensures.items none in
    record {
      sound = gone_sound c.args.id c.args.at c.self.inside.pieces.items c.args.self.now c.self.view_is c.self.invariant.sound c.requires.there c.requires.fits c.index_mut.result.now c.index_mut.ensures.value c.remove.new.self c.remove.ensures.after c.remove-then-count-eq0.new.self.items c.remove-then-count-eq0.ensures.items none;
      count_is = omega (arith, ap length same, total, one, ap length c.remove.ensures.after, c.self.invariant.count_is);
    }

pub invariant_of-self-else-count-eq0 : goal.invariant_of-self-else-count-eq0
invariant_of-self-else-count-eq0 g c =
    let total = length_new c.args.id c.args.at c.self.inside.pieces.items c.args.self.now c.self.view_is c.self.invariant.sound c.requires.there c.requires.fits c.index_mut.result.now c.index_mut.ensures.value c.remove.new.self in
    let there : has c.args.id c.index_mut.result.now ≡ true = ap is_some (sym c.remove.ensures.gone ∙ c.in_ok-x.was) in
    let one = length_out c.args.id c.index_mut.result.now there in
    let lt = subst (λ (s : List (List (ℕ × g.row.T.Denot))). c.args.at < length s) (sym c.self.view_is) c.requires.there in
    let after = read_set c.self.inside.pieces.items c.args.at c.remove.new.self c.index.result.now lt c.index.ensures in
    record {
      sound = without_sound c.args.id c.args.at c.self.inside.pieces.items c.args.self.now c.self.view_is c.self.invariant.sound c.requires.there c.requires.fits c.index_mut.result.now c.index_mut.ensures.value c.remove.new.self c.remove.ensures.after (omega (arith, ap length after, c.count.ensures.value, c.if-count-eq0.false));
      count_is = omega (arith, total, one, ap length c.remove.ensures.after, c.self.invariant.count_is);
    }

pub returns-clause-after : goal.returns-clause-after
returns-clause-after g c =
    let lt = subst (λ (s : List (List (ℕ × g.row.T.Denot))). c.args.at < length s) (sym c.self.view_is) c.requires.there in
    let after = read_set c.self.inside.pieces.items c.args.at c.remove.new.self c.index.result.now lt c.index.ensures in
    elim c.if-count-eq0.branch [
      | then-count-eq0 w ↦ ap flat w.self-is ∙ gone_view c.args.id c.args.at c.self.inside.pieces.items c.args.self.now c.self.view_is c.self.invariant.sound c.requires.there c.requires.fits c.index_mut.result.now c.index_mut.ensures.value c.remove.new.self c.remove.ensures.after w.remove-then-count-eq0.new.self.items w.remove-then-count-eq0.ensures.items
          (nil_is c.remove.new.self (omega (arith, ap length after, c.count.ensures.value, w.if-count-eq0.true)))
      | else-count-eq0 w ↦ ap flat w.self-is ∙ without_view c.args.id c.args.at c.self.inside.pieces.items c.args.self.now c.self.view_is c.self.invariant.sound c.requires.there c.requires.fits c.index_mut.result.now c.index_mut.ensures.value c.remove.new.self c.remove.ensures.after
    ]

pub returns-clause-gone : goal.returns-clause-gone
returns-clause-gone g c = sym c.in_ok-x.was ∙ c.remove.ensures.gone ∙ found_run c.args.id c.args.at c.self.inside.pieces.items c.args.self.now c.self.view_is c.self.invariant.sound c.requires.there c.requires.fits c.index_mut.result.now c.index_mut.ensures.value
