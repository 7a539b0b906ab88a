-- An edit of the piece where the value belongs is an edit of the whole.
use Rattle.std.proofs.Common.{List, ℕ, ◌<◌, length, sym, ap, subst, ◌∙◌, arith}
use mathlib.Core.Bool.{true≢false}
use Rattle.sk_sorted.proofs.RunEditLaws.{same_read, read_set, has_run, length_new, put_view, put_sound, put_grows, put_fits}
use Rattle.sk_pieces.proofs.pieces.Pieces.put_in.Goals as goal

pub returns-in_err-put-clause-succeeds : goal.returns-in_err-put-clause-succeeds
returns-in_err-put-clause-succeeds g c there =
    absurd (true≢false (sym (c.in_err-put.ensures.succeeds (has_run c.args.id c.args.at c.self.inside.pieces.items c.args.self.now c.self.view_is c.self.invariant.sound c.requires.there c.requires.fits c.index_mut.result.now c.index_mut.ensures.value ∙ there))))

pub overflow_sub-self : goal.overflow_sub-self
overflow_sub-self g c =
    let lt = subst (λ (s : List (List (ℕ × g.row.T.Denot))). c.args.at < length s) (sym c.self.view_is) c.requires.there in
    let before = same_read c.self.inside.pieces.items c.args.at c.index.result.now c.index_mut.result.now lt c.index.ensures c.index_mut.ensures.value in
    let after = read_set c.self.inside.pieces.items c.args.at c.put.new.self c.index-2.result.now lt c.index-2.ensures in
    let more = put_grows c.args.id c.args.at c.self.inside.pieces.items c.args.self.now c.self.view_is c.self.invariant.sound c.requires.there c.requires.fits c.index_mut.result.now c.index_mut.ensures.value
    c.args.x c.put.new.self c.in_ok-put.ensures.ok in
    omega (arith, c.count-count.ensures.value, c.count.ensures.value, ap length before, ap length after, more)

pub overflow_add-self : goal.overflow_add-self
overflow_add-self g c =
    let lt = subst (λ (s : List (List (ℕ × g.row.T.Denot))). c.args.at < length s) (sym c.self.view_is) c.requires.there in
    let before = same_read c.self.inside.pieces.items c.args.at c.index.result.now c.index_mut.result.now lt c.index.ensures c.index_mut.ensures.value in
    let after = read_set c.self.inside.pieces.items c.args.at c.put.new.self c.index-2.result.now lt c.index-2.ensures in
    let total = length_new c.args.id c.args.at c.self.inside.pieces.items c.args.self.now c.self.view_is c.self.invariant.sound c.requires.there c.requires.fits c.index_mut.result.now c.index_mut.ensures.value c.put.new.self in
    let fits = put_fits c.args.id c.args.at c.self.inside.pieces.items c.args.self.now c.self.view_is c.self.invariant.sound c.requires.there c.requires.fits c.index_mut.result.now c.index_mut.ensures.value
    c.args.x c.put.new.self c.in_ok-put.ensures.ok c.requires.id c.ranges.id.fits in
    omega (arith, c.count-count.ensures.value, c.count.ensures.value, ap length before, ap length after, total, fits, c.self.invariant.count_is)

pub invariant_of-self-2 : goal.invariant_of-self-2
invariant_of-self-2 g c =
    let lt = subst (λ (s : List (List (ℕ × g.row.T.Denot))). c.args.at < length s) (sym c.self.view_is) c.requires.there in
    let before = same_read c.self.inside.pieces.items c.args.at c.index.result.now c.index_mut.result.now lt c.index.ensures c.index_mut.ensures.value in
    let after = read_set c.self.inside.pieces.items c.args.at c.put.new.self c.index-2.result.now lt c.index-2.ensures in
    let total = length_new c.args.id c.args.at c.self.inside.pieces.items c.args.self.now c.self.view_is c.self.invariant.sound c.requires.there c.requires.fits c.index_mut.result.now c.index_mut.ensures.value c.put.new.self in
    let more = put_grows c.args.id c.args.at c.self.inside.pieces.items c.args.self.now c.self.view_is c.self.invariant.sound c.requires.there c.requires.fits c.index_mut.result.now c.index_mut.ensures.value
    c.args.x c.put.new.self c.in_ok-put.ensures.ok in
    record {
      sound = put_sound c.args.id c.args.at c.self.inside.pieces.items c.args.self.now c.self.view_is c.self.invariant.sound c.requires.there c.requires.fits c.index_mut.result.now c.index_mut.ensures.value
          c.args.x c.put.new.self c.in_ok-put.ensures.ok c.requires.id c.ranges.id.fits;
      count_is = omega (arith, c.count-count.ensures.value, c.count.ensures.value, ap length before, ap length after, more, total, c.self.invariant.count_is);
    }

pub returns-clause-ok : goal.returns-clause-ok
returns-clause-ok g c =
    put_view c.args.id c.args.at c.self.inside.pieces.items c.args.self.now c.self.view_is c.self.invariant.sound c.requires.there c.requires.fits c.index_mut.result.now c.index_mut.ensures.value
    c.args.x c.put.new.self c.in_ok-put.ensures.ok
