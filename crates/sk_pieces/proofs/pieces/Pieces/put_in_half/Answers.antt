-- A new entry in the piece where it belongs, which is cut in two, is a new entry of the whole.
use Rattle.std.proofs.Common.{List, ℕ, ◌≡◌, ◌<◌, ◌+◌, length, get_or, set, false, refl, ap, ◌∙◌, arith}
use Rattle.std.specs.List.{insert}
use Rattle.sk_sorted.specs.Entries.{put, has}
use Rattle.sk_sorted.proofs.RunEditLaws.{run_read, length-put_new, split_view, split_sound, split_length, split_fits}
use Rattle.sk_pieces.proofs.pieces.Pieces.put_in_half.Goals as goal

pub put_and_halve-requires-clause-new : goal.put_and_halve-requires-clause-new
put_and_halve-requires-clause-new g c =
    let was = c.index_mut.ensures.value ∙ ap (λ (s : List (List (ℕ × g.row.T.Denot))). get_or s c.args.at c.index_mut.result.now) c.in_ok-reserve.ensures.items in
    let here = run_read c.self.inside.pieces.items c.args.self.now c.args.at c.index_mut.result.now c.self.view_is was c.requires.there in
    let none : has c.args.id c.index_mut.result.now ≡ false = ap (λ (r : List (ℕ × g.row.T.Denot)). has c.args.id r) here ∙ c.requires.new in
    none

pub put_and_halve-requires-clause-full : goal.put_and_halve-requires-clause-full
put_and_halve-requires-clause-full g c =
    let was = c.index_mut.ensures.value ∙ ap (λ (s : List (List (ℕ × g.row.T.Denot))). get_or s c.args.at c.index_mut.result.now) c.in_ok-reserve.ensures.items in
    let here = run_read c.self.inside.pieces.items c.args.self.now c.args.at c.index_mut.result.now c.self.view_is was c.requires.there in
    ap (λ (r : List (ℕ × g.row.T.Denot)). length r) here ∙ c.requires.full

pub overflow_add-self : goal.overflow_add-self
overflow_add-self g c =
    let was = c.index_mut.ensures.value ∙ ap (λ (s : List (List (ℕ × g.row.T.Denot))). get_or s c.args.at c.index_mut.result.now) c.in_ok-reserve.ensures.items in
    let here = run_read c.self.inside.pieces.items c.args.self.now c.args.at c.index_mut.result.now c.self.view_is was c.requires.there in
    let none : has c.args.id c.index_mut.result.now ≡ false = ap (λ (r : List (ℕ × g.row.T.Denot)). has c.args.id r) here ∙ c.requires.new in
    let less : 64 < length (put c.args.id c.args.x c.index_mut.result.now) = omega (arith, length-put_new c.args.id c.args.x c.index_mut.result.now none, ap (λ (r : List (ℕ × g.row.T.Denot)). length r) here, c.requires.full) in
    let divided = c.insert_reserved.ensures ∙ ap (λ (s : List (List (ℕ × g.row.T.Denot))). insert (set s c.args.at c.put_and_halve.new.self) (c.args.at + 1) c.in_ok-rest.rest) c.in_ok-reserve.ensures.items in
    let fits = split_fits c.args.id c.args.at c.self.inside.pieces.items c.args.self.now c.self.view_is c.self.invariant.sound c.requires.there c.requires.fits c.index_mut.result.now was
    c.args.x (put c.args.id c.args.x c.index_mut.result.now) refl 64 c.put_and_halve.new.self c.in_ok-rest.rest c.insert_reserved.new.pieces.items (omega arith) less c.in_ok-rest.ensures.ok c.in_ok-rest.ensures.rest divided none c.requires.id c.ranges.id.fits in
    omega (arith, fits, c.self.invariant.count_is)

pub invariant_of-self-2 : goal.invariant_of-self-2
invariant_of-self-2 g c =
    let was = c.index_mut.ensures.value ∙ ap (λ (s : List (List (ℕ × g.row.T.Denot))). get_or s c.args.at c.index_mut.result.now) c.in_ok-reserve.ensures.items in
    let here = run_read c.self.inside.pieces.items c.args.self.now c.args.at c.index_mut.result.now c.self.view_is was c.requires.there in
    let none : has c.args.id c.index_mut.result.now ≡ false = ap (λ (r : List (ℕ × g.row.T.Denot)). has c.args.id r) here ∙ c.requires.new in
    let less : 64 < length (put c.args.id c.args.x c.index_mut.result.now) = omega (arith, length-put_new c.args.id c.args.x c.index_mut.result.now none, ap (λ (r : List (ℕ × g.row.T.Denot)). length r) here, c.requires.full) in
    let divided = c.insert_reserved.ensures ∙ ap (λ (s : List (List (ℕ × g.row.T.Denot))). insert (set s c.args.at c.put_and_halve.new.self) (c.args.at + 1) c.in_ok-rest.rest) c.in_ok-reserve.ensures.items in
    record {
      sound = split_sound c.args.id c.args.at c.self.inside.pieces.items c.args.self.now c.self.view_is c.self.invariant.sound c.requires.there c.requires.fits c.index_mut.result.now was
          c.args.x (put c.args.id c.args.x c.index_mut.result.now) refl 64 c.put_and_halve.new.self c.in_ok-rest.rest c.insert_reserved.new.pieces.items (omega arith) less c.in_ok-rest.ensures.ok c.in_ok-rest.ensures.rest divided c.requires.id c.ranges.id.fits;
      count_is = omega (
        arith,
        c.self.invariant.count_is,
        split_length c.args.id c.args.at c.self.inside.pieces.items c.args.self.now c.self.view_is c.self.invariant.sound c.requires.there c.requires.fits c.index_mut.result.now was
            c.args.x (put c.args.id c.args.x c.index_mut.result.now) refl 64 c.put_and_halve.new.self c.in_ok-rest.rest c.insert_reserved.new.pieces.items (omega arith) less c.in_ok-rest.ensures.ok c.in_ok-rest.ensures.rest divided none,
      );
    }

pub returns-clause-ok : goal.returns-clause-ok
returns-clause-ok g c =
    let was = c.index_mut.ensures.value ∙ ap (λ (s : List (List (ℕ × g.row.T.Denot))). get_or s c.args.at c.index_mut.result.now) c.in_ok-reserve.ensures.items in
    let here = run_read c.self.inside.pieces.items c.args.self.now c.args.at c.index_mut.result.now c.self.view_is was c.requires.there in
    let none : has c.args.id c.index_mut.result.now ≡ false = ap (λ (r : List (ℕ × g.row.T.Denot)). has c.args.id r) here ∙ c.requires.new in
    let less : 64 < length (put c.args.id c.args.x c.index_mut.result.now) = omega (arith, length-put_new c.args.id c.args.x c.index_mut.result.now none, ap (λ (r : List (ℕ × g.row.T.Denot)). length r) here, c.requires.full) in
    let divided = c.insert_reserved.ensures ∙ ap (λ (s : List (List (ℕ × g.row.T.Denot))). insert (set s c.args.at c.put_and_halve.new.self) (c.args.at + 1) c.in_ok-rest.rest) c.in_ok-reserve.ensures.items in
    split_view c.args.id c.args.at c.self.inside.pieces.items c.args.self.now c.self.view_is c.self.invariant.sound c.requires.there c.requires.fits c.index_mut.result.now was
    c.args.x (put c.args.id c.args.x c.index_mut.result.now) refl 64 c.put_and_halve.new.self c.in_ok-rest.rest c.insert_reserved.new.pieces.items (omega arith) less c.in_ok-rest.ensures.ok c.in_ok-rest.ensures.rest divided
