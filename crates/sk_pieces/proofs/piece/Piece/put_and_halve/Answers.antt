-- A half has no more entries than may be; without memory the entry is taken out again.
use Rattle.std.proofs.Common.{List, ℕ, ◌≡◌, ◌≤◌, false, length, sym, ap, subst, ◌∙◌, arith}
use Rattle.std.proofs.lemmas.List.{length-take, length-drop}
use Rattle.sk_sorted.specs.Entries.{without, has}
use Rattle.sk_sorted.proofs.EndLaws.{length-put}
use Rattle.sk_sorted.proofs.RunEditLaws.{length-put_new}
use Rattle.sk_pieces.proofs.PieceLemmas.{taken-back}
use Rattle.sk_pieces.proofs.piece.Piece.put_and_halve.Goals as goal

pub split_off-requires : goal.split_off-requires
split_off-requires g c =
    let none : has c.args.id c.self.inside.entries ≡ false = ap (λ (es : List (ℕ × g.row.T.Denot)). has c.args.id es) c.self.view_is ∙ c.requires.new in
    let full : length c.self.inside.entries ≡ 128 = ap (λ (es : List (ℕ × g.row.T.Denot)). length es) c.self.view_is ∙ c.requires.full in
    omega (arith, ap (λ (es : List (ℕ × g.row.T.Denot)). length es) c.in_ok-put.ensures.ok, length-put_new c.args.id c.args.x c.self.inside.entries none, full)

pub invariant_of-self-in-Ok : goal.invariant_of-self-in-Ok
invariant_of-self-in-Ok g c = omega (arith, ap (λ (es : List (ℕ × g.row.T.Denot)). length es) c.in-Ok.ensures.ok, length-take 64 c.put.new.self)

pub invariant_of-self-in-Err : goal.invariant_of-self-in-Err
invariant_of-self-in-Err g c =
    let none : has c.args.id c.self.inside.entries ≡ false = ap (λ (es : List (ℕ × g.row.T.Denot)). has c.args.id es) c.self.view_is ∙ c.requires.new in
    let same = c.remove.ensures.after ∙ ap (λ (es : List (ℕ × g.row.T.Denot)). without c.args.id es) (c.in-Err.ensures.err ∙ c.in_ok-put.ensures.ok) ∙ taken-back c.args.id c.args.x c.self.inside.entries none in
    subst (λ (es : List (ℕ × g.row.T.Denot)). length es ≤ 128) (sym same) c.self.invariant

pub returns-in-Err-clause-err : goal.returns-in-Err-clause-err
returns-in-Err-clause-err g c =
    let none : has c.args.id c.self.inside.entries ≡ false = ap (λ (es : List (ℕ × g.row.T.Denot)). has c.args.id es) c.self.view_is ∙ c.requires.new in
    c.remove.ensures.after ∙ ap (λ (es : List (ℕ × g.row.T.Denot)). without c.args.id es) (c.in-Err.ensures.err ∙ c.in_ok-put.ensures.ok) ∙ taken-back c.args.id c.args.x c.self.inside.entries none ∙ c.self.view_is

pub invariant_of-result : goal.invariant_of-result
invariant_of-result g c =
    let few : length c.self.inside.entries ≤ 128 = c.self.invariant in
    omega (arith, ap (λ (es : List (ℕ × g.row.T.Denot)). length es) c.in-Ok.ensures.rest, length-drop 64 c.put.new.self, ap (λ (es : List (ℕ × g.row.T.Denot)). length es) c.in_ok-put.ensures.ok, length-put c.args.id c.args.x c.self.inside.entries, few)
