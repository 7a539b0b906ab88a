-- A message that was put in part.
use Rattle.std.proofs.Common.{ℕ, List, [], ◌∷◌, ◌++◌, Option, Some, None, sym, ap, ◌∙◌, append_assoc, append-nil}
use Rattle.std.specs.Io.KnownBytes.{Appends, Keeps}
use Rattle.sk_io.specs.Fronts.{AppendsFront, AppendsPrefix}
use Rattle.sk_run.proofs.conclusion.say.Goals as goal

first_part : (a b : Option (List ℕ)) (xs ys : List ℕ) → AppendsPrefix a b xs → AppendsPrefix a b (xs ++ ys)
first_part None b xs ys p = tt
first_part (Some held) b xs ys p =
    let front : AppendsFront held b xs = p in
    record { shown = front.shown; rest = front.rest ++ ys; whole = ap (λ (w : List ℕ). w ++ ys) front.whole ∙ append_assoc front.shown front.rest ys; now_held = front.now_held }

second_part : (a b c : Option (List ℕ)) (xs ys : List ℕ) → Appends a b xs → AppendsPrefix b c ys → AppendsPrefix a c (xs ++ ys)
second_part None b c xs ys p q = tt
second_part (Some held) None c xs ys p q = absurd p
second_part (Some held) (Some more) c xs ys p q =
    let front : AppendsFront more c ys = q in
    record { shown = xs ++ front.shown; rest = front.rest; whole = ap (λ (w : List ℕ). xs ++ w) front.whole ∙ sym (append_assoc xs front.shown front.rest); now_held = front.now_held ∙ ap (λ (w : List ℕ). Some (w ++ front.shown)) p ∙ ap Some (append_assoc held xs front.shown) }

whole_part : (a b c d : Option (List ℕ)) (xs ys : List ℕ) → Appends a b xs → Appends b c ys → Keeps c d → AppendsPrefix a d (xs ++ ys)
whole_part None b c d xs ys p q k = tt
whole_part (Some held) None c d xs ys p q k = absurd p
whole_part (Some held) (Some more) None d xs ys p q k = absurd q
whole_part (Some held) (Some more) (Some most) None xs ys p q k = absurd k
whole_part (Some held) (Some more) (Some most) (Some last) xs ys p q k =
    record { shown = xs ++ ys; rest = []; whole = sym (append-nil (xs ++ ys)); now_held = ap Some (k ∙ q ∙ ap (λ (w : List ℕ). w ++ ys) p ∙ append_assoc held xs ys) }

pub returns-in_err-put_all-clause-err : goal.returns-in_err-put_all-clause-err
returns-in_err-put_all-clause-err g c =
    let part = first_part _ _ c.args.message.now (10 ∷ []) c.in_err-put_all.ensures.err in
    search (Rattle.std.proofs.Common.rules, part)

pub returns-in_err-put_all-2-clause-err : goal.returns-in_err-put_all-2-clause-err
returns-in_err-put_all-2-clause-err g c =
    let part = second_part _ _ _ c.args.message.now (10 ∷ []) c.in_ok-put_all.ensures.ok c.in_err-put_all-2.ensures.err in
    search (Rattle.std.proofs.Common.rules, part)

pub returns-clause-err : goal.returns-clause-err
returns-clause-err g c =
    let part = whole_part _ _ _ _ c.args.message.now (10 ∷ []) c.in_ok-put_all.ensures.ok c.in_ok-put_all-2.ensures.ok c.finish.ensures.bytes in
    search (Rattle.std.proofs.Common.rules, part)
