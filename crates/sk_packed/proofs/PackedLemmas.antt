-- The terms of a document whose positions stand in one list: where those of each are, and one term more.
use Rattle.std.proofs.Common.{◌≡◌, ℕ, ◌+◌, ◌-◌, ◌≤◌, List, [], ◌∷◌, ◌++◌, length, take, drop, slice_range, sym, ap, subst, ◌∙◌, refl, arith}
use Rattle.std.specs.List.{AllByRecursion}
use Rattle.std.proofs.lemmas.List.{take-append-le, drop-append-le, drop_at, length-append, length-drop}
use Rattle.std.proofs.Math.Seq.{take-length}
use Rattle.sk_base.specs.Order.{ArePositions}
use Rattle.sk_packed.specs.declared.packed_terms.PackedTerm.{PackedTerm}
use Rattle.sk_packed.specs.Packed.{NumberedTerm, cut_positions, RiseTo, ArePlaced, IsPacked}

-- ends that rise to a number begin below it
pub rise_le : (from : ℕ) (terms : List PackedTerm) (to : ℕ) → RiseTo from terms to → from ≤ to
rise_le from [] to r = omega (arith, r)
rise_le from (one ∷ more) to r = omega (arith, r.0, rise_le one.end more to r.1)

-- a packed term with its positions
abbrev pub opened : PackedTerm → List ℕ → NumberedTerm
opened one positions = record { number = one.number; wdf = one.wdf; positions = positions }

-- a part does not change where positions come behind
pub part-append : (positions more : List ℕ) (from to : ℕ) → from ≤ to → to ≤ length positions → slice_range (positions ++ more) from to ≡ slice_range positions from to
part-append positions more from to le inside =
    let size : length (drop from positions) ≡ length positions - from = length-drop from positions in
    ap (take (to - from)) (drop-append-le from positions more (omega arith)) ∙ take-append-le (to - from) (drop from positions) more (omega arith)

-- the part that the positions behind are
part-last : (positions more : List ℕ) (from to : ℕ) → from ≡ length positions → to ≡ length positions + length more → slice_range (positions ++ more) from to ≡ more
part-last positions more from to at end =
    let size : to - from ≡ length more = omega arith in
    ap (take (to - from)) (drop_at positions more from (sym at)) ∙ ap (λ k. take k more) size ∙ take-length more

-- one term more
cut-push : (from : ℕ) (terms : List PackedTerm) (to : ℕ) (x : PackedTerm) (positions more : List ℕ) → RiseTo from terms to → to ≡ length positions → x.end ≡ length positions + length more
    → cut_positions from (terms ++ x ∷ []) (positions ++ more) ≡ cut_positions from terms positions ++ opened x more ∷ []
cut-push from [] to x positions more r is end = ap (λ ps. opened x ps ∷ []) (part-last positions more from x.end (r ∙ is) end)
cut-push from (one ∷ rest) to x positions more r is end =
    let inside : one.end ≤ length positions = omega (arith, rise_le one.end rest to r.1) in
    ap (λ ps. opened one ps ∷ cut_positions one.end (rest ++ x ∷ []) (positions ++ more)) (part-append positions more from one.end r.0 inside)
    ∙ ap (λ ts. opened one (slice_range positions from one.end) ∷ ts) (cut-push one.end rest to x positions more r.1 is end)

rise-push : (from : ℕ) (terms : List PackedTerm) (to : ℕ) (x : PackedTerm) → RiseTo from terms to → to ≤ x.end → RiseTo from (terms ++ x ∷ []) x.end
rise-push from [] to x r le = (omega (arith, r), refl)
rise-push from (one ∷ more) to x r le = (r.0, rise-push one.end more to x r.1 le)

-- what holds of each and of one more holds of all
pub AllByRecursion-push : {X : Type 0} (P : X → Type 0) (xs : List X) (x : X) → AllByRecursion P xs → P x → AllByRecursion P (xs ++ x ∷ [])
AllByRecursion-push P [] x all p = (p, tt)
AllByRecursion-push P (y ∷ xs) x all p = (all.0, AllByRecursion-push P xs x all.1 p)

-- a term was put last
pub terms-push : (terms terms' : List PackedTerm) (positions positions' more : List ℕ) (x : PackedTerm) → IsPacked terms positions → terms' ≡ terms ++ x ∷ [] → positions' ≡ positions ++ more
    → x.end ≡ length positions + length more → cut_positions 0 terms' positions' ≡ cut_positions 0 terms positions ++ opened x more ∷ []
terms-push terms terms' positions positions' more x p is_terms is_positions end =
    (λ i. cut_positions 0 (is_terms i) (is_positions i)) ∙ cut-push 0 terms (length positions) x positions more p.fill refl end

pub packed-push : (terms terms' : List PackedTerm) (positions positions' more : List ℕ) (x : PackedTerm) → IsPacked terms positions → terms' ≡ terms ++ x ∷ [] → positions' ≡ positions ++ more
    → x.end ≡ length positions + length more → ArePositions more → IsPacked terms' positions'
packed-push terms terms' positions positions' more x p is_terms is_positions end rising =
    let size : x.end ≡ length positions' = end ∙ sym (ap length is_positions ∙ length-append positions more) in
    record {
      fill = subst (λ k. RiseTo 0 terms' k) size (subst (λ w. RiseTo 0 w x.end) (sym is_terms) (rise-push 0 terms (length positions) x p.fill (omega arith)));
      placed = subst ArePlaced (sym (terms-push terms terms' positions positions' more x p is_terms is_positions end)) (AllByRecursion-push (λ (one : NumberedTerm). ArePositions one.positions) (cut_positions 0 terms positions) (opened x more) p.placed rising);
    }
