-- How far a leaf goes in its list.
use Rattle.std.proofs.Common.{◌≡◌, ◌≤◌, ◌<◌, ◌+◌, ◌^◌, ◌++◌, ℕ, nat_lt, true, false, if◌then◌else◌, [], ◌∷◌, length, Option, None, Some, inl, inr, refl, sym, subst, ap, ◌∙◌, arith, le_refl}
use Rattle.std.proofs.lemmas.Bool.Decides.{nat_tests}
use Rattle.std.proofs.lemmas.List.{length-append}
use Rattle.sk_chunks.specs.Postings.{Postings, is_below}
use Rattle.sk_lists.specs.declared.cursor.Cursor.{Cursor}
use Rattle.sk_lists.specs.Lists.{Runs}
use Rattle.sk_lists.specs.Seeks.{PassesPostings, count_to}
use Rattle.sk_lists.specs.Cursor.{unread, headed, left, IsHeadAt, IsOn}
use Rattle.sk_nodes.specs.Leaves.{head_of}
use Rattle.sk_nodes.specs.Led.{Advances, count_behind}
use Rattle.sk_nodes.proofs.RareLaws.{advances_gone}

-- entries that begin at the target or behind it
pub head_below : (target : ℕ) (ps : Postings) → target ≤ head_of ps → is_below target ps ≡ false
head_below target [] le = refl
head_below target (p ∷ ps) le = grind (arith, nat_tests)

-- what is left is an end of what was left
goes : (h h2 : Option (ℕ × ℕ)) (r r2 passed : Postings) → (h ≡ None → r ≡ []) → (h2 ≡ None → r2 ≡ []) → headed h r ≡ passed ++ headed h2 r2
    → Advances (head_of (headed h r)) (length r) (head_of (headed h2 r2)) (length r2)
goes None None r r2 passed none none2 e = inr (ap length (none2 refl) ∙ sym (ap length (none refl)), inl refl)
goes None (Some p) r r2 passed none none2 e = absurd (omega (arith, ap length e, length-append passed (p ∷ r2)))
goes (Some q) None r r2 passed none none2 e = subst (λ (ps : Postings). Advances (head_of (q ∷ r)) (length r) (2 ^ 32) (length ps)) (sym (none2 refl)) (advances_gone (head_of (q ∷ r)) (length r))
goes (Some q) (Some p) r r2 [] none none2 e = inr (omega (arith, ap length e), inl (sym (ap head_of e)))
goes (Some q) (Some p) r r2 (x ∷ xs) none none2 e = inl (omega (arith, ap length e, length-append xs (p ∷ r2)))

on_none : (c : Cursor) (runs : Runs) → IsOn c runs → c.head ≡ None → unread c runs ≡ []
on_none c runs on e = subst (λ (h : Option (ℕ × ℕ)). IsHeadAt h c.run c.read runs) e on

-- a cursor that was sought
pub goes_on : (runs : Runs) (old new : Cursor) (target need_wdf : ℕ) → IsOn old runs → IsOn new runs → PassesPostings target need_wdf (left old runs) (left new runs)
    → Advances (head_of (left old runs)) (length (unread old runs)) (head_of (left new runs)) (length (unread new runs))
goes_on runs old new target need_wdf on on2 passes = goes old.head new.head (unread old runs) (unread new runs) passes.passed (on_none old runs on) (on_none new runs on2) passes.is

-- no more of what is left lies up to a point
pub fewer_to : (point : ℕ) (passed old new : Postings) → old ≡ passed ++ new → count_to point new ≤ count_to point old
fewer_to point passed old new is = subst (λ (ps : Postings). count_to point new ≤ count_to point ps) (sym is) (by passed)
  where
    by : (passed : Postings) → count_to point new ≤ count_to point (passed ++ new)
    by [] = le_refl (count_to point new)
    by (p ∷ ps) = let rest = by ps in omega (arith, rest)

-- nor behind it
still_behind : (point : ℕ) (passed new : Postings) → count_behind point new ≤ count_behind point (passed ++ new)
still_behind point [] new = le_refl (count_behind point new)
still_behind point (p ∷ ps) new = let rest = still_behind point ps new in omega (arith, rest)

pub fewer_behind : (point : ℕ) (passed old new : Postings) → old ≡ passed ++ new → count_behind point new ≤ count_behind point old
fewer_behind point passed old new is = subst (λ (ps : Postings). count_behind point new ≤ count_behind point ps) (sym is) (still_behind point passed new)

-- the first entry lay behind the point, and was passed over
pub one_passed : (point target : ℕ) (passed old new : Postings) → old ≡ passed ++ new → point < head_of old → head_of old < target → target ≤ head_of new → 1 + count_behind point new ≤ count_behind point old
one_passed point target [] old new is past lt reached = absurd (omega (arith, ap head_of is, lt, reached))
one_passed point target (p ∷ ps) old new is past lt reached =
    let first : point < p.0 = omega (arith, ap head_of is, past) in
    let rest = still_behind point ps new in
    let whole : count_behind point old ≡ 1 + count_behind point (ps ++ new) = ap (count_behind point) is ∙ ap (λ b. (if b then 1 else 0) + count_behind point (ps ++ new)) (is_less point p.0 first) in
    omega (arith, rest, whole)
  where
    is_less : (a b : ℕ) → a < b → nat_lt a b ≡ true
    is_less a b lt = grind (arith, nat_tests)
