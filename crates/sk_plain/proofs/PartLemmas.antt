-- One document more of those that were looked at, where those of a part are gathered.
use Rattle.std.proofs.Common.{◌≡◌, ◌≤◌, ◌<◌, ◌==◌, ℕ, true, false, cond, [], ◌∷◌, ◌++◌, Some, None, sym, ap, ◌∙◌, subst, arith}
use Rattle.std.specs.List.{AllByRecursion, cons_option}
use Rattle.std.proofs.lemmas.Bool.Decides.{nat_tests}
use Rattle.sk_sorted.specs.Entries.{RiseAbove, LieBelow, put}
use Rattle.sk_sorted.proofs.EntryLaws.{put-last}
use Rattle.sk_sorted.specs.Joined.{joined_id, part_of, own_id, part_in}
use Rattle.sk_sorted.proofs.JoinedIdLaws.{joined-own, own-lt}
use Rattle.sk_base.specs.declared.doc.Doc.{Doc}
use Rattle.sk_base.specs.Numbers.{Docs}
use Rattle.sk_plain.proofs.FoundLemmas.{one_more}

-- What was gathered of a part, with what is left of it, is the part; and all that was gathered stands before what is left.
pub record Gathers (n part : ℕ) (own left whole : Docs) : Type 0 where
  pub is : own ++ part_in n part left ≡ whole
  pub low : ℕ
  pub rise : RiseAbove low left
  pub under : AllByRecursion (λ (e : ℕ × Doc). joined_id n part e.0 ≤ low) own

module _ (n part : ℕ) (own whole rest : Docs) (one : ℕ × Doc) where
  tests : part_of n one.0 ≡ part → (part_of n one.0 == part) ≡ true
  tests e = grind (arith, nat_tests)

  differs : (part_of n one.0 ≡ part → ⊥) → (part_of n one.0 == part) ≡ false
  differs e = grind (arith, nat_tests)

  below : (low : ℕ) (es : Docs) → low < one.0 → part_of n one.0 ≡ part → AllByRecursion (λ (e : ℕ × Doc). joined_id n part e.0 ≤ low) es → LieBelow (own_id n one.0) es
  below low [] l here under = tt
  below low (e ∷ es) l here under = (
    own-lt n part e.0 (own_id n one.0) (let whole_id = joined-own n one.0 (omega (arith, l)) in let same = ap (λ p. joined_id n p (own_id n one.0)) here in let le = under.0 in omega (arith, whole_id, same, le, l)),
    below low es l here under.1,
  )

  later : (low high : ℕ) (es : Docs) → low ≤ high → AllByRecursion (λ (e : ℕ × Doc). joined_id n part e.0 ≤ low) es → AllByRecursion (λ (e : ℕ × Doc). joined_id n part e.0 ≤ high) es
  later low high [] le under = tt
  later low high (e ∷ es) le under = (let own_le = under.0 in omega (arith, own_le, le), later low high es le under.1)

  with_last : (high : ℕ) (es : Docs) (x : ℕ × Doc) → joined_id n part x.0 ≤ high → AllByRecursion (λ (e : ℕ × Doc). joined_id n part e.0 ≤ high) es → AllByRecursion (λ (e : ℕ × Doc). joined_id n part e.0 ≤ high) (es ++ x ∷ [])
  with_last high [] x own_le under = (own_le, tt)
  with_last high (e ∷ es) x own_le under = (under.0, with_last high es x own_le under.1)

  -- a document of the part
  pub gathers_one : (own2 left : Docs) → left ≡ one ∷ rest → part_of n one.0 ≡ part → own2 ≡ put (own_id n one.0) one.1 own
      → Gathers n part own left whole → Gathers n part own2 rest whole
  gathers_one own2 left next here is before =
      let g : Gathers n part own (one ∷ rest) whole = subst (λ es. Gathers n part own es whole) next before in
      let l : g.low < one.0 = g.rise.0 in
      let last : own2 ≡ own ++ (own_id n one.0, one.1) ∷ [] = is ∙ put-last (own_id n one.0) one.1 own (below g.low own l here g.under) in
      let id_is : joined_id n part (own_id n one.0) ≤ one.0 = let whole_id = joined-own n one.0 (omega (arith, l)) in let same = ap (λ p. joined_id n p (own_id n one.0)) here in omega (arith, whole_id, same) in
      record {
        is =
            ap (λ es. es ++ part_in n part rest) last
            ∙ one_more own (part_in n part rest) (own_id n one.0, one.1)
            ∙ sym (ap (λ b. own ++ cons_option (cond b (Some (own_id n one.0, one.1)) None) (part_in n part rest)) (tests here))
            ∙ g.is;
        low = one.0;
        rise = g.rise.1;
        under = subst (AllByRecursion (λ (e : ℕ × Doc). joined_id n part e.0 ≤ one.0)) (sym last) (with_last one.0 own (own_id n one.0, one.1) id_is (later g.low one.0 own (omega (arith, l)) g.under));
      }

  -- one of another part
  pub gathers_other : (left : Docs) → left ≡ one ∷ rest → (part_of n one.0 ≡ part → ⊥) → Gathers n part own left whole → Gathers n part own rest whole
  gathers_other left next there before =
      let g : Gathers n part own (one ∷ rest) whole = subst (λ es. Gathers n part own es whole) next before in
      record {
        is = sym (ap (λ b. own ++ cons_option (cond b (Some (own_id n one.0, one.1)) None) (part_in n part rest)) (differs there)) ∙ g.is;
        low = one.0;
        rise = g.rise.1;
        under = later g.low one.0 own (let l = g.rise.0 in omega (arith, l)) g.under;
      }
