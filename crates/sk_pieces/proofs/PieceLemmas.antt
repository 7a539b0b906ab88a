-- What an edit of one piece is to all.
use Rattle.std.proofs.Common.{◌≡◌, ℕ, ◌<◌, ◌≤◌, List, length, true, false, is_some, Option, Some, None, ◌⊎◌, inl, inr, refl, sym, ap, ◌∙◌, arith, true≢false}
use Rattle.sk_sorted.specs.Entries.{AreSorted, put, without, found, has}
use Rattle.sk_sorted.proofs.EntryLaws.{without-put}
use Rattle.sk_sorted.proofs.EndLaws.{length-put, length-put_over}
use Rattle.sk_sorted.specs.Runs.{flat, AreRuns}
use Rattle.sk_pieces.specs.Pieces.{ArePieces}

module _ {X : Type 0} where
  -- a piece that has room has no more entries than it may have once one was put
  pub length-room : (id : ℕ) (x : X) (es : List (ℕ × X)) → AreSorted es → length es ≤ 128 → (has id es ≡ true) ⊎ (length es < 128) → length (put id x es) ≤ 128
  length-room id x es sorted few (inl there) = by (found id es) refl there
    where
      by : (o : Option X) → found id es ≡ o → is_some o ≡ true → length (put id x es) ≤ 128
      by None e h = absurd (true≢false (sym h))
      by (Some gone) e h = omega (arith, length-put_over 0 id x gone es (sym e) sorted.rise, few)
  length-room id x es sorted few (inr room) = omega (arith, length-put id x es, room)

  -- the same entries in other pieces
  pub kept-same : (old new : List (List (ℕ × X))) (count : ℕ) → ArePieces old count → AreRuns new → flat new ≡ flat old → ArePieces new count
  kept-same old new count kept are same = record { sound = are; count_is = ap length same ∙ kept.count_is }

  -- a new entry that was put is gone once it is taken out again
  pub taken-back : (id : ℕ) (x : X) (es : List (ℕ × X)) → has id es ≡ false → without id (put id x es) ≡ es
  taken-back id x es none = without-put id x es (absent (found id es) none)
    where
      absent : (o : Option X) → is_some o ≡ false → o ≡ None
      absent None e = refl
      absent (Some y) e = absurd (true≢false e)
