-- What is kept of a chunk behind each edit.
use Rattle.std.proofs.Common.{◌≡◌, ◌⊎◌, inl, inr, ℕ, zero, suc, ◌+◌, ◌<◌, ◌≤◌, ◌^◌, max, List, [], ◌∷◌, ◌++◌, length, take, drop, true, is_some, Some, None, refl, sym, ap, subst, ◌∙◌, arith, length-append, length-take, length-drop}
use Rattle.std.specs.List.{insert, remove}
use mathlib.Core.Bool.{true≢false}
use Rattle.sk_sorted.specs.Entries.{AreSorted, RiseAbove, put, without, found, has, top_id}
use Rattle.sk_sorted.proofs.EntryLaws.{AreSorted-put, AreSorted-without, AreSorted-drop}
use Rattle.sk_chunks.specs.Postings.{Postings, greatest_wdf}
use Rattle.sk_chunks.specs.Chunks.{IsChunk}
use Rattle.sk_sorted.proofs.EndLaws.{top_id-put, top_id-put_over, top_id-append, length-put, length-put_over, length-without, AreSorted-take, AreSorted-append}
use Rattle.sk_chunks.proofs.GreatestLaws.{greatest-put_new, greatest-take, greatest-drop, greatest-append}

-- a chunk that has not the id has room for it
pub has_room : (id : ℕ) (ps : Postings) → (has id ps ≡ true) ⊎ (length ps < 128) → None ≡ found id ps → length ps < 128
has_room id ps room none = elim room [ inl there ↦ absurd (true≢false (sym there ∙ ap is_some (sym none))) | inr lt ↦ lt ]

pub IsChunk-put_over : (ps : Postings) (last greatest id wdf gone g : ℕ) → IsChunk ps last greatest → 1 ≤ id → id < 2 ^ 32 → Some gone ≡ found id ps → g ≡ greatest_wdf (put id wdf ps) → IsChunk (put id wdf ps) last g
IsChunk-put_over ps last greatest id wdf gone g kept begun small there is = record {
  sorted = AreSorted-put id wdf ps begun small kept.sorted;
  last_is = top_id-put_over id wdf gone ps begun there kept.sorted.rise ∙ kept.last_is;
  greatest_is = sym is;
  few = omega (arith, kept.few, length-put_over 0 id wdf gone ps there kept.sorted.rise);
}

pub IsChunk-put_new : (ps : Postings) (last greatest id wdf l g : ℕ) → IsChunk ps last greatest → 1 ≤ id → id < 2 ^ 32 → None ≡ found id ps → length ps < 128 → l ≡ max last id → g ≡ max greatest wdf → IsChunk (put id wdf ps) l g
IsChunk-put_new ps last greatest id wdf l g kept begun small none room l_is g_is = record {
  sorted = AreSorted-put id wdf ps begun small kept.sorted;
  last_is = top_id-put 0 id wdf ps (omega arith) kept.sorted.rise ∙ ap (λ n. max n id) kept.last_is ∙ sym l_is;
  greatest_is = greatest-put_new id wdf ps none ∙ ap (λ n. max n wdf) kept.greatest_is ∙ sym g_is;
  few = omega (arith, length-put id wdf ps);
}

pub IsChunk-without : (ps : Postings) (last greatest id l g : ℕ) → IsChunk ps last greatest → l ≡ top_id 0 (without id ps) → g ≡ greatest_wdf (without id ps) → IsChunk (without id ps) l g
IsChunk-without ps last greatest id l g kept l_is g_is = record {
  sorted = AreSorted-without id ps kept.sorted;
  last_is = sym l_is;
  greatest_is = sym g_is;
  few = omega (arith, kept.few, length-without id ps);
}

pub IsChunk-take : (ps : Postings) (last greatest n l g : ℕ) → IsChunk ps last greatest → l ≡ top_id 0 (take n ps) → g ≡ greatest_wdf (take n ps) → IsChunk (take n ps) l g
IsChunk-take ps last greatest n l g kept l_is g_is = record {
  sorted = AreSorted-take n ps kept.sorted;
  last_is = sym l_is;
  greatest_is = sym g_is;
  few = omega (arith, kept.few, length-take n ps);
}

pub IsChunk-drop : (ps : Postings) (last greatest n l g : ℕ) → IsChunk ps last greatest → l ≡ top_id 0 (drop n ps) → g ≡ greatest_wdf (drop n ps) → IsChunk (drop n ps) l g
IsChunk-drop ps last greatest n l g kept l_is g_is = record {
  sorted = AreSorted-drop n ps kept.sorted;
  last_is = sym l_is;
  greatest_is = sym g_is;
  few = omega (arith, kept.few, length-drop n ps);
}

-- what is put in at a place and taken out there again
pub remove_inserted : {Y : Type 0} → (ys : List Y) (i : ℕ) (y : Y) → i ≤ length ys → remove (insert ys i y) i ≡ ys
remove_inserted [] zero y le = refl
remove_inserted [] (suc i) y le = absurd (omega arith)
remove_inserted (z ∷ ys) zero y le = refl
remove_inserted (z ∷ ys) (suc i) y le = ap (λ zs. z ∷ zs) (remove_inserted ys i y (omega arith))

-- a front and the rest of a chunk that took a new entry
module _ (ps made : Postings) (last greatest id wdf n : ℕ) (kept : IsChunk ps last greatest) (put_is : made ≡ put id wdf ps) (none : None ≡ found id ps) (some : 1 ≤ n) (less : n ≤ length ps) where
  made_sorted : 1 ≤ id → id < 2 ^ 32 → AreSorted made
  made_sorted begun small = subst AreSorted (sym put_is) (AreSorted-put id wdf ps begun small kept.sorted)

  made_greatest : greatest_wdf made ≡ max greatest wdf
  made_greatest = ap greatest_wdf put_is ∙ greatest-put_new id wdf ps none ∙ ap (λ m. max m wdf) kept.greatest_is

  made_length : length made ≤ length ps + 1
  made_length = omega (arith, ap length put_is, length-put id wdf ps)

  pub front_within : (front : Postings) (most : ℕ) → front ≡ take n made → most ≡ max greatest wdf → greatest_wdf front ≤ most
  front_within front most is m = omega (arith, ap greatest_wdf is, greatest-take n made, made_greatest, m)

  pub rest_within : (rest : Postings) (most : ℕ) → rest ≡ drop n made → most ≡ max greatest wdf → greatest_wdf rest ≤ most
  rest_within rest most is m = omega (arith, ap greatest_wdf is, greatest-drop n made, made_greatest, m)

  pub IsChunk-front : 1 ≤ id → id < 2 ^ 32 → (front : Postings) (l g : ℕ) → front ≡ take n made → l ≡ top_id 0 front → g ≡ greatest_wdf front → IsChunk front l g
  IsChunk-front begun small front l g is l_is g_is = record {
    sorted = subst AreSorted (sym is) (AreSorted-take n made (made_sorted begun small));
    last_is = sym l_is;
    greatest_is = sym g_is;
    few = omega (arith, kept.few, ap length is, length-take n made, less);
  }

  pub IsChunk-rest : 1 ≤ id → id < 2 ^ 32 → (rest : Postings) (l g : ℕ) → rest ≡ drop n made → l ≡ top_id 0 rest → g ≡ greatest_wdf rest → IsChunk rest l g
  IsChunk-rest begun small rest l g is l_is g_is = record {
    sorted = subst AreSorted (sym is) (AreSorted-drop n made (made_sorted begun small));
    last_is = sym l_is;
    greatest_is = sym g_is;
    few = omega (arith, kept.few, ap length is, length-drop n made, made_length, some);
  }

pub IsChunk-append : (ps qs : Postings) (last greatest behind more l g : ℕ) → IsChunk ps last greatest → IsChunk qs behind more → RiseAbove (top_id 0 ps) qs → length ps + length qs ≤ 128 → l ≡ max last behind → g ≡ max greatest more → IsChunk (ps ++ qs) l g
IsChunk-append ps qs last greatest behind more l g kept next rise room l_is g_is = record {
  sorted = AreSorted-append ps qs kept.sorted next.sorted rise;
  last_is = top_id-append ps qs rise ∙ (λ i. max (kept.last_is i) (next.last_is i)) ∙ sym l_is;
  greatest_is = greatest-append ps qs ∙ (λ i. max (kept.greatest_is i) (next.greatest_is i)) ∙ sym g_is;
  few = omega (arith, length-append ps qs);
}
