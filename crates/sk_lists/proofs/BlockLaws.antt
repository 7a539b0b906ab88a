-- How heavy entries can be up to the end of a chunk.
use Rattle.std.proofs.Common.{◌≡◌, ℕ, zero, suc, ◌+◌, ◌-◌, ◌<◌, ◌≤◌, [], ◌∷◌, ◌++◌, length, drop, get_or, Option, None, Some, inl, inr, sym, ap, subst, ◌∙◌, arith, le_refl}
use Rattle.std.proofs.lemmas.Bool.{cases_eq}
use Rattle.std.proofs.lemmas.List.{length-drop, get_or-drop, get_or_default}
use Rattle.sk_sorted.specs.Entries.{RiseAbove, LieBelow, top_id}
use Rattle.sk_sorted.specs.Runs.{flat, RunsRise, AreRuns}
use Rattle.sk_sorted.proofs.RunLaws.{below-top, flat-rise, rise_drop, all_below}
use Rattle.sk_chunks.specs.Postings.{Postings, greatest_wdf}
use Rattle.sk_lists.specs.Lists.{Runs}
use Rattle.sk_lists.specs.Seeks.{AreWithin}
use Rattle.sk_lists.specs.Cursor.{rest_from, headed, IsReadLast, IsHeadAt}
use Rattle.sk_lists.proofs.CursorLaws.{headed_is}

module _ (target last greatest : ℕ) where
  within-append : (ps qs : Postings) → AreWithin target last greatest ps → AreWithin target last greatest qs → AreWithin target last greatest (ps ++ qs)
  within-append [] qs h g = g
  within-append (p ∷ ps) qs h g = (h.0, within-append ps qs h.1 g)

  within-drop : (n : ℕ) (ps : Postings) → AreWithin target last greatest ps → AreWithin target last greatest (drop n ps)
  within-drop zero ps h = h
  within-drop (suc n) [] h = tt
  within-drop (suc n) (p ∷ ps) h = within-drop n ps h.1

  within-below : (ps : Postings) → LieBelow target ps → AreWithin target last greatest ps
  within-below [] h = tt
  within-below (p ∷ ps) h = (inl h.0, within-below ps h.1)

  within-behind : (low : ℕ) (ps : Postings) → last ≤ low → RiseAbove low ps → AreWithin target last greatest ps
  within-behind low [] le up = tt
  within-behind low (p ∷ ps) le up = (inr (inl (omega (arith, le, up.0))), within-behind p.0 ps (omega (arith, le, up.0)) up.1)

  within-light : (ps : Postings) → greatest_wdf ps ≤ greatest → AreWithin target last greatest ps
  within-light [] le = tt
  within-light (p ∷ ps) le = (inr (inr (omega (arith, le))), within-light ps (omega (arith, le)))

-- the runs before one end below the target: up to its end nothing is heavier than its heaviest
within-runs : (target low : ℕ) (runs : Runs) (at : ℕ) → RunsRise low runs → at < length runs → ((k : ℕ) → k < at → top_id 0 (get_or runs k []) < target)
    → AreWithin target (top_id 0 (get_or runs at [])) (greatest_wdf (get_or runs at [])) (flat runs)
within-runs target low [] at up lt before = absurd (omega (arith, lt))
within-runs target low (r ∷ rs) zero up lt before =
    within-append target (top_id 0 r) (greatest_wdf r) r (flat rs) (within-light target (top_id 0 r) (greatest_wdf r) r (le_refl (greatest_wdf r)))
    (within-behind target (top_id 0 r) (greatest_wdf r) (top_id 0 r) (flat rs) (le_refl (top_id 0 r)) (flat-rise (top_id 0 r) rs up.1.1))
within-runs target low (r ∷ rs) (suc at) up lt before =
    within-append target (top_id 0 (get_or rs at [])) (greatest_wdf (get_or rs at [])) r (flat rs)
    (within-below target (top_id 0 (get_or rs at [])) (greatest_wdf (get_or rs at [])) r (below-top low target r up.0 (before 0 (omega arith))))
    (within-runs target (top_id 0 r) rs at up.1.1 (omega arith) (λ k small. before (suc k) (omega arith)))

module _ (target : ℕ) (runs : Runs) (up : RunsRise 0 runs) (h : ℕ × ℕ) (run read at : ℕ) (on : IsReadLast h run read runs) (before : (k : ℕ) → run ≤ k → k < at → top_id 0 (get_or runs k []) < target) where
  -- what is left to a cursor, up to the end of a run
  pub left_within : run ≤ at → at < length runs → AreWithin target (top_id 0 (get_or runs at [])) (greatest_wdf (get_or runs at [])) (h ∷ rest_from run read runs)
  left_within from lt =
      let last : ℕ = top_id 0 (get_or runs at []) in
      let greatest : ℕ = greatest_wdf (get_or runs at []) in
      let same : get_or (drop run runs) (at - run) [] ≡ get_or runs at [] = get_or-drop run runs (at - run) [] ∙ ap (λ k. get_or runs k []) (omega (arith, from)) in
      subst (AreWithin target last greatest) (headed_is h run read runs on)
      (within-drop target last greatest (read - 1) (flat (drop run runs))
      (subst (λ (r : Postings). AreWithin target (top_id 0 r) (greatest_wdf r) (flat (drop run runs))) same
      (within-runs target 0 (drop run runs) (at - run) (rise_drop 0 run runs up) (omega (arith, length-drop run runs, from, lt))
      (λ k small. subst (λ (r : Postings). top_id 0 r < target) (sym (get_or-drop run runs k [])) (before (run + k) (omega arith) (omega (arith, small)))))))

  -- no run reaches the target
  pub left_below : (last : ℕ) → at ≡ length runs → AreWithin target last 0 (h ∷ rest_from run read runs)
  left_below last end =
      subst (AreWithin target last 0) (headed_is h run read runs on)
      (within-drop target last 0 (read - 1) (flat (drop run runs))
      (within-below target last 0 (flat (drop run runs)) (all_below 0 target (drop run runs) (rise_drop 0 run runs up)
      (λ k small. subst (λ (r : Postings). top_id 0 r < target) (sym (get_or-drop run runs k [])) (before (run + k) (omega arith) (omega (arith, small, length-drop run runs, end)))))))

-- ---- by the head of a cursor

module _ (target : ℕ) (runs : Runs) (are : AreRuns runs) (run read : ℕ) (chunk : Postings) (is : chunk ≡ get_or runs run chunk) where
  first_before : (at : ℕ) → run < length runs → top_id 0 chunk < target → ((k : ℕ) → run + 1 ≤ k → k < at → top_id 0 (get_or runs k []) < target) → (k : ℕ) → run ≤ k → k < at → top_id 0 (get_or runs k []) < target
  first_before at there below before k from lt = elim (cases_eq k run) as (λ _. top_id 0 (get_or runs k []) < target) [
    | inl same ↦ subst (λ i. top_id 0 (get_or runs i []) < target) (sym same) (subst (λ (r : Postings). top_id 0 r < target) (is ∙ get_or_default runs run chunk [] there) below)
    | inr other ↦ before k (omega (arith, from, other)) lt
  ]

  -- the target falls into the chunk where it stands
  pub block_here : (head : Option (ℕ × ℕ)) (last greatest : ℕ) → IsHeadAt head run read runs → last ≡ top_id 0 chunk → greatest ≡ greatest_wdf chunk → AreWithin target last greatest (headed head (rest_from run read runs))
  block_here None last greatest on l g = tt
  block_here (Some p) last greatest on l g =
      subst (λ n. AreWithin target n greatest (p ∷ rest_from run read runs)) (sym l)
      (subst (λ n. AreWithin target (top_id 0 chunk) n (p ∷ rest_from run read runs)) (sym g)
      (subst (λ (r : Postings). AreWithin target (top_id 0 r) (greatest_wdf r) (p ∷ rest_from run read runs)) (sym (is ∙ get_or_default runs run chunk [] on.there))
      (left_within target runs are.rise p run read run on (λ k from lt. absurd (omega (arith, from, lt))) (le_refl run) on.there)))

  module _ (at : ℕ) (below : top_id 0 chunk < target) (before : (k : ℕ) → run + 1 ≤ k → k < at → top_id 0 (get_or runs k []) < target) where
    -- it falls into a later one
    pub block_behind : (head : Option (ℕ × ℕ)) (last greatest : ℕ) (later : Postings) → IsHeadAt head run read runs → run + 1 ≤ at → at < length runs → later ≡ get_or runs at [] → last ≡ top_id 0 later → greatest ≡ greatest_wdf later
        → AreWithin target last greatest (headed head (rest_from run read runs))
    block_behind None last greatest later on from lt e l g = tt
    block_behind (Some p) last greatest later on from lt e l g =
        subst (λ n. AreWithin target n greatest (p ∷ rest_from run read runs)) (sym l)
        (subst (λ n. AreWithin target (top_id 0 later) n (p ∷ rest_from run read runs)) (sym g)
        (subst (λ (r : Postings). AreWithin target (top_id 0 r) (greatest_wdf r) (p ∷ rest_from run read runs)) (sym e)
        (left_within target runs are.rise p run read at on (first_before at on.there below before) (omega (arith, from)) lt)))

    -- it falls into none
    pub block_none : (head : Option (ℕ × ℕ)) (last greatest : ℕ) → IsHeadAt head run read runs → at ≡ length runs → greatest ≡ 0 → AreWithin target last greatest (headed head (rest_from run read runs))
    block_none None last greatest on end g = tt
    block_none (Some p) last greatest on end g =
        subst (λ n. AreWithin target last n (p ∷ rest_from run read runs)) (sym g) (left_below target runs are.rise p run read at on (first_before at on.there below before) last end)
