-- What a seek's reading in one run needs, and its clauses.
use Rattle.std.proofs.Common.{◌≡◌, ◌≢◌, ℕ, ◌+◌, ◌-◌, ◌<◌, ◌≤◌, [], ◌∷◌, ◌++◌, length, take, drop, get_or, true, Option, Some, None, inl, inr, refl, sym, ap, subst, ◌∙◌, arith}
use Rattle.std.proofs.lemmas.Bool.{cases_eq, ltb-true}
use Rattle.std.proofs.lemmas.List.{take_more, length-drop, get_or-drop, get_or_default}
use Rattle.sk_sorted.specs.Entries.{LieBelow, top_id}
use Rattle.sk_sorted.specs.Runs.{AreRuns}
use Rattle.sk_sorted.proofs.RunLaws.{top-at, tops_rise}
use Rattle.sk_chunks.specs.Postings.{Postings, greatest_wdf, is_below}
use Rattle.sk_lists.specs.Lists.{Runs}
use Rattle.sk_lists.specs.Seeks.{ReadsPostings, IsSkipped}
use Rattle.sk_lists.specs.Cursor.{rest_from, headed, IsReadLast, IsHeadAt, IsReadTo}
use Rattle.sk_lists.proofs.SeekLaws.{Sought, sought_here, sought_behind, sought_end}

-- ---- reading on

-- where an entry lies below the target and the run's last id does not, there is another behind it
pub more_behind : (target i : ℕ) (run : Postings) (e : ℕ × ℕ) → i < length run → e ≡ get_or run i e → e.0 < target → target ≤ top_id 0 run → i + 1 < length run
more_behind target i run e lt is below reaches = elim (cases_eq (i + 1) (length run)) [
  | inl last ↦
      let place : i ≡ length run - 1 = omega (arith, last) in
      let top : e.0 ≡ top_id 0 run = ap (λ (p : ℕ × ℕ). p.0) is ∙ ap (λ n. (get_or run n e).0) place ∙ top-at 0 run e (omega (arith, lt)) in
      absurd (omega (arith, top, below, reaches))
  | inr other ↦ omega (arith, lt, other)
]

-- one more entry lies below
below-push : (target : ℕ) (es : Postings) (e : ℕ × ℕ) → LieBelow target es → e.0 < target → LieBelow target (es ++ e ∷ [])
below-push target [] e below lt = (lt, tt)
below-push target (f ∷ es) e below lt = (below.0, below-push target es e below.1 lt)

pub below_more : (target before n i : ℕ) (run : Postings) (e : ℕ × ℕ) → i ≡ before + n → i < length run → e ≡ get_or run i e → LieBelow target (take n (drop before run)) → e.0 < target → LieBelow target (take (n + 1) (drop before run))
below_more target before n i run e place lt is below less =
    let there : get_or (drop before run) n e ≡ e = get_or-drop before run n e ∙ ap (λ k. get_or run k e) (sym place) ∙ sym is in
    subst (LieBelow target) (sym (take_more (drop before run) n e (omega (arith, length-drop before run, place, lt)) ∙ ap (λ p. take n (drop before run) ++ p ∷ []) there))
    (below-push target (take n (drop before run)) e below less)

-- ---- the head

-- a head below the target
pub record Behind (target : ℕ) (head : Option (ℕ × ℕ)) (run read : ℕ) (runs : Runs) : Type 0 where
  pub entry : ℕ × ℕ
  pub is : head ≡ Some entry
  pub on : IsReadLast entry run read runs
  pub below : entry.0 < target

pub behind : (target : ℕ) (head : Option (ℕ × ℕ)) (run read : ℕ) (runs : Runs) → IsHeadAt head run read runs → is_below target (headed head (rest_from run read runs)) ≡ true → Behind target head run read runs
behind target None run read runs on ahead = absurd cc
behind target (Some p) run read runs on ahead = record { entry = p; is = refl; on = on; below = ltb-true p.0 target ahead }

-- it stands within the list
pub in_list : (target : ℕ) (head : Option (ℕ × ℕ)) (run read : ℕ) (runs : Runs) → IsHeadAt head run read runs → is_below target (headed head (rest_from run read runs)) ≡ true → run < length runs
in_list target head run read runs on ahead = (behind target head run read runs on ahead).on.there

-- where its run does not end below the target, more of that is unread
pub more_here : (target : ℕ) (head : Option (ℕ × ℕ)) (run read : ℕ) (runs : Runs) (chunk : Postings) → IsHeadAt head run read runs → is_below target (headed head (rest_from run read runs)) ≡ true
    → chunk ≡ get_or runs run chunk → target ≤ top_id 0 chunk → read < length chunk
more_here target head run read runs chunk on ahead is reaches =
    let b = behind target head run read runs on ahead in
    let same : chunk ≡ get_or runs run [] = is ∙ get_or_default runs run chunk [] b.on.there in
    let begun : 0 < read = b.on.begun in
    let within : read ≤ length (get_or runs run []) = b.on.within in
    let more : read - 1 + 1 < length (get_or runs run []) = more_behind target (read - 1) (get_or runs run []) b.entry (omega (arith, begun, within)) (sym b.on.is) b.below (subst (λ (ps : Postings). target ≤ top_id 0 ps) same reaches) in
    omega (arith, more, begun, ap length same)

-- ---- a seek's clauses

-- it read on in the run where it was
pub seeks_here : (target need count : ℕ) (runs : Runs) (head : Option (ℕ × ℕ)) (run read : ℕ) (next : Option (ℕ × ℕ)) (place after : ℕ) (chunk : Postings)
    → AreRuns runs → IsHeadAt head run read runs → is_below target (headed head (rest_from run read runs)) ≡ true
    → place ≡ run → chunk ≡ get_or runs run chunk → IsReadTo target read after count next chunk
    → Sought target need count runs head run read next place after
seeks_here target need count runs head run read next place after chunk are on ahead there is to =
    let b = behind target head run read runs on ahead in
    subst (λ o. Sought target need count runs o run read next place after) (sym b.is)
    (subst (λ p. Sought target need count runs (Some b.entry) run read next p after) (sym there)
    (sought_here target need runs are.rise b.entry run read run b.on b.below (omega arith) (λ k from lt. absurd (omega (arith, from, lt))) after count next refl b.on.there
    (subst (IsReadTo target read after count next) (is ∙ get_or_default runs run chunk [] b.on.there) to)))

-- one more run before those that may be passed over
skips_from : (target need run at : ℕ) (runs : Runs) → IsSkipped target need (get_or runs run []) → ((k : ℕ) → run + 1 ≤ k → k < at → IsSkipped target need (get_or runs k []))
    → (k : ℕ) → run ≤ k → k < at → IsSkipped target need (get_or runs k [])
skips_from target need run at runs first skips k from lt = elim (cases_eq k run) [
  | inl same ↦ subst (λ i. IsSkipped target need (get_or runs i [])) (sym same) first
  | inr other ↦ skips k (omega (arith, from, other)) lt
]

-- it read in a later run
pub seeks_behind : (target need count : ℕ) (runs : Runs) (head : Option (ℕ × ℕ)) (run read at : ℕ) (next : Option (ℕ × ℕ)) (place after : ℕ) (here chunk : Postings)
    → AreRuns runs → IsHeadAt head run read runs → is_below target (headed head (rest_from run read runs)) ≡ true
    → here ≡ get_or runs run here → IsSkipped target need here → run + 1 ≤ at → ((k : ℕ) → run + 1 ≤ k → k < at → IsSkipped target need (get_or runs k []))
    → at ≤ length runs → at ≢ length runs → place ≡ at → chunk ≡ get_or runs at [] → IsReadTo target 0 after count next chunk
    → Sought target need count runs head run read next place after
seeks_behind target need count runs head run read at next place after here chunk are on ahead was first onward skips within inside there is to =
    let b = behind target head run read runs on ahead in
    let passed = subst (IsSkipped target need) (was ∙ get_or_default runs run here [] b.on.there) first in
    subst (λ o. Sought target need count runs o run read next place after) (sym b.is)
    (subst (λ p. Sought target need count runs (Some b.entry) run read next p after) (sym there)
    (sought_behind target need runs are.rise b.entry run read at b.on b.below (omega (arith, onward)) (skips_from target need run at runs passed skips)
    after count next (λ e. absurd (omega (arith, e, onward))) (omega (arith, within, inside)) (subst (IsReadTo target 0 after count next) is to)))

-- it came to the end
pub seeks_end : (target need : ℕ) (runs : Runs) (head : Option (ℕ × ℕ)) (run read at after : ℕ) (here : Postings)
    → AreRuns runs → IsHeadAt head run read runs → is_below target (headed head (rest_from run read runs)) ≡ true
    → here ≡ get_or runs run here → IsSkipped target need here → run + 1 ≤ at → ((k : ℕ) → run + 1 ≤ k → k < at → IsSkipped target need (get_or runs k []))
    → at ≡ length runs → Sought target need 0 runs head run read None at after
seeks_end target need runs head run read at after here are on ahead was first onward skips end =
    let b = behind target head run read runs on ahead in
    let passed = subst (IsSkipped target need) (was ∙ get_or_default runs run here [] b.on.there) first in
    subst (λ o. Sought target need 0 runs o run read None at after) (sym b.is)
    (sought_end target need runs are.rise b.entry run read at b.on b.below (omega (arith, onward)) (skips_from target need run at runs passed skips) after end)

-- what is read was unread before
pub reads_once : (target count : ℕ) (old new : Postings) → ReadsPostings target count old new → count + length new ≤ length old
reads_once target count old new reads = omega (arith, ap length reads.is, length-drop (reads.skipped + count) old, reads.within)

-- ---- chunks by their heads

-- where a run does not end below the target, no later one does
pub reaches_on : (target m k : ℕ) (runs : Runs) → AreRuns runs → m ≤ k → k < length runs → target ≤ top_id 0 (get_or runs m []) → target ≤ top_id 0 (get_or runs k [])
reaches_on target m k runs are le lt reaches = omega (arith, tops_rise 0 runs m k [] are.rise le lt, reaches)

-- one more run that is too light may be passed over
pub skips_more : (target need run at : ℕ) (runs : Runs) → ((k : ℕ) → run ≤ k → k < at → IsSkipped target need (get_or runs k [])) → greatest_wdf (get_or runs at []) < need
    → (k : ℕ) → run ≤ k → k < at + 1 → IsSkipped target need (get_or runs k [])
skips_more target need run at runs skips light k from lt = elim (cases_eq k at) [
  | inl same ↦ inr (subst (λ i. greatest_wdf (get_or runs i []) < need) (sym same) light)
  | inr other ↦ skips k from (omega (arith, lt, other))
]
