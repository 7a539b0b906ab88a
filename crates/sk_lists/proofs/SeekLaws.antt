-- A seek, put together of what it passed over by heads and of what it read.
use Rattle.std.proofs.Common.{◌≡◌, ◌≢◌, ℕ, zero, suc, ◌+◌, ◌-◌, ◌<◌, ◌≤◌, [], ◌∷◌, ◌++◌, length, take, drop, get_or, nat_lt, if◌then◌else◌, false, Option, Some, None, inl, inr, refl, sym, ap, subst, ◌∙◌, arith, le_refl}
use Rattle.std.proofs.lemmas.Bool.Decides.{nat_tests}
use Rattle.std.proofs.lemmas.List.{append_assoc, append-nil, take-append-drop, length-append, length-take, length-take-le, length-drop, drop-drop, drop_all, drop_more, drop-append-le, take-append-le, get_or-take, get_or-drop}
use Rattle.std.proofs.Math.Seq.{drop-append_seam, drop-append-add, drop-length}
use Rattle.sk_sorted.specs.Entries.{RiseAbove, LieBelow, from, top_id}
use Rattle.sk_sorted.proofs.EntryLaws.{from-below, from-at}
use Rattle.sk_sorted.specs.Runs.{flat, RunsRise}
use Rattle.sk_sorted.proofs.RunLaws.{below-top, flat-append, flat-drop, rise_drop, rise_take}
use Rattle.sk_chunks.specs.Postings.{Postings, greatest_wdf, is_below}
use Rattle.sk_lists.specs.Lists.{Runs}
use Rattle.sk_lists.specs.Seeks.{ArePassed, PassesPostings, ReadsPostings, count_below, IsSkipped}
use Rattle.sk_lists.specs.Cursor.{rest_from, headed, IsReadLast, IsHeadAt, IsReadTo}

-- ---- what may be passed over

pub passed-append : (target need : ℕ) (ps qs : Postings) → ArePassed target need ps → ArePassed target need qs → ArePassed target need (ps ++ qs)
passed-append target need [] qs h g = g
passed-append target need (p ∷ ps) qs h g = (h.0, passed-append target need ps qs h.1 g)

passed-drop : (target need n : ℕ) (ps : Postings) → ArePassed target need ps → ArePassed target need (drop n ps)
passed-drop target need zero ps h = h
passed-drop target need (suc n) [] h = tt
passed-drop target need (suc n) (p ∷ ps) h = passed-drop target need n ps h.1

passed-below : (target need : ℕ) (ps : Postings) → LieBelow target ps → ArePassed target need ps
passed-below target need [] h = tt
passed-below target need (p ∷ ps) h = (inl h.0, passed-below target need ps h.1)

passed-light : (target need bound : ℕ) (ps : Postings) → greatest_wdf ps ≤ bound → bound < need → ArePassed target need ps
passed-light target need bound [] le lt = tt
passed-light target need bound (p ∷ ps) le lt = (inr (omega (arith, le, lt)), passed-light target need bound ps (omega (arith, le)) lt)

-- a run that is skipped is passed over
pub passed-skipped : (target need low : ℕ) (run : Postings) → RiseAbove low run → IsSkipped target need run → ArePassed target need run
passed-skipped target need low run up (inl ends) = passed-below target need run (below-top low target run up ends)
passed-skipped target need low run up (inr light) = passed-light target need (greatest_wdf run) run (le_refl (greatest_wdf run)) light

-- runs that are all skipped
pub passed-runs : (target need low : ℕ) (runs : Runs) → RunsRise low runs → ((k : ℕ) → k < length runs → IsSkipped target need (get_or runs k [])) → ArePassed target need (flat runs)
passed-runs target need low [] up all = tt
passed-runs target need low (r ∷ rs) up all =
    passed-append target need r (flat rs) (passed-skipped target need low r up.0 (all 0 (omega arith)))
    (passed-runs target need (top_id 0 r) rs up.1.1 (λ k lt. all (suc k) (omega arith)))

-- ---- counts

count-append : (id : ℕ) (ps qs : Postings) → count_below id (ps ++ qs) ≡ count_below id ps + count_below id qs
count-append id [] qs = omega arith
count-append id (p ∷ ps) qs = omega (arith, count-append id ps qs)

count-all : (target id : ℕ) (ps : Postings) → target ≤ id → LieBelow target ps → length ps ≤ count_below id ps
count-all target id [] le below = omega arith
count-all target id (p ∷ ps) le below = grind (arith, nat_tests, count-all target id ps le, below.0, below.1)

-- ---- the need 0

-- without a need a seek passes over just what lies below the target
pub passes-exact : (target low : ℕ) (old new : Postings) → RiseAbove low old → PassesPostings target 0 old new → new ≡ from target old
passes-exact target low old new up passes = go low passes.passed (subst (RiseAbove low) passes.is up) passes.light ∙ ap (from target) (sym passes.is)
  where
    stays : (ps : Postings) → is_below target ps ≡ false → ps ≡ from target ps
    stays [] e = refl
    stays (p ∷ ps) e = sym (from-at target p ps (Rattle.std.proofs.lemmas.Bool.ltb-false p.0 target e))

    go : (low : ℕ) (passed : Postings) → RiseAbove low (passed ++ new) → ArePassed target 0 passed → new ≡ from target (passed ++ new)
    go low [] up light = stays new passes.reached
    go low (p ∷ ps) up (inl lt, light) = go p.0 ps up.1 light ∙ sym (from-below target p (ps ++ new) lt)
    go low (p ∷ ps) up (inr lt, light) = absurd (omega (arith, lt))

-- ---- what was read of a run

-- the entries read, the last of them apart
body : (run : Postings) (before after count : ℕ) (p : ℕ × ℕ) → after ≡ before + count → 1 ≤ count → after ≤ length run → get_or run (after - 1) p ≡ p
    → drop before run ≡ take (count - 1) (drop before run) ++ p ∷ drop after run
body run before after count p counted some within at =
    let place : count - 1 + before ≡ after - 1 = omega arith in
    let next : after - 1 + 1 ≡ after = omega arith in
    sym (take-append-drop (count - 1) (drop before run))
    ∙ ap (λ (es : Postings). take (count - 1) (drop before run) ++ es)
    (drop-drop (count - 1) before run ∙ ap (λ n. drop n run) (omega (arith, place)) ∙ drop_more run (after - 1) p (omega arith) ∙ (λ i. at i ∷ drop (next i) run))

module _ (target need : ℕ) (h : ℕ × ℕ) (behind : h.0 < target) where
  -- ---- a seek that ends at an entry

  module _ (gap run more : Postings) (before after count : ℕ) (p : ℕ × ℕ) (light : ArePassed target need gap)
      (counted : after ≡ before + count) (some : 1 ≤ count) (within : after ≤ length run) (at : get_or run (after - 1) p ≡ p)
      (below : LieBelow target (take (count - 1) (drop before run))) (reached : target ≤ p.0) where
    abbrev read_before : Postings
    read_before = take (count - 1) (drop before run)

    old_is : gap ++ (drop before run ++ more) ≡ (gap ++ read_before) ++ p ∷ (drop after run ++ more)
    old_is = ap (λ (es : Postings). gap ++ (es ++ more)) (body run before after count p counted some within at)
        ∙ ap (λ (es : Postings). gap ++ es) (append_assoc read_before (p ∷ drop after run) more)
        ∙ sym (append_assoc gap read_before (p ∷ (drop after run ++ more)))

    length_read : length read_before ≡ count - 1
    length_read = length-take-le (count - 1) (drop before run) (omega (arith, length-drop before run, counted, within, some))

    found-passes : PassesPostings target need (h ∷ (gap ++ (drop before run ++ more))) (p ∷ (drop after run ++ more))
    found-passes = record {
      passed = h ∷ (gap ++ read_before);
      is = ap (λ (es : Postings). h ∷ es) old_is;
      light = (inl behind, passed-append target need gap read_before light (passed-below target need read_before below));
      reached = not_below p.0 target reached;
    }
      where
        not_below : (id target : ℕ) → target ≤ id → nat_lt id target ≡ false
        not_below id target le = grind (arith, nat_tests)

    found-reads : ReadsPostings target count (gap ++ (drop before run ++ more)) (drop after run ++ more)
    found-reads = record {
      skipped = length gap;
      is = sym (drop-append-add gap (drop before run ++ more) count
          ∙ drop-append-le count (drop before run) more (omega (arith, length-drop before run))
          ∙ ap (λ (es : Postings). es ++ more) (drop-drop count before run ∙ ap (λ n. drop n run) (omega arith)));
      within = omega (arith, length-append gap (drop before run ++ more), length-append (drop before run) more, length-drop before run);
      one_beyond = subst (LieBelow target)
          (sym (ap (take (count - 1)) (drop-append_seam gap (drop before run ++ more)) ∙ take-append-le (count - 1) (drop before run) more (omega (arith, length-drop before run)))) below;
    }

    found-moves : (t : ℕ) → target ≤ t → count + count_below t (p ∷ (drop after run ++ more)) ≤ count_below t (h ∷ (gap ++ (drop before run ++ more)))
    found-moves t le =
        let rest : ℕ = count_below t (p ∷ (drop after run ++ more)) in
        let whole : count_below t (gap ++ (drop before run ++ more)) ≡ count_below t gap + count_below t read_before + rest
        = ap (count_below t) old_is ∙ count-append t (gap ++ read_before) (p ∷ (drop after run ++ more)) ∙ ap (λ n. n + rest) (count-append t gap read_before) in
        let read : count - 1 ≤ count_below t read_before = subst (λ n. n ≤ count_below t read_before) length_read (count-all target t read_before le below) in
        let first : 1 ≤ (if nat_lt h.0 t then 1 else 0) = grind (arith, nat_tests) in
        omega (arith, whole, read, first, some)

  -- ---- a seek that ends

  ended-passes : (gap : Postings) → ArePassed target need gap → PassesPostings target need (h ∷ gap) []
  ended-passes gap light = record { passed = h ∷ gap; is = ap (λ (es : Postings). h ∷ es) (sym (append-nil gap)); light = (inl behind, light); reached = refl }

  ended-reads : (gap : Postings) → ReadsPostings target 0 gap []
  ended-reads gap = record {
    skipped = length gap;
    is = sym (ap (λ n. drop n gap) (omega arith) ∙ drop-length gap);
    within = omega arith;
    one_beyond = tt;
  }

-- ---- places

-- what is unread of a place: the rest of its run, and the runs behind
pub here_unread : (runs : Runs) (run read : ℕ) → run < length runs → read ≤ length (get_or runs run []) → rest_from run read runs ≡ drop read (get_or runs run []) ++ flat (drop (run + 1) runs)
here_unread runs run read lt le = ap (drop read) (flat-drop runs run [] lt) ∙ drop-append-le read (get_or runs run []) (flat (drop (run + 1) runs)) le

-- the same up to a later run
pub over_unread : (runs : Runs) (run read at : ℕ) → run < at → at ≤ length runs → read ≤ length (get_or runs run [])
    → rest_from run read runs ≡ drop read (flat (take (at - run) (drop run runs))) ++ flat (drop at runs)
over_unread runs run read at lt le within =
    let parts : flat (drop run runs) ≡ flat (take (at - run) (drop run runs)) ++ flat (drop at runs)
    = ap flat (sym (take-append-drop (at - run) (drop run runs))) ∙ flat-append (take (at - run) (drop run runs)) (drop (at - run) (drop run runs))
    ∙ ap (λ (rs : Runs). flat (take (at - run) (drop run runs)) ++ flat rs) (drop-drop (at - run) run runs ∙ ap (λ n. drop n runs) (omega arith)) in
    ap (drop read) parts ∙ drop-append-le read (flat (take (at - run) (drop run runs))) (flat (drop at runs)) (first_within runs run (at - run) (omega arith) (omega arith) within)
  where
    first_within : (runs : Runs) (run n : ℕ) → 0 < n → run < length runs → read ≤ length (get_or runs run []) → read ≤ length (flat (take n (drop run runs)))
    first_within [] run n some lt within = absurd (omega arith)
    first_within (r ∷ rs) zero zero some lt within = absurd (omega arith)
    first_within (r ∷ rs) zero (suc n) some lt within = omega (arith, length-append r (flat (take n rs)), within)
    first_within (r ∷ rs) (suc run) n some lt within = first_within rs run n some (omega arith) within

-- the gap may be passed over
pub gap_passed : (target need : ℕ) (runs : Runs) (run read at : ℕ) → RunsRise 0 runs → at ≤ length runs → ((k : ℕ) → run ≤ k → k < at → IsSkipped target need (get_or runs k []))
    → ArePassed target need (drop read (flat (take (at - run) (drop run runs))))
gap_passed target need runs run read at up le skips =
    passed-drop target need read (flat (take (at - run) (drop run runs)))
    (passed-runs target need 0 (take (at - run) (drop run runs)) (rise_take 0 (at - run) (drop run runs) (rise_drop 0 run runs up))
    (λ k lt.
    let short : k < at - run = omega (arith, lt, length-take (at - run) (drop run runs)) in
    subst (IsSkipped target need) (sym (get_or-take (at - run) (drop run runs) k [] short ∙ get_or-drop run runs k [])) (skips (run + k) (omega arith) (omega (arith, short)))))

-- ---- a whole seek

-- what a seek for the target did, from one place to another
pub record Sought (target need count : ℕ) (runs : Runs) (head : Option (ℕ × ℕ)) (run read : ℕ) (next : Option (ℕ × ℕ)) (at after : ℕ) : Type 0 where
  pub on : IsHeadAt next at after runs
  pub passes : PassesPostings target need (headed head (rest_from run read runs)) (headed next (rest_from at after runs))
  pub reads : ReadsPostings target count (rest_from run read runs) (rest_from at after runs)
  pub moves : (id : ℕ) → target ≤ id → count + count_below id (headed next (rest_from at after runs)) ≤ count_below id (headed head (rest_from run read runs))

-- where the head is not below the target, nothing was done
pub sought_nothing : (target need : ℕ) (runs : Runs) (head : Option (ℕ × ℕ)) (run read : ℕ) → IsHeadAt head run read runs → is_below target (headed head (rest_from run read runs)) ≡ false
    → Sought target need 0 runs head run read head run read
sought_nothing target need runs head run read on above = record {
  on = on;
  passes = record { passed = []; is = refl; light = tt; reached = above };
  reads = record { skipped = 0; is = refl; within = omega arith; one_beyond = tt };
  moves = λ id le. omega arith;
}

module _ (target need : ℕ) (runs : Runs) (up : RunsRise 0 runs) (h : ℕ × ℕ) (run read at : ℕ) (on : IsReadLast h run read runs) (behind : h.0 < target)
    (onward : run ≤ at) (skips : (k : ℕ) → run ≤ k → k < at → IsSkipped target need (get_or runs k [])) where
  -- the parts of what was unread: a gap, and then the rest of the run where the seek reads, from where it reads
  record Parts (before : ℕ) : Type 0 where
    gap : Postings
    light : ArePassed target need gap
    is : rest_from run read runs ≡ gap ++ (drop before (get_or runs at []) ++ flat (drop (at + 1) runs))

  parts_here : at ≡ run → at < length runs → Parts read
  parts_here same lt = record {
    gap = [];
    light = tt;
    is = here_unread runs run read on.there on.within ∙ ap (λ i. drop read (get_or runs i []) ++ flat (drop (i + 1) runs)) (sym same);
  }

  parts_behind : run < at → at < length runs → Parts 0
  parts_behind later lt = record {
    gap = drop read (flat (take (at - run) (drop run runs)));
    light = gap_passed target need runs run read at up (omega (arith, lt)) skips;
    is = over_unread runs run read at later (omega (arith, lt)) on.within ∙ ap (λ (es : Postings). drop read (flat (take (at - run) (drop run runs))) ++ es) (flat-drop runs at [] lt);
  }

  reads_on : (before after count : ℕ) (next : Option (ℕ × ℕ)) → Parts before → at < length runs → IsReadTo target before after count next (get_or runs at []) → Sought target need count runs (Some h) run read next at after
  reads_on before after count next parts lt to =
      let v : rest_from at after runs ≡ drop after (get_or runs at []) ++ flat (drop (at + 1) runs) = here_unread runs at after lt to.within in
      subst (λ o. Sought target need count runs (Some h) run read o at after) (sym to.is)
      (record {
        on = record { there = lt; begun = omega (arith, to.counted, to.some); within = to.within; is = to.at };
        passes = subst (λ (new : Postings). PassesPostings target need (h ∷ rest_from run read runs) (to.last ∷ new)) (sym v)
            (subst (λ (old : Postings). PassesPostings target need (h ∷ old) (to.last ∷ (drop after (get_or runs at []) ++ flat (drop (at + 1) runs)))) (sym parts.is)
            (found-passes target need h behind parts.gap (get_or runs at []) (flat (drop (at + 1) runs)) before after count to.last parts.light to.counted to.some to.within to.at to.below to.reached));
        reads = subst (λ (new : Postings). ReadsPostings target count (rest_from run read runs) new) (sym v)
            (subst (λ (old : Postings). ReadsPostings target count old (drop after (get_or runs at []) ++ flat (drop (at + 1) runs))) (sym parts.is)
            (found-reads target need h behind parts.gap (get_or runs at []) (flat (drop (at + 1) runs)) before after count to.last parts.light to.counted to.some to.within to.at to.below to.reached));
        moves = λ id le. subst (λ (new : Postings). count + count_below id (to.last ∷ new) ≤ count_below id (h ∷ rest_from run read runs)) (sym v)
            (subst (λ (old : Postings). count + count_below id (to.last ∷ (drop after (get_or runs at []) ++ flat (drop (at + 1) runs))) ≤ count_below id (h ∷ old)) (sym parts.is)
            (found-moves target need h behind parts.gap (get_or runs at []) (flat (drop (at + 1) runs)) before after count to.last parts.light to.counted to.some to.within to.at to.below to.reached id le));
      })

  -- it reads on in the run where it is
  pub sought_here : (after count : ℕ) (next : Option (ℕ × ℕ)) → at ≡ run → at < length runs → IsReadTo target read after count next (get_or runs at []) → Sought target need count runs (Some h) run read next at after
  sought_here after count next same lt to = reads_on read after count next (parts_here same lt) lt to

  -- it reads in a later run, from its first entry on
  pub sought_behind : (after count : ℕ) (next : Option (ℕ × ℕ)) → at ≢ run → at < length runs → IsReadTo target 0 after count next (get_or runs at []) → Sought target need count runs (Some h) run read next at after
  sought_behind after count next other lt to = reads_on 0 after count next (parts_behind (omega (arith, onward, other)) lt) lt to

  -- no run has what it seeks
  pub sought_end : (after : ℕ) → at ≡ length runs → Sought target need 0 runs (Some h) run read None at after
  sought_end after end =
      let none : flat (drop at runs) ≡ [] = ap flat (drop_all at runs (omega (arith, end))) in
      let there : run < length runs = on.there in
      let over : rest_from run read runs ≡ drop read (flat (take (at - run) (drop run runs)))
      = over_unread runs run read at (omega (arith, end, there)) (omega (arith, end)) on.within
      ∙ ap (λ (es : Postings). drop read (flat (take (at - run) (drop run runs))) ++ es) none ∙ append-nil (drop read (flat (take (at - run) (drop run runs)))) in
      let gone : rest_from at after runs ≡ [] = ap (drop after) none ∙ drop_none after in
      let gap : Postings = drop read (flat (take (at - run) (drop run runs))) in
      record {
        on = gone;
        passes = subst (λ (old : Postings). PassesPostings target need (h ∷ old) []) (sym over) (ended-passes target need h behind gap (gap_passed target need runs run read at up (omega (arith, end)) skips));
        reads = subst (λ (new : Postings). ReadsPostings target 0 (rest_from run read runs) new) (sym gone) (subst (λ (old : Postings). ReadsPostings target 0 old []) (sym over) (ended-reads target need h behind gap));
        moves = λ id le. omega arith;
      }
    where
      drop_none : (n : ℕ) → drop {A = ℕ × ℕ} n [] ≡ []
      drop_none zero = refl
      drop_none (suc n) = refl
