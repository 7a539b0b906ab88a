-- The report of a search at its end is one that the find may have.
use Rattle.std.proofs.Common.{cond, ◌==◌, bytes_eq, ◌≡◌, ◌≤◌, ◌+◌, ◌-◌, ◌⊎◌, ℕ, List, [], ◌∷◌, ◌++◌, length, take, drop, min, Option, None, Some, sym, ap, ◌∙◌, subst, arith, inl, inr, length-take, length-drop}
use Rattle.std.specs.List.{AllZip}
use Rattle.std.proofs.lemmas.List.{drop-take, length-append}
use Rattle.std.proofs.Math.Seq.{take-append_seam}
use Rattle.std.proofs.lemmas.List.Sorted.{sum_by-IsPermutation}
use Rattle.sk_base.specs.declared.find.Collapse.{Collapse}
use Rattle.sk_base.specs.declared.find.Paging.{Paging}
use Rattle.sk_base.specs.declared.rank.Order.{Order}
use Rattle.sk_base.specs.declared.rank.OrderBy.{OrderBy}
use Rattle.sk_base.specs.declared.rank.Rank.{Rank}
use Rattle.sk_base.specs.declared.report.Ranked.{Ranked}
use Rattle.sk_base.specs.declared.report.Report.{Report}
use Rattle.sk_base.specs.Before.{is_before}
use Rattle.sk_base.specs.Numbers.{Docs}
use Rattle.sk_query.specs.Trees.{Tree}
use Rattle.sk_model.specs.Allowance.{key_readings, value_readings}
use Rattle.sk_model.specs.Counts.{wanted, seen, AllSeen, kept_by, dropped_by, duplicates, Counts, CollapseCount}
use Rattle.sk_model.specs.Edits.{document_at}
use Rattle.sk_model.specs.Joined.{joined_most}
use Rattle.sk_model.specs.Matches.{found_by, key_for, key_of}
use Rattle.sk_model.specs.Page.{best_first, kept, count_key, dropped}
use Rattle.sk_model.specs.Laws.{kept_number}
use Rattle.sk_model.proofs.PlacedLaws.{ordered_permutation}
use Rattle.sk_model.specs.Reports.{page_of, IsHit}
use Rattle.sk_model.specs.Sharp.{sharp}
use Rattle.sk_report.specs.Reports.{ReportsWithin}
use Rattle.sk_model.proofs.KeptLaws.{kept_alike, kept_front, kept_others, dropped_front, kept_few, kept_each}
use Rattle.sk_page.specs.Walks.{page_end, held_by, IsFull, HasEnded}
use Rattle.sk_page.specs.Tells.{TellsHit, IsUpper, IsSpent, IsSpentOver, TellsReport}
use Rattle.sk_page.proofs.ShownLaws.{Beside, shown_beside}
use Rattle.sk_page.proofs.FrontLaws.{front_alike}
use Rattle.sk_page.proofs.SharpLaws.{within_stop, within_rare, within_decay, within_joined, within_joined_stop}
use Rattle.sk_report.proofs.ReportLaws.{within_sharp}

-- a key hangs on the id
key_by_id : (collapse : Option Collapse) (docs : Docs) (x y : Rank) → x.id ≡ y.id → key_of collapse docs x ≡ key_of collapse docs y
key_by_id collapse docs x y e = ap (λ id. key_for collapse (document_at id docs)) e

-- what is dropped of a key hangs on how often keys occur
pub in_order : (key : Rank → List ℕ) (k : List ℕ) (order : Order) (ranks : List Rank) → count_key key k (best_first order ranks) ≡ count_key key k ranks
in_order key k order ranks = sum_by-IsPermutation (λ y. cond (bytes_eq (key y) k) 1 0) ranks (best_first order ranks) (ordered_permutation (is_before order) ranks)

kept_same : (order : Order) (collapse : Option Collapse) (key : Rank → List ℕ) (k : List ℕ) (xs ys : List Rank) → count_key key k xs ≡ count_key key k ys → count_key key k (kept order collapse key xs) ≡ count_key key k (kept order collapse key ys)
kept_same order None key k xs ys h = in_order key k order xs ∙ h ∙ sym (in_order key k order ys)
kept_same order (Some collapse) key k xs ys h = kept_each order collapse key k xs ∙ ap (kept_number collapse.max k) h ∙ sym (kept_each order collapse key k ys)

pub dropped_alike : (order : Order) (collapse : Option Collapse) (key : Rank → List ℕ) (k : List ℕ) (xs ys : List Rank)
    → count_key key k xs ≡ count_key key k ys → dropped order collapse key k xs ≡ dropped order collapse key k ys
dropped_alike order collapse key k xs ys h = λ i. cond (length k == 0) 0 (h i - kept_same order collapse key k xs ys h i)

pub more_keys : (collapse : Option Collapse) (m n : ℕ) → m ≤ n → key_readings collapse m ≤ key_readings collapse n
more_keys None m n h = omega arith
more_keys (Some collapse) m n h = h

pub more_values : (by : OrderBy) (m n : ℕ) → m ≤ n → value_readings by m ≤ value_readings by n
more_values OrderBy.Relevance m n h = omega arith
more_values (OrderBy.Value key) m n h = h
more_values (OrderBy.ValueThenRelevance key) m n h = h
more_values (OrderBy.RelevanceThenValue key) m n h = h

module _ (query : Tree) (paging : Paging) (docs : Docs) (saw : List Rank) (end : HasEnded query paging docs saw) where
  abbrev key : Rank → List ℕ
  key = key_of paging.collapse docs

  abbrev all : List Rank
  all = found_by query paging docs

  pub beside : Beside key all saw
  beside = shown_beside _ key (key_by_id paging.collapse docs) all saw end.shown

  -- the page is that of what was seen
  same_front : (all ≡ saw) ⊎ IsFull paging docs saw → take (page_end paging) (kept_by paging docs all) ≡ held_by paging docs saw
  same_front (inl e) = ap (λ rs. take (page_end paging) (kept_by paging docs rs)) e
  same_front (inr full) = front_alike paging.order paging.collapse key (page_end paging) all saw full end.shown

  pub page_is : page_of query paging docs ≡ drop paging.options.first (held_by paging docs saw)
  page_is = sym (drop-take paging.options.first paging.options.size (kept_by paging docs all)) ∙ ap (drop paging.options.first) (same_front end.full)

  -- ---- how many were seen, and how many of them are kept

  abbrev together : List Rank
  together = saw ++ beside.extra

  saw_first : take (length saw) together ≡ saw
  saw_first = take-append_seam saw beside.extra

  all_together : length (kept_by paging docs all) ≡ length (kept_by paging docs together)
  all_together = kept_alike paging.order paging.order paging.collapse key all together beside.counts

  fewer_kept : length (kept_by paging docs saw) ≤ length (kept_by paging docs all)
  fewer_kept =
      let front : length (kept_by paging docs (take (length saw) together)) ≤ length (kept_by paging docs together) = kept_front paging.order paging.collapse key (length saw) together in
      let same : length (kept_by paging docs (take (length saw) together)) ≡ length (kept_by paging docs saw) = ap (λ rs. length (kept_by paging docs rs)) saw_first in
      omega (arith, front, same, all_together)

  others_kept : length (kept_by paging docs all) ≤ length (kept_by paging docs saw) + length beside.extra
  others_kept =
      let others : length (kept_by paging docs together) ≤ length (kept_by paging docs (take (length saw) together)) + length (drop (length saw) together) = kept_others paging.order paging.collapse key (length saw) together in
      let same : length (kept_by paging docs (take (length saw) together)) ≡ length (kept_by paging docs saw) = ap (λ rs. length (kept_by paging docs rs)) saw_first in
      omega (arith, others, same, all_together, length-drop (length saw) together, length-append saw beside.extra)

  abbrev front : List Rank
  front = take (wanted paging) saw

  seen_is : seen paging all ≡ front
  seen_is = end.first

  record Numbers : Type 0 where
    pub all_long : length all ≡ length saw + length beside.extra
    pub front_fewer : length (kept_by paging docs front) ≤ length (kept_by paging docs saw)
    pub front_others : length (kept_by paging docs saw) ≤ length (kept_by paging docs front) + length (drop (wanted paging) saw)
    pub front_few : length (kept_by paging docs front) ≤ length front
    pub saw_few : length (kept_by paging docs saw) ≤ length saw
    pub front_long : length front ≡ min (wanted paging) (length saw)
    pub rest_long : length (drop (wanted paging) saw) ≡ length saw - wanted paging
    pub seen_kept : length (kept_by paging docs (seen paging all)) ≡ length (kept_by paging docs front)
    pub seen_long : length (seen paging all) ≡ length front

  numbers : Numbers
  numbers = record {
    all_long = beside.long;
    front_fewer = kept_front paging.order paging.collapse key (wanted paging) saw;
    front_others = kept_others paging.order paging.collapse key (wanted paging) saw;
    front_few = kept_few paging.order paging.collapse key front;
    saw_few = kept_few paging.order paging.collapse key saw;
    front_long = length-take (wanted paging) saw;
    rest_long = length-drop (wanted paging) saw;
    seen_kept = ap (λ rs. length (kept_by paging docs rs)) seen_is;
    seen_long = ap length seen_is;
  }

  -- where all must be seen, all was seen as it is
  exactly : (greatest static upper : ℕ) → AllSeen paging all greatest → IsUpper query paging docs greatest static saw upper → all ≡ saw
  exactly greatest static upper (inl few) is = end.exact few
  exactly greatest static upper (inr low) (inl is) = is.0
  exactly greatest static upper (inr low) (inr is) = let most = is.1 in absurd (omega (arith, low, most))

  upper_exact : (greatest static upper : ℕ) → AllSeen paging all greatest → IsUpper query paging docs greatest static saw upper → upper ≡ length (kept_by paging docs all)
  upper_exact greatest static upper seen_all (inl is) = is.1 ∙ ap (λ rs. length (kept_by paging docs rs)) (sym is.0)
  upper_exact greatest static upper (inl few) (inr is) = let many = is.0 in let n = numbers in absurd (omega (arith, few, many, n.all_long))
  upper_exact greatest static upper (inr low) (inr is) = let most = is.1 in absurd (omega (arith, low, most))

  module _ (static upper : ℕ) (within : length all ≤ static) where
    upper_most : ((all ≡ saw) × (upper ≡ length (kept_by paging docs saw))) ⊎ (upper ≡ static - duplicates paging docs saw) → length (kept_by paging docs all) ≤ upper
    upper_most (inl is) = let same : length (kept_by paging docs all) ≡ length (kept_by paging docs saw) = ap (λ rs. length (kept_by paging docs rs)) is.0 in let up = is.1 in omega (arith, same, up)
    upper_most (inr up) = let n = numbers in omega (arith, within, up, others_kept, n.all_long, n.saw_few)

    upper_static : ((all ≡ saw) × (upper ≡ length (kept_by paging docs saw))) ⊎ (upper ≡ static - duplicates paging docs saw) → upper ≤ static - duplicates paging docs (seen paging all)
    upper_static (inl is) = let up = is.1 in let n = numbers in omega (arith, within, up, n.all_long, n.front_others, n.front_few, n.front_long, n.rest_long, n.seen_kept, n.seen_long)
    upper_static (inr up) = let n = numbers in omega (arith, up, n.front_others, n.front_few, n.saw_few, n.front_long, n.rest_long, n.seen_kept, n.seen_long)

  upper_of : (greatest static upper : ℕ) → IsUpper query paging docs greatest static saw upper → ((all ≡ saw) × (upper ≡ length (kept_by paging docs saw))) ⊎ (upper ≡ static - duplicates paging docs saw)
  upper_of greatest static upper (inl is) = inl is
  upper_of greatest static upper (inr is) = inr is.2

  pub counts_told : (greatest static lower upper : ℕ) → length all ≤ static → lower ≡ length (kept_by paging docs saw) → IsUpper query paging docs greatest static saw upper → Counts paging docs all greatest static lower upper
  counts_told greatest static lower upper within low high =
      let n = numbers in
      record {
        of_seen = omega (arith, low, n.front_fewer, n.seen_kept);
        at_least = omega (arith, low, fewer_kept);
        at_most = upper_most static upper within (upper_of greatest static upper high);
        of_static = upper_static static upper within (upper_of greatest static upper high);
        exact_lower = λ is. low ∙ ap (λ rs. length (kept_by paging docs rs)) (sym (exactly greatest static upper is high));
        exact_upper = λ is. upper_exact greatest static upper is high;
      }

  -- what is dropped of a key
  collapse_told : (k : List ℕ) (collapsed : ℕ) → collapsed ≡ dropped_by paging docs k saw → CollapseCount paging docs all k collapsed
  collapse_told k collapsed is =
      let seen_dropped : dropped_by paging docs k (seen paging all) ≡ dropped_by paging docs k front = ap (dropped_by paging docs k) seen_is in
      let front_dropped : dropped_by paging docs k front ≤ dropped_by paging docs k saw = dropped_front paging.order paging.collapse key k (wanted paging) saw in
      let saw_dropped : dropped_by paging docs k (take (length saw) together) ≤ dropped_by paging docs k together = dropped_front paging.order paging.collapse key k (length saw) together in
      let saw_is : dropped_by paging docs k (take (length saw) together) ≡ dropped_by paging docs k saw = ap (dropped_by paging docs k) saw_first in
      let all_is : dropped_by paging docs k all ≡ dropped_by paging docs k together = dropped_alike paging.order paging.collapse key k all together (beside.counts k) in
      record { at_least = omega (arith, is, seen_dropped, front_dropped); at_most = omega (arith, is, saw_dropped, saw_is, all_is) }

  hits_told : (ranks : List Rank) (hits : List Ranked) → AllZip (TellsHit paging docs saw) ranks hits → AllZip (IsHit query paging docs) ranks hits
  hits_told [] [] h = tt
  hits_told [] (hit ∷ hits) h = h
  hits_told (rank ∷ ranks) [] h = h
  hits_told (rank ∷ ranks) (hit ∷ hits) h = (
    record { id = h.0.id; weight = h.0.weight; payload = h.0.payload; collapsed = collapse_told (key_of paging.collapse docs rank) hit.collapsed h.0.collapsed },
    hits_told ranks hits h.1,
  )

  pub told : (greatest static : ℕ) (most : ℕ → ℕ) (report : Report) → length all ≤ static → TellsReport query paging docs greatest static saw report → report.steps ≤ most (length report.hits) → ReportsWithin query paging docs greatest static most report
  told greatest static most report within tells few = record {
    hits = hits_told (page_of query paging docs) report.hits (subst (λ ranks. AllZip (TellsHit paging docs saw) ranks report.hits) (sym page_is) tells.hits);
    counts = counts_told greatest static report.lower report.upper within tells.lower tells.upper;
    estimate = tells.estimate;
    greatest = tells.greatest;
    least_steps = tells.least_steps;
    most_steps = few;
  }

  -- ---- its steps

  fewer : length saw ≤ length all
  fewer = let n = numbers in omega (arith, n.all_long)

  -- over one index they are within the sharp bound
  pub steps_sharp : (greatest static : ℕ) (report : Report) (tells : TellsReport query paging docs greatest static saw report) → IsSpent query paging docs tells.spent → report.steps ≤ sharp query paging docs (length report.hits)
  steps_sharp greatest static report tells spent =
      let lists = spent.lists in
      within_sharp query paging docs (length report.hits) report.steps
      (omega (arith, tells.most_steps, lists, more_keys paging.collapse (length saw) (length all) fewer, more_values paging.order.by (length saw) (length all) fewer))
      (within_stop query paging docs tells.spent (length saw) (length report.hits) report.steps spent tells.most_steps)
      (within_rare query paging docs tells.spent (length all) (length report.hits) report.steps spent (omega (arith, tells.most_steps, more_keys paging.collapse (length saw) (length all) fewer, more_values paging.order.by (length saw) (length all) fewer)))
      (within_decay query paging docs tells.spent (length saw) (length report.hits) report.steps spent tells.most_steps)

  -- over n parts they are within what the parts allow
  pub steps_joined : (n greatest static : ℕ) (report : Report) (tells : TellsReport query paging docs greatest static saw report) → IsSpentOver n query paging docs tells.spent → report.steps ≤ joined_most n query paging docs (length report.hits)
  steps_joined n greatest static report tells spent =
      let lists = spent.lists in
      within_joined n query paging docs (length report.hits) report.steps
      (omega (arith, tells.most_steps, lists, more_keys paging.collapse (length saw) (length all) fewer, more_values paging.order.by (length saw) (length all) fewer))
      (within_joined_stop n query paging docs tells.spent (length saw) (length report.hits) report.steps spent tells.most_steps)
