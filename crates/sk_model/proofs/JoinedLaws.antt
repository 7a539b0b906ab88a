-- Documents in several parts: no more match and none weighs more than the parts tell, and the lists of the parts are together the lists of all.
use Rattle.std.proofs.Common.{◌∙◌, ◌≡◌, ◌≤◌, ◌<◌, ◌+◌, ◌-◌, ◌/◌, ◌*◌, ◌&&◌, ◌==◌, ◌⊎◌, inl, inr, ℕ, zero, suc, Bool, true, false, cond, not, nat_le, List, [], ◌∷◌, ◌++◌, length, map, filter, max, sum_by, count_by, All, Option, None, Some, is_some, IfSome, refl, sym, ap, subst, arith, true≢false}
use Rattle.std.specs.List.{AllByRecursion, cons_option}
use Rattle.std.proofs.lemmas.Bool.{cases_lt, le-leb, lt-leb}
use Rattle.std.proofs.lemmas.List.Elements.{All-from_recursion, recursion_from_All}
use Rattle.std.proofs.lemmas.List.Sums.{sum_by-cons}
use Rattle.sk_sorted.specs.Entries.{RiseAbove}
use Rattle.sk_sorted.proofs.EntryLaws.{RiseAbove-lower}
use Rattle.sk_sorted.specs.Joined.{joined_id, under, joined, AllRise, entry_in, part_in, parts_from, parts_in, point_in, part_of, own_id}
use Rattle.sk_sorted.proofs.JoinedSumLaws.{sums_from, sum-joined}
use Rattle.sk_sorted.proofs.PartLaws.{up_to_point, of_point}
use Rattle.sk_sorted.proofs.PartsLaws.{rise-parts_in, joined-parts_in, all-joined, sum-parts}
use Rattle.sk_base.specs.declared.doc.Doc.{Doc}
use Rattle.sk_base.specs.declared.find.Paging.{Paging}
use Rattle.sk_base.specs.declared.find.Scheme.{Scheme}
use Rattle.sk_base.specs.declared.rank.Order.{Order}
use Rattle.sk_base.specs.declared.rank.Rank.{Rank}
use Rattle.sk_base.specs.Documents.{AreTerms, has_term}
use Rattle.sk_base.specs.Loads.{IsLight}
use Rattle.sk_base.specs.Numbers.{Docs, live_of}
use Rattle.sk_query.specs.Trees.{Tree}
use Rattle.sk_query.specs.Fits.{is_sound}
use Rattle.sk_model.specs.Scores.{score}
use Rattle.sk_model.specs.Matches.{matches, found_by}
use Rattle.sk_model.specs.Bounds.{ceil, static_count, greatest_in}
use Rattle.sk_model.specs.Counts.{Counts, kept_by}
use Rattle.sk_model.specs.Sharp.{up, ups}
use Rattle.sk_model.specs.Joined.{joined_ceil, joined_static, joined_ups, part_ups}
use Rattle.sk_model.proofs.StaticLaws.{matches_counted, matches_within, static_live}
use Rattle.sk_model.proofs.CeilLaws.{score_within}
use Rattle.sk_model.proofs.CountLaws.{true_counts, within}

-- a sum is no greater where each part of it is none
sum_most : {X : Type 0} (f g : X → ℕ) → ((x : X) → f x ≤ g x) → (xs : List X) → sum_by f xs ≤ sum_by g xs
sum_most f g le [] = omega arith
sum_most f g le (x ∷ xs) = let a = sum_by-cons f x xs in let b = sum_by-cons g x xs in omega (arith, a, b, le x, sum_most f g le xs)

sum_same : {X : Type 0} (f g : X → ℕ) → ((x : X) → f x ≡ g x) → (xs : List X) → sum_by f xs ≡ sum_by g xs
sum_same f g same [] = refl
sum_same f g same (x ∷ xs) = let a = sum_by-cons f x xs in let b = sum_by-cons g x xs in omega (arith, a, b, same x, sum_same f g same xs)

-- ---- how many match

module _ (n : ℕ) (docs : Docs) (some : 0 < n) (rise : RiseAbove 0 docs) where
  -- a sum over all is one over the parts
  pub sum_in_parts : (f : Doc → ℕ) → sum_by (λ (e : ℕ × Doc). f e.1) docs ≡ sum_by (λ (es : Docs). sum_by (λ (e : ℕ × Doc). f e.1) es) (parts_in n docs)
  sum_in_parts f = sym (ap (sum_by (λ (e : ℕ × Doc). f e.1)) (joined-parts_in n docs some rise)) ∙ sum-parts f (parts_in n docs) (rise-parts_in n docs rise)

  pub matches_in_parts : (query : Tree) (scheme : Scheme) (order : Order) (above : ℕ) → is_sound above query ≡ true → length (matches query scheme order docs) ≤ joined_static n query docs
  matches_in_parts query scheme order above e =
      let all = matches_counted query scheme order docs in
      let parts = sum_in_parts (λ (d : Doc). cond (is_some (score query scheme 1 d)) 1 0) in
      let most = sum_most (λ (es : Docs). sum_by (λ (one : ℕ × Doc). cond (is_some (score query scheme 1 one.1)) 1 0) es) (static_count query)
      (λ es. subst (λ k. k ≤ static_count query es) (matches_counted query scheme order es) (matches_within query scheme order above es e)) (parts_in n docs) in
      omega (arith, all, parts, most)

  pub found_in_parts : (query : Tree) (paging : Paging) (above : ℕ) → is_sound above query ≡ true → length (found_by query paging docs) ≤ joined_static n query docs
  found_in_parts query paging above e =
      let few : length (found_by query paging docs) ≤ length (matches query paging.options.scheme paging.order docs) = within (λ (x : Rank). nat_le paging.options.cutoff x.weight) (matches query paging.options.scheme paging.order docs) in
      let most = matches_in_parts query paging.options.scheme paging.order above e in
      omega (arith, few, most)

  pub counts_in_parts : (query : Tree) (paging : Paging) (above greatest : ℕ) → is_sound above query ≡ true
      → Counts paging docs (found_by query paging docs) greatest (joined_static n query docs) (length (kept_by paging docs (found_by query paging docs))) (length (kept_by paging docs (found_by query paging docs)))
  counts_in_parts query paging above greatest e = true_counts paging docs (found_by query paging docs) greatest (joined_static n query docs) (found_in_parts query paging above e)

  ones : (es : Docs) → sum_by (λ (e : ℕ × Doc). 1) es ≡ length es
  ones [] = refl
  ones (e ∷ es) = let a = sum_by-cons (λ (e : ℕ × Doc). 1) e es in omega (arith, a, ones es)

  -- the parts' counts are not above the number of documents
  pub static_in_parts : (query : Tree) → joined_static n query docs ≤ live_of docs
  static_in_parts query =
      let most = sum_most (static_count query) (λ (es : Docs). length es) (λ es. static_live es query) (parts_in n docs) in
      let same = sum_same (λ (es : Docs). length es) (λ (es : Docs). sum_by (λ (e : ℕ × Doc). 1) es) (λ es. sym (ones es)) (parts_in n docs) in
      let all = sum_in_parts (λ (d : Doc). 1) in
      omega (arith, most, same, all, ones docs)

-- ---- what they weigh
module _ (P : Doc → Type 0) where
  all_entry : (n part : ℕ) (e : ℕ × Doc) (es : Docs) → P e.1 → AllByRecursion (λ (e : ℕ × Doc). P e.1) es → AllByRecursion (λ (e : ℕ × Doc). P e.1) (cons_option (entry_in n part e) es)
  all_entry n part e es own all = by_part (part_of n e.0 == part)
    where
      by_part : (b : Bool) → AllByRecursion (λ (e : ℕ × Doc). P e.1) (cons_option (cond b (Some (own_id n e.0, e.1)) None) es)
      by_part true = (own, all)
      by_part false = all

  pub all_part_in : (n part : ℕ) (es : Docs) → AllByRecursion (λ (e : ℕ × Doc). P e.1) es → AllByRecursion (λ (e : ℕ × Doc). P e.1) (part_in n part es)
  all_part_in n part [] all = tt
  all_part_in n part (e ∷ es) all = all_entry n part e (part_in n part es) all.0 (all_part_in n part es all.1)

-- what is known of each of some lists of documents is known of all of these by the greatest
greatest_of_each : (query : Tree) (scheme : Scheme) (parts : List Docs) → AllByRecursion (λ es. AllByRecursion (λ (e : ℕ × Doc). IfSome (score query scheme 1 e.1) (λ w. w ≤ ceil query scheme 1 es)) es) parts
    → AllByRecursion (λ es. AllByRecursion (λ (e : ℕ × Doc). IfSome (score query scheme 1 e.1) (λ w. w ≤ greatest_in (map (λ part. ceil query scheme 1 part) parts))) es) parts
greatest_of_each query scheme parts each = go (greatest_in (map (λ part. ceil query scheme 1 part) parts)) parts (omega arith) each
  where
    weaker : (o : Option ℕ) (a b : ℕ) → a ≤ b → IfSome o (λ w. w ≤ a) → IfSome o (λ w. w ≤ b)
    weaker None a b le h = tt
    weaker (Some w) a b le h = omega (arith, le, h)

    weaker_all : (a b : ℕ) (es : Docs) → a ≤ b → AllByRecursion (λ (e : ℕ × Doc). IfSome (score query scheme 1 e.1) (λ w. w ≤ a)) es → AllByRecursion (λ (e : ℕ × Doc). IfSome (score query scheme 1 e.1) (λ w. w ≤ b)) es
    weaker_all a b [] le all = tt
    weaker_all a b (e ∷ es) le all = (weaker (score query scheme 1 e.1) a b le all.0, weaker_all a b es le all.1)

    go : (most : ℕ) (ps : List Docs) → greatest_in (map (λ part. ceil query scheme 1 part) ps) ≤ most → AllByRecursion (λ es. AllByRecursion (λ (e : ℕ × Doc). IfSome (score query scheme 1 e.1) (λ w. w ≤ ceil query scheme 1 es)) es) ps
        → AllByRecursion (λ es. AllByRecursion (λ (e : ℕ × Doc). IfSome (score query scheme 1 e.1) (λ w. w ≤ most)) es) ps
    go most [] le all = tt
    go most (p ∷ ps) le all = (weaker_all (ceil query scheme 1 p) most p (omega (arith, le)) all.0, go most ps (omega (arith, le)) all.1)

-- no document weighs more than the parts tell
pub score_in_parts : (n : ℕ) (query : Tree) (scheme : Scheme) (above : ℕ) (docs : Docs) → 0 < n → RiseAbove 0 docs → is_sound above query ≡ true → All (λ (one : ℕ × Doc). AreTerms one.1.terms) docs → All IsLight docs
    → All (λ (one : ℕ × Doc). IfSome (score query scheme 1 one.1) (λ w. w ≤ joined_ceil n query scheme docs)) docs
score_in_parts n query scheme above docs some rise e rising light =
    All-from_recursion (λ (one : ℕ × Doc). IfSome (score query scheme 1 one.1) (λ w. w ≤ joined_ceil n query scheme docs)) docs
    (subst (AllByRecursion (λ (one : ℕ × Doc). IfSome (score query scheme 1 one.1) (λ w. w ≤ joined_ceil n query scheme docs))) (joined-parts_in n docs some rise)
    (all-joined (λ (d : Doc). IfSome (score query scheme 1 d) (λ w. w ≤ joined_ceil n query scheme docs)) (parts_in n docs)
    (greatest_of_each query scheme (parts_in n docs) (each n 0))))
  where
    one_part : (part : ℕ) → AllByRecursion (λ (one : ℕ × Doc). IfSome (score query scheme 1 one.1) (λ w. w ≤ ceil query scheme 1 (part_in n part docs))) (part_in n part docs)
    one_part part =
        recursion_from_All (λ (one : ℕ × Doc). IfSome (score query scheme 1 one.1) (λ w. w ≤ ceil query scheme 1 (part_in n part docs))) (part_in n part docs)
        (score_within query scheme above 1 (part_in n part docs) e
        (All-from_recursion (λ (one : ℕ × Doc). AreTerms one.1.terms) (part_in n part docs) (all_part_in (λ (d : Doc). AreTerms d.terms) n part docs (recursion_from_All (λ (one : ℕ × Doc). AreTerms one.1.terms) docs rising)))
        (All-from_recursion IsLight (part_in n part docs) (all_part_in (λ (d : Doc). IsLight (0, d)) n part docs (recursion_from_All IsLight docs light))))

    each : (more part : ℕ) → AllByRecursion (λ es. AllByRecursion (λ (one : ℕ × Doc). IfSome (score query scheme 1 one.1) (λ w. w ≤ ceil query scheme 1 es)) es) (parts_from more n part docs)
    each zero part = tt
    each (suc more) part = (one_part part, each more (part + 1))

-- ---- postings up to an id
module _ (n id : ℕ) where
  abbrev counted : List ℕ → ℕ × Doc → ℕ
  counted t one = cond (has_term t one.1.terms && nat_le one.0 id) 1 0

  up_under : (t : List ℕ) (part low : ℕ) (es : Docs) → part < n → RiseAbove low es → sum_by (counted t) (under n part es) ≡ up t (point_in n part id) es
  up_under t part low [] below rise = refl
  up_under t part low (e ∷ es) below rise =
      let a = sum_by-cons (counted t) (joined_id n part e.0, e.1) (under n part es) in
      let b = sum_by-cons (λ (one : ℕ × Doc). cond (has_term t one.1.terms && nat_le one.0 (point_in n part id)) 1 0) e es in
      let same : counted t (joined_id n part e.0, e.1) ≡ cond (has_term t e.1.terms && nat_le e.0 (point_in n part id)) 1 0 = ap (λ b. cond (has_term t e.1.terms && b) 1 0) (tests (cases_lt id (joined_id n part e.0))) in
      omega (arith, a, b, same, up_under t part e.0 es below rise.1)
    where
      begun : 1 ≤ e.0
      begun = let l = rise.0 in omega (arith, l)

      tests : (id < joined_id n part e.0) ⊎ (joined_id n part e.0 ≤ id) → nat_le (joined_id n part e.0) id ≡ nat_le e.0 (point_in n part id)
      tests (inr le) = le-leb (joined_id n part e.0) id le ∙ sym (le-leb e.0 (point_in n part id) (up_to_point n part e.0 id below begun le))
      tests (inl lt) = lt-leb (joined_id n part e.0) id lt ∙ sym (lt-leb e.0 (point_in n part id) (far (cases_lt (point_in n part id) e.0)))
        where
          far : (point_in n part id < e.0) ⊎ (e.0 ≤ point_in n part id) → point_in n part id < e.0
          far (inl l) = l
          far (inr l) = let near = of_point n part e.0 id below begun l in absurd (omega (arith, near, lt))

  -- those of a list in the parts from one on
  ups_one : List ℕ → ℕ → List Docs → ℕ
  ups_one t part [] = 0
  ups_one t part (es ∷ parts) = (up t (point_in n part id) es + 1) + ups_one t (part + 1) parts

  one_list : (t : List ℕ) (part : ℕ) (parts : List Docs) → part + length parts ≤ n → AllRise parts → ups_one t part parts ≡ sums_from (counted t) n part parts + length parts
  unfolding ups_one
  one_list t part [] within up = refl
  one_list t part (es ∷ parts) within up =
      let here = up_under t part 0 es (omega (arith, within)) up.0 in
      let rest = one_list t (part + 1) parts (omega (arith, within)) up.1 in
      omega (arith, here, rest)

  part_ups_cons : (t : List ℕ) (ts : List (List ℕ)) (part : ℕ) (parts : List Docs) → part_ups n part (t ∷ ts) id parts ≡ ups_one t part parts + part_ups n part ts id parts
  unfolding ups_one
  part_ups_cons t ts part [] = refl
  part_ups_cons t ts part (es ∷ parts) = let rest = part_ups_cons t ts (part + 1) parts in omega (arith, rest)

  part_ups_none : (part : ℕ) (parts : List Docs) → part_ups n part [] id parts ≡ 0
  part_ups_none part [] = refl
  part_ups_none part (es ∷ parts) = let rest = part_ups_none (part + 1) parts in omega (arith, rest)

  ups_of_parts : (lists : List (List ℕ)) (parts : List Docs) → length parts ≡ n → AllRise parts → part_ups n 0 lists id parts ≡ joined_ups n lists id (joined parts)
  ups_of_parts [] parts many rise = part_ups_none 0 parts
  ups_of_parts (t ∷ ts) parts many rise =
      let both = part_ups_cons t ts 0 parts in
      let one = one_list t 0 parts (omega (arith, many)) rise in
      let all : up t id (joined parts) ≡ sums_from (counted t) n 0 parts = sum-joined (counted t) parts rise ∙ ap (λ k. sums_from (counted t) k 0 parts) many in
      let rest = ups_of_parts ts parts many rise in
      omega (arith, both, one, all, rest, many)

-- the postings of each part up to its point are those of all up to the id
pub ups_in_parts : (n id : ℕ) (lists : List (List ℕ)) (parts : List Docs) → length parts ≡ n → AllRise parts → part_ups n 0 lists id parts ≡ joined_ups n lists id (joined parts)
ups_in_parts n id lists parts many rise = ups_of_parts n id lists parts many rise
