-- A search that goes past its first document: one tree moves, and the others stay.
use Rattle.std.proofs.Common.{◌∙◌, ◌≡◌, ◌≤◌, ◌<◌, ◌+◌, ◌*◌, ◌-◌, ◌^◌, ◌⊎◌, inl, inr, ℕ, zero, suc, Bool, true, false, cond, nat_le, max, List, [], ◌∷◌, length, map, set, slice_index_or, Option, None, Some, refl, sym, ap, subst, arith, true≢false}
use Rattle.std.specs.List.{AllByRecursion}
use Rattle.std.proofs.Math.Nat.{mul-le-mul_left}
use Rattle.std.proofs.lemmas.Bool.{cases_lt, lt-leb}
use Rattle.sk_base.specs.declared.find.Scheme.{Scheme}
use Rattle.sk_base.specs.Numbers.{Docs}
use Rattle.sk_sorted.specs.Entries.{LieBelow, first_id}
use Rattle.sk_sorted.specs.Joined.{joined_id, joined, AllRise, give_at, give_joined, point_in, given}
use Rattle.sk_sorted.proofs.GiveLaws.{rise-given_each}
use Rattle.sk_sorted.proofs.JoinedLaws.{rise-joined}
use Rattle.sk_sorted.proofs.MergeLaws.{least-joined}
use Rattle.sk_sorted.proofs.PartLaws.{up_to_point}
use Rattle.sk_query.specs.Trees as Query
use Rattle.sk_model.specs.Covers.{Covers, CoversAt}
use Rattle.sk_model.specs.Documents.{Document}
use Rattle.sk_model.specs.Sharp.{ups}
use Rattle.sk_model.proofs.PassLaws.{passes_joined}
use Rattle.sk_documents.specs.Turned.{AreTurns}
use Rattle.sk_index.specs.Indexed.{Indexed}
use Rattle.sk_tree.specs.Built.{gives, left, Built}
use Rattle.sk_nodes.specs.Left.{from_on}
use Rattle.sk_tree.specs.Kept.{KeepsAccounts}
use Rattle.sk_tree.specs.Stops.{PaysToStop}
use Rattle.sk_tree.specs.declared.tree.Tree.{Tree}
use Rattle.sk_page.specs.Needs.{need_for}
use Rattle.sk_page.proofs.WalkLaws.{all_quiet}
use Rattle.sk_shards.specs.Forests.{AreBuilt, AllStop, IsFirst, PassesUnseen, docs_of, gives_of, gives_all, lefts, ceiling_in}
use Rattle.sk_shards.specs.declared.forest.Forest.{Forest}
use Rattle.sk_shards.specs.declared.forest.Head.{Head}
use Rattle.sk_shards.proofs.ForestLemmas.{built_long, gives_long, ahead_is, gives-set}
use Rattle.sk_shards.proofs.FirstLemmas.{lefts_long, fits_there}

abbrev docs_in : Indexed → Docs
docs_in i = i.live.documents

-- ---- what a part gives

give_at_is : (indexes : List Indexed) (trees : List Tree) (k : ℕ) (i : Indexed) (t : Tree) → length trees ≡ length indexes → k < length indexes → i ≡ slice_index_or indexes k i → t ≡ slice_index_or trees k t
    → give_at (gives_of indexes trees) k ≡ gives i t
give_at_is [] trees k i t same l at is = absurd (omega (arith, l))
give_at_is (j ∷ indexes) [] k i t same l at is = absurd (omega (arith, same))
give_at_is (j ∷ indexes) (u ∷ trees) zero i t same l at is = λ p own. gives (sym at p) (sym is p) own
give_at_is (j ∷ indexes) (u ∷ trees) (suc k) i t same l at is = give_at_is indexes trees k i t (omega (arith, same)) (omega (arith, l)) at is

-- the tree of a part is that of the query over its index
pub built_at : (indexes : List Indexed) (trees : List Tree) (query : Query.Tree) (scheme : Scheme) (k : ℕ) (i : Indexed) (t : Tree) → AreBuilt indexes trees query scheme → k < length indexes
    → i ≡ slice_index_or indexes k i → t ≡ slice_index_or trees k t → Built t i query scheme
built_at [] trees query scheme k i t built l at is = absurd (omega (arith, l))
built_at (j ∷ indexes) [] query scheme k i t built l at is = absurd built
built_at (j ∷ indexes) (u ∷ trees) query scheme zero i t built l at is = subst (λ (x : Indexed). Built t x query scheme) (sym at) (subst (λ (v : Tree). Built v j query scheme) (sym is) built.0)
built_at (j ∷ indexes) (u ∷ trees) query scheme (suc k) i t built l at is = built_at indexes trees query scheme k i t built.1 (omega (arith, l)) at is

-- an index stands at each place
pub index_there : (indexes : List Indexed) (k : ℕ) → k < length indexes → (i : Indexed) × (i ≡ slice_index_or indexes k i)
index_there [] k l = absurd (omega (arith, l))
index_there (i ∷ indexes) zero l = (i, refl)
index_there (i ∷ indexes) (suc k) l = index_there indexes k (omega (arith, l))

-- a tree stands at the part of the head
pub head_within : (indexes : List Indexed) (trees : List Tree) (head : Head) (query : Query.Tree) (scheme : Scheme) → AreBuilt indexes trees query scheme → IsFirst indexes trees (Some head) → head.part < length trees
head_within indexes trees head query scheme built first = let l = first.0 in let same = built_long indexes trees query scheme built in omega (arith, l, same)

pub asked_more : (pruned : Bool) (before after ask : ℕ) → (after ≡ before) ⊎ ((pruned ≡ true) × (after ≡ max before ask)) → before ≤ after
asked_more pruned before after ask (inl e) = omega (arith, e)
asked_more pruned before after ask (inr e) = let most = e.1 in omega (arith, most)

-- what is asked for behind a head is what was asked for before, or more where the search is pruned
pub asked_behind : (pruned : Bool) (old need n : ℕ) → n ≡ cond pruned (max old need) old → (n ≡ old) ⊎ ((pruned ≡ true) × (n ≡ max old need))
asked_behind true old need n is = inr (refl, is)
asked_behind false old need n is = inl is

-- no tree was asked for more than the greatest need
pub asked_at : (trees : List Tree) (k most : ℕ) (t : Tree) → k < length trees → t ≡ slice_index_or trees k t → AllByRecursion (λ (u : Tree). u.need ≤ most) trees → t.need ≤ most
asked_at [] k most t l is all = absurd (omega (arith, l))
asked_at (u ∷ trees) zero most t l is all = subst (λ (v : Tree). v.need ≤ most) (sym is) all.0
asked_at (u ∷ trees) (suc k) most t l is all = asked_at trees k most t (omega (arith, l)) is all.1

-- ---- one tree is set

pub built-set : (indexes : List Indexed) (trees : List Tree) (k : ℕ) (i : Indexed) (t new : Tree) (query : Query.Tree) (scheme : Scheme) → i ≡ slice_index_or indexes k i → t ≡ slice_index_or trees k t → k < length trees
    → (Built t i query scheme → Built new i query scheme) → AreBuilt indexes trees query scheme → AreBuilt indexes (set trees k new) query scheme
built-set indexes [] k i t new query scheme at is l moves built = absurd (omega (arith, l))
built-set [] (u ∷ trees) k i t new query scheme at is l moves built = absurd built
built-set (j ∷ indexes) (u ∷ trees) zero i t new query scheme at is l moves built =
    (subst (λ (x : Indexed). Built new x query scheme) at (moves (subst (λ (x : Indexed). Built t x query scheme) (sym at) (subst (λ (v : Tree). Built v j query scheme) (sym is) built.0))), built.1)
built-set (j ∷ indexes) (u ∷ trees) (suc k) i t new query scheme at is l moves built = (built.0, built-set indexes trees k i t new query scheme at is (omega (arith, l)) moves built.1)

pub within-set : (trees : List Tree) (k low high : ℕ) (new : Tree) → low ≤ high → new.need ≤ high → AllByRecursion (λ (t : Tree). t.need ≤ low) trees → AllByRecursion (λ (t : Tree). t.need ≤ high) (set trees k new)
within-set [] k low high new le own all = tt
within-set (u ∷ trees) zero low high new le own all = (own, higher trees all.1)
  where
    more : (a : ℕ) → a ≤ low → a ≤ high
    more a l = omega (arith, l, le)

    higher : (ts : List Tree) → AllByRecursion (λ (t : Tree). t.need ≤ low) ts → AllByRecursion (λ (t : Tree). t.need ≤ high) ts
    higher [] all = tt
    higher (t ∷ ts) all = (more t.need all.0, higher ts all.1)
within-set (u ∷ trees) (suc k) low high new le own all = (let l = all.0 in omega (arith, l, le), within-set trees k low high new le own all.1)

-- a tree that pays as before where it stops in its part
pub stops-set : (n part id : ℕ) (lists : List (List ℕ)) (indexes : List Indexed) (trees : List Tree) (k : ℕ) (i : Indexed) (t new : Tree) → i ≡ slice_index_or indexes k i → t ≡ slice_index_or trees k t → k < length trees
    → ((most : ℕ) → PaysToStop i t (point_in n (part + k) id) most → PaysToStop i new (point_in n (part + k) id) most) → AllStop n part lists id indexes trees → AllStop n part lists id indexes (set trees k new)
stops-set n part id lists indexes [] k i t new at is l moves stops = absurd (omega (arith, l))
stops-set n part id lists [] (u ∷ trees) k i t new at is l moves stops = tt
stops-set n part id lists (j ∷ indexes) (u ∷ trees) zero i t new at is l moves stops = (
  subst (λ (x : Indexed). PaysToStop x new (point_in n part id) (ups lists (point_in n part id) x.live.documents)) at
      (here
      (subst (λ (x : Indexed). PaysToStop x t (point_in n part id) (ups lists (point_in n part id) x.live.documents)) (sym at)
      (subst (λ (v : Tree). PaysToStop j v (point_in n part id) (ups lists (point_in n part id) j.live.documents)) (sym is) stops.0))),
  stops.1,
)
  where
    here : PaysToStop i t (point_in n part id) (ups lists (point_in n part id) i.live.documents) → PaysToStop i new (point_in n part id) (ups lists (point_in n part id) i.live.documents)
    here =
        subst (λ p. PaysToStop i t (point_in n p id) (ups lists (point_in n p id) i.live.documents) → PaysToStop i new (point_in n p id) (ups lists (point_in n p id) i.live.documents)) (let e : part + 0 ≡ part = omega arith in e)
        (moves (ups lists (point_in n (part + 0) id) i.live.documents))
stops-set n part id lists (j ∷ indexes) (u ∷ trees) (suc k) i t new at is l moves stops =
    (stops.0, stops-set n (part + 1) id lists indexes trees k i t new at is (omega (arith, l)) later stops.1)
  where
    later : (most : ℕ) → PaysToStop i t (point_in n (part + 1 + k) id) most → PaysToStop i new (point_in n (part + 1 + k) id) most
    later = subst (λ p. (most : ℕ) → PaysToStop i t (point_in n p id) most → PaysToStop i new (point_in n p id) most) (let e : part + suc k ≡ part + 1 + k = omega arith in e) moves

-- ---- past the head

-- together the trees pass over the document at the head alone
pub passed_over : (indexes : List Indexed) (trees : List Tree) (head : Head) (need : ℕ) (i : Indexed) (t new : Tree) → length trees ≡ length indexes → AllRise (map docs_in indexes)
    → i ≡ slice_index_or indexes head.part i → t ≡ slice_index_or trees head.part t → IsFirst indexes trees (Some head)
    → Covers (from_on (head.own + 1) (gives i t)) (gives i new) need
    → AllByRecursion (λ (one : ℕ × Document). CoversAt (cond (nat_le (head.id + 1) one.0) (gives_all indexes trees one.0) None) (gives_all indexes (set trees head.part new) one.0) need) (docs_of indexes)
passed_over indexes trees head need i t new same up at is first covers =
    subst (λ h. AllByRecursion (λ (one : ℕ × Document). CoversAt (cond (nat_le (h + 1) one.0) (gives_all indexes trees one.0) None) (gives_all indexes (set trees head.part new) one.0) need) (docs_of indexes)) (sym first.3)
    (subst (λ gs. AllByRecursion (λ (one : ℕ × Document). CoversAt (cond (nat_le (h + 1) one.0) (gives_all indexes trees one.0) None) (give_joined n gs one.0) need) (docs_of indexes)) (sym (gives-set indexes trees head.part i new same first.0 at))
    (passes_joined n head.part head.own need (gives_of indexes trees) (gives i new) (let l = first.0 in omega (arith, l)) first.0 (gives_long indexes trees same) first.1
    (λ k. subst (λ (f : ℕ → Option ℕ). CoversAt (cond (nat_le (head.own + 1) k) (f k) None) (gives i new k) need) (sym (give_at_is indexes trees head.part i t same first.0 at is)) (covers k))
    (docs_of indexes) (rise-joined (map docs_in indexes)) first_there))
  where
    n : ℕ
    n = length indexes

    h : ℕ
    h = joined_id n head.part head.own

    long : length (lefts indexes trees) ≡ n
    long = lefts_long indexes trees same

    first_there : first_id (given (give_joined n (gives_of indexes trees)) (docs_of indexes)) ≡ Some h
    first_there =
        ap first_id (sym (ahead_is indexes trees same up))
        ∙ least-joined (lefts indexes trees) (let l = first.0 in subst (λ m. 0 < m) (sym long) (omega (arith, l))) (rise-given_each (gives_of indexes trees) (map docs_in indexes) up)
        head.part head.own (subst (λ m. head.part < m) (sym long) first.0) first.1 first.2
        ∙ ap (λ m. Some (joined_id m head.part head.own)) long

-- ---- past the head of the last id

-- there is one part
far : (o n part : ℕ) → o ≡ 4294967294 → o * n + part + 1 < 2 ^ 32 → (n < 2) ⊎ (2 ≤ n) → n < 2
far o n part is fits (inl l) = l
far o n part is fits (inr le) = let more = mul-le-mul_left o le in absurd (omega (arith, is, fits, more))

closed : (give give2 : ℕ → Option ℕ) (id need : ℕ) (docs : Docs) → 4294967295 ≤ id → LieBelow (2 ^ 32) docs → AllByRecursion (λ (d : ℕ × Document). give2 d.0 ≡ None) docs
    → AllByRecursion (λ (d : ℕ × Document). CoversAt (cond (nat_le (id + 1) d.0) (give d.0) None) (give2 d.0) need) docs
closed give give2 id need [] last low quiet = tt
closed give give2 id need (d ∷ docs) last low quiet = (
  subst (λ b. CoversAt (cond b (give d.0) None) (give2 d.0) need) (sym (lt-leb (id + 1) d.0 (omega (arith, last, low.0)))) (subst (λ o. CoversAt None o need) (sym quiet.0) tt),
  closed give give2 id need docs last low.1 quiet.1,
)

closed_one : (i : Indexed) (t new : Tree) (part own id need : ℕ) → part < 1 → own ≡ 4294967295 → id ≡ joined_id 1 part own → AreTurns docs_in (i ∷ []) → left i new ≡ []
    → AllByRecursion (λ (one : ℕ × Document). CoversAt (cond (nat_le (id + 1) one.0) (gives_all (i ∷ []) (t ∷ []) one.0) None) (gives_all (i ∷ []) (set (t ∷ []) part new) one.0) need) (docs_of (i ∷ []))
closed_one i t new zero own id need l last is turns none =
    closed (gives_all (i ∷ []) (t ∷ [])) (gives_all (i ∷ []) (new ∷ [])) id need (docs_of (i ∷ [])) (omega (arith, is, last)) turns.small
    (all_quiet (gives_all (i ∷ []) (new ∷ [])) (docs_of (i ∷ [])) (sym (ahead_is (i ∷ []) (new ∷ []) refl turns.rise) ∙ ap (λ (es : List (ℕ × ℕ)). joined (es ∷ [])) none))
closed_one i t new (suc part) own id need l last is turns none = absurd (omega (arith, l))

closed_all : (indexes : List Indexed) (trees : List Tree) (head : Head) (need : ℕ) (new : Tree) → length indexes < 2 → length trees ≡ length indexes → AreTurns docs_in indexes → IsFirst indexes trees (Some head) → head.own ≡ 4294967295 → ((i : Indexed) → left i new ≡ [])
    → AllByRecursion (λ (one : ℕ × Document). CoversAt (cond (nat_le (head.id + 1) one.0) (gives_all indexes trees one.0) None) (gives_all indexes (set trees head.part new) one.0) need) (docs_of indexes)
closed_all [] trees head need new few same turns first last none = absurd (let some = turns.some in omega (arith, some))
closed_all (i ∷ []) [] head need new few same turns first last none = absurd (omega (arith, same))
closed_all (i ∷ []) (t ∷ []) head need new few same turns first last none = closed_one i t new head.part head.own head.id need first.0 last first.3 turns (none i)
closed_all (i ∷ []) (t ∷ u ∷ trees) head need new few same turns first last none = absurd (omega (arith, same))
closed_all (i ∷ j ∷ indexes) trees head need new few same turns first last none = absurd (omega (arith, few))

-- nothing is behind it
pub passed_by_close : (indexes : List Indexed) (trees : List Tree) (head : Head) (need : ℕ) (new : Tree) → length trees ≡ length indexes → AreTurns docs_in indexes → IsFirst indexes trees (Some head) → head.own ≡ 4294967295 → ((i : Indexed) → left i new ≡ [])
    → AllByRecursion (λ (one : ℕ × Document). CoversAt (cond (nat_le (head.id + 1) one.0) (gives_all indexes trees one.0) None) (gives_all indexes (set trees head.part new) one.0) need) (docs_of indexes)
passed_by_close indexes trees head need new same turns first last none =
    let fits = (fits_there indexes trees head.part head.own same turns first.0 first.2.first).1 in
    closed_all indexes trees head need new (far (head.own - 1) (length indexes) head.part (omega (arith, last)) fits (cases_lt (length indexes) 2)) same turns first last none

-- ---- a search past its head

module _ (indexes : List Indexed) (head : Head) (old new : Forest) (query : Query.Tree) (scheme : Scheme) (i : Indexed) (t moved : Tree) (turns : AreTurns docs_in indexes) (built : AreBuilt indexes old.trees.items query scheme)
    (first : IsFirst indexes old.trees.items (Some head)) (at : i ≡ slice_index_or indexes head.part i) (is : t ≡ slice_index_or old.trees.items head.part t) (made : new.trees.items ≡ set old.trees.items head.part moved)
    (pruned : new.is_pruned ≡ old.is_pruned) (page : new.page ≡ old.page) (bounds : new.bounds ≡ old.bounds) where
  same : length old.trees.items ≡ length indexes
  same = built_long indexes old.trees.items query scheme built

  within : head.part < length old.trees.items
  within = let l = first.0 in let long = same in omega (arith, l, long)

  near : (id : ℕ) → head.id ≤ id → head.own ≤ point_in (length indexes) (0 + head.part) id
  near id le =
      subst (λ p. head.own ≤ point_in (length indexes) p id) (let e : head.part ≡ 0 + head.part = omega arith in e)
      (up_to_point (length indexes) head.part head.own id first.0 first.1 (subst (λ h. h ≤ id) first.3 le))

  -- its tree was sought
  pub passes_by_seek : (new.need ≡ old.need) ⊎ ((old.is_pruned ≡ true) × (new.need ≡ max old.need (need_for old.page.options old.page.seen old.page.heap (ceiling_in old.trees.items))))
      → Covers (from_on (head.own + 1) (gives i t)) (gives i moved) new.need → ((query : Query.Tree) (scheme : Scheme) → Built t i query scheme → Built moved i query scheme)
      → moved.need ≡ new.need → KeepsAccounts i (head.own + 1) new.need t moved → PassesUnseen indexes head old new
  passes_by_seek asked covers builds need keeps = record {
    over = subst (λ (ts : List Tree). AllByRecursion (λ (one : ℕ × Document). CoversAt (cond (nat_le (head.id + 1) one.0) (gives_all indexes old.trees.items one.0) None) (gives_all indexes ts one.0) new.need) (docs_of indexes)) (sym made)
        (passed_over indexes old.trees.items head new.need i t moved same turns.rise at is first covers);
    built = λ q s b. subst (λ (ts : List Tree). AreBuilt indexes ts q s) (sym made) (built-set indexes old.trees.items head.part i t moved q s at is within (builds q s) b);
    asked = weaker asked;
    unasked = λ e. as_before e asked;
    within = λ all. subst (λ (ts : List Tree). AllByRecursion (λ (u : Tree). u.need ≤ new.need) ts) (sym made) (within-set old.trees.items head.part old.need new.need moved (asked_more old.is_pruned old.need new.need (need_for old.page.options old.page.seen old.page.heap (ceiling_in old.trees.items)) asked) (omega (arith, need)) all);
    stops = λ lists id none le stops.
        subst (λ (ts : List Tree). AllStop (length indexes) 0 lists id indexes ts) (sym made)
        (stops-set (length indexes) 0 id lists indexes old.trees.items head.part i t moved at is within (goes_on id none le) stops);
    pruned = pruned;
    page = page;
    bounds = bounds;
  }
    where
      weaker : (new.need ≡ old.need) ⊎ ((old.is_pruned ≡ true) × (new.need ≡ max old.need (need_for old.page.options old.page.seen old.page.heap (ceiling_in old.trees.items))))
          → (new.need ≡ old.need) ⊎ (new.need ≡ max old.need (need_for old.page.options old.page.seen old.page.heap (ceiling_in old.trees.items)))
      weaker (inl e) = inl e
      weaker (inr e) = inr e.1

      as_before : old.is_pruned ≡ false → (new.need ≡ old.need) ⊎ ((old.is_pruned ≡ true) × (new.need ≡ max old.need (need_for old.page.options old.page.seen old.page.heap (ceiling_in old.trees.items)))) → new.need ≡ old.need
      as_before f (inl e) = e
      as_before f (inr e) = absurd (true≢false (sym e.0 ∙ f))

      goes_on : (id : ℕ) → new.need ≡ 0 → head.id ≤ id → (most : ℕ) → PaysToStop i t (point_in (length indexes) (0 + head.part) id) most → PaysToStop i moved (point_in (length indexes) (0 + head.part) id) most
      goes_on id none le most pays = keeps.stops (point_in (length indexes) (0 + head.part) id) most pays (inr (inr (inl (none, let up = near id le in omega (arith, up)))))

  -- its tree was closed
  pub passes_by_close : new.need ≡ old.need → head.own ≡ 4294967295 → ((j : Indexed) → left j moved ≡ []) → ((query : Query.Tree) (scheme : Scheme) → Built t i query scheme → Built moved i query scheme)
      → moved.need ≡ t.need → ((point most : ℕ) → PaysToStop i t point most → PaysToStop i moved point most) → PassesUnseen indexes head old new
  passes_by_close asked last none builds need pays = record {
    over = subst (λ (ts : List Tree). AllByRecursion (λ (one : ℕ × Document). CoversAt (cond (nat_le (head.id + 1) one.0) (gives_all indexes old.trees.items one.0) None) (gives_all indexes ts one.0) new.need) (docs_of indexes)) (sym made)
        (passed_by_close indexes old.trees.items head new.need moved same turns first last none);
    built = λ q s b. subst (λ (ts : List Tree). AreBuilt indexes ts q s) (sym made) (built-set indexes old.trees.items head.part i t moved q s at is within (builds q s) b);
    asked = inl asked;
    unasked = λ e. asked;
    within = λ all.
        let low = asked_at old.trees.items head.part old.need t within is all in
        subst (λ (ts : List Tree). AllByRecursion (λ (u : Tree). u.need ≤ new.need) ts) (sym made) (within-set old.trees.items head.part old.need new.need moved (omega (arith, asked)) (omega (arith, need, low, asked)) all);
    stops = λ lists id zero_need le stops.
        subst (λ (ts : List Tree). AllStop (length indexes) 0 lists id indexes ts) (sym made)
        (stops-set (length indexes) 0 id lists indexes old.trees.items head.part i t moved at is within (pays (point_in (length indexes) (0 + head.part) id)) stops);
    pruned = pruned;
    page = page;
    bounds = bounds;
  }
