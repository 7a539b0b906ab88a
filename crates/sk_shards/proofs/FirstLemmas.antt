-- The first document that is left in any tree.
use Rattle.std.proofs.Common.{◌∙◌, ◌≡◌, ◌≤◌, ◌<◌, ◌+◌, ◌^◌, ◌⊎◌, inl, inr, Bool, true, false, true≢false, nat_lt, ℕ, zero, suc, List, [], ◌∷◌, length, map, slice_index_or, Option, None, Some, MatchOption, option_map, refl, sym, ap, subst, arith}
use Rattle.std.specs.List.{cons_option}
use Rattle.std.proofs.lemmas.Bool.{cases_eq, cases_lt, ltb-true, ltb-false}
use Rattle.std.proofs.lemmas.List.{length-map}
use Rattle.sk_base.specs.declared.find.Scheme.{Scheme}
use Rattle.sk_base.specs.Numbers.{Docs}
use Rattle.sk_sorted.specs.Entries.{RiseAbove, LieBelow, first_id, found}
use Rattle.sk_sorted.specs.Joined.{joined_id, joined, part_at, AllRise, given}
use Rattle.sk_sorted.proofs.EntryLaws.{found-here, found-other}
use Rattle.sk_sorted.proofs.JoinedIdLaws.{own-joined, part-joined}
use Rattle.sk_sorted.proofs.JoinedLaws.{found-joined}
use Rattle.sk_sorted.proofs.MergeLaws.{none-joined, least-joined}
use Rattle.sk_sorted.proofs.GiveLaws.{length-given_each, rise-given_each}
use Rattle.sk_query.specs.Trees as Query
use Rattle.sk_model.specs.Documents.{Document}
use Rattle.sk_documents.specs.Turned.{AreTurns}
use Rattle.sk_index.specs.Indexed.{Indexed}
use Rattle.sk_tree.specs.Built.{gives, left, first_weight, IsTree, Built}
use Rattle.sk_tree.specs.declared.tree.Tree.{Tree}
use Rattle.sk_shards.specs.Forests.{AreBuilt, AreOver, IsFirst, IsFirstOf, gives_of, lefts}
use Rattle.sk_shards.specs.declared.forest.Head.{Head}
use Rattle.sk_shards.proofs.ForestLemmas.{built_long, gives_long}

abbrev docs_in : Indexed → Docs
docs_in i = i.live.documents

-- ---- what is left of a part

-- it is what is left in its tree
pub left_at : (indexes : List Indexed) (trees : List Tree) (query : Query.Tree) (scheme : Scheme) (k : ℕ) (t : Tree) → AreBuilt indexes trees query scheme → k < length trees → t ≡ slice_index_or trees k t
    → (i : Indexed) × Built t i query scheme × (part_at (lefts indexes trees) k ≡ left i t)
left_at indexes [] query scheme k t built l is = absurd (omega (arith, l))
left_at [] (u ∷ trees) query scheme k t built l is = absurd built
left_at (i ∷ indexes) (u ∷ trees) query scheme zero t built l is = (i, subst (λ v. Built v i query scheme) (sym is) built.0, ap (left i) (sym is))
left_at (i ∷ indexes) (u ∷ trees) query scheme (suc k) t built l is = left_at indexes trees query scheme k t built.1 (omega (arith, l)) is

pub lefts_long : (indexes : List Indexed) (trees : List Tree) → length trees ≡ length indexes → length (lefts indexes trees) ≡ length indexes
lefts_long indexes trees same = length-given_each (gives_of indexes trees) (map docs_in indexes) (gives_long indexes trees same ∙ sym (length-map indexes docs_in)) ∙ length-map indexes docs_in

-- behind the last part nothing is left
beyond : (rests : List (List (ℕ × ℕ))) (q : ℕ) → length rests ≤ q → first_id (part_at rests q) ≡ None
beyond [] q le = refl
beyond (es ∷ rests) zero le = absurd (omega (arith, le))
beyond (es ∷ rests) (suc q) le = beyond rests q (omega (arith, le))

begun_at : (es : List (ℕ × ℕ)) (own : ℕ) → RiseAbove 0 es → first_id es ≡ Some own → 1 ≤ own
begun_at [] own up e = absurd (cc)
begun_at (p ∷ es) own up e = first up.0 (same p.0 own e)
  where
    same : (a b : ℕ) → Some a ≡ Some b → a ≡ b
    same a b e = cc

    first : 0 < p.0 → p.0 ≡ own → 1 ≤ own
    first l is = omega (arith, l, is)

-- ---- its joined id is one of a document

module _ {X : Type 0} where
  given_there : (give : ℕ → Option ℕ) (low own : ℕ) (es : List (ℕ × X)) → RiseAbove low es → first_id (given give es) ≡ Some own → (low < own) × ((x : X) × (found own es ≡ Some x))
  given_there give low own [] up e = absurd (cc)
  given_there give low own (d ∷ es) up e = by_given (given_there give d.0 own es up.1) (give d.0) e
    where
      same : (a b : ℕ) → Some a ≡ Some b → a ≡ b
      same a b e = cc

      later : low < d.0 → d.0 < own → low < own
      later l m = omega (arith, l, m)

      other : d.0 < own → d.0 ≡ own → ⊥
      other l is = omega (arith, l, is)

      by_given : (first_id (given give es) ≡ Some own → (d.0 < own) × ((x : X) × (found own es ≡ Some x))) → (o : Option ℕ) → first_id (cons_option (option_map (λ w. (d.0, w)) o) (given give es)) ≡ Some own → (low < own) × ((x : X) × (found own (d ∷ es) ≡ Some x))
      by_given rest None f = let r = rest f in (later up.0 r.0, (r.1.0, found-other own d es (other r.0) ∙ r.1.1))
      by_given rest (Some v) f = let is = same d.0 own f in (subst (λ id. low < id) is up.0, (d.1, found-here own d es is))

  below_found : (high id : ℕ) (es : List (ℕ × X)) (x : X) → LieBelow high es → found id es ≡ Some x → id < high
  below_found high id [] x low e = absurd (cc)
  below_found high id (d ∷ es) x low e = by_id (below_found high id es x low.1) (cases_eq d.0 id)
    where
      by_id : (found id es ≡ Some x → id < high) → (d.0 ≡ id) ⊎ (d.0 ≡ id → ⊥) → id < high
      by_id rest (inl is) = subst (λ n. n < high) is low.0
      by_id rest (inr other) = rest (sym (found-other id d es other) ∙ e)

  rise_at : (parts : List (List (ℕ × X))) (q : ℕ) → AllRise parts → RiseAbove 0 (part_at parts q)
  rise_at [] q up = tt
  rise_at (es ∷ parts) zero up = up.0
  rise_at (es ∷ parts) (suc q) up = rise_at parts q up.1

-- the documents of a part, where its tree is
docs_at : (indexes : List Indexed) (trees : List Tree) (k own : ℕ) → length trees ≡ length indexes → AllRise (map docs_in indexes) → first_id (part_at (lefts indexes trees) k) ≡ Some own
    → (1 ≤ own) × ((x : Document) × (found own (part_at (map docs_in indexes) k) ≡ Some x))
docs_at [] trees k own same up e = absurd (cc)
docs_at (i ∷ indexes) [] k own same up e = absurd (omega (arith, same))
docs_at (i ∷ indexes) (t ∷ trees) zero own same up e = given_there (gives i t) 0 own i.live.documents up.0 e
docs_at (i ∷ indexes) (t ∷ trees) (suc k) own same up e = docs_at indexes trees k own (omega (arith, same)) up.1 e

-- so it fits
pub fits_there : (indexes : List Indexed) (trees : List Tree) (k own : ℕ) → length trees ≡ length indexes → AreTurns docs_in indexes → k < length indexes → first_id (part_at (lefts indexes trees) k) ≡ Some own
    → (1 ≤ own) × (joined_id (length indexes) k own < 2 ^ 32)
fits_there indexes trees k own same turns l e =
    let at = docs_at indexes trees k own same turns.rise e in (
      at.0,
      subst (λ n. joined_id n k own < 2 ^ 32) (length-map indexes docs_in)
          (below_found (2 ^ 32) (joined_id n k own) (joined (map docs_in indexes)) at.1.0 turns.small
          (found-joined (joined_id n k own) (map docs_in indexes) (omega arith) turns.rise
          ∙ (λ j. found (own-joined n k own within at.0 j) (part_at (map docs_in indexes) (part-joined n k own within j)))
          ∙ at.1.1)),
    )
  where
    n : ℕ
    n = length (map docs_in indexes)

    within : k < n
    within = subst (λ m. k < m) (sym (length-map indexes docs_in)) l

-- ---- part by part

module _ (indexes : List Indexed) (trees : List Tree) where
  pub first_start : IsFirstOf indexes trees 0 None
  first_start q l = absurd (omega (arith, l))

  -- a part of which nothing is left
  pub first_skip : (k : ℕ) (first : Option Head) → first_id (part_at (lefts indexes trees) k) ≡ None → IsFirstOf indexes trees k first → IsFirstOf indexes trees (k + 1) first
  first_skip k None e so = λ q l. by_part q l (cases_eq q k)
    where
      by_part : (q : ℕ) → q < k + 1 → (q ≡ k) ⊎ (q ≡ k → ⊥) → first_id (part_at (lefts indexes trees) q) ≡ None
      by_part q l (inl is) = ap (λ p. first_id (part_at (lefts indexes trees) p)) is ∙ e
      by_part q l (inr other) = so q (omega (arith, l, other))
  first_skip k (Some head) e so = (let l = so.0 in omega (arith, l), so.1, so.2, so.3, λ q other l f. by_part q other l f (cases_eq q k))
    where
      by_part : (q other : ℕ) → q < k + 1 → first_id (part_at (lefts indexes trees) q) ≡ Some other → (q ≡ k) ⊎ (q ≡ k → ⊥) → head.id ≤ joined_id (length indexes) q other
      by_part q other l f (inl is) = let gone : None ≡ Some other = sym e ∙ ap (λ p. first_id (part_at (lefts indexes trees) p)) (sym is) ∙ f in absurd (cc)
      by_part q other l f (inr apart) = so.4 q other (omega (arith, l, apart)) f

  same_id : (a b : ℕ) → Some a ≡ Some b → a ≡ b
  same_id a b e = cc

  -- a part whose first is before all so far, or is the first of all
  pub first_taken : (k own : ℕ) (first : Option Head) (head : Head) → head.part ≡ k → head.own ≡ own → head.id ≡ joined_id (length indexes) k own → 1 ≤ own → first_id (part_at (lefts indexes trees) k) ≡ Some own
      → ((old : Head) → first ≡ Some old → head.id < old.id) → IsFirstOf indexes trees k first → IsFirstOf indexes trees (k + 1) (Some head)
  first_taken k own first head part at id begun e before so =
      (omega (arith, part), omega (arith, at, begun), ap (λ p. first_id (part_at (lefts indexes trees) p)) part ∙ e ∙ ap Some (sym at), id ∙ (λ j. joined_id (length indexes) (sym part j) (sym at j)), λ q other l f. by_part q other l f (cases_eq q k))
    where
      earlier : (o : Option Head) → first ≡ o → IsFirstOf indexes trees k o → (q other : ℕ) → q < k → first_id (part_at (lefts indexes trees) q) ≡ Some other → head.id ≤ joined_id (length indexes) q other
      earlier None is so q other l f = let gone : None ≡ Some other = sym (so q l) ∙ f in absurd (cc)
      earlier (Some old) is so q other l f = let late = so.4 q other l f in let new = before old is in omega (arith, late, new)

      by_part : (q other : ℕ) → q < k + 1 → first_id (part_at (lefts indexes trees) q) ≡ Some other → (q ≡ k) ⊎ (q ≡ k → ⊥) → head.id ≤ joined_id (length indexes) q other
      by_part q other l f (inl is) =
          let same : own ≡ other = same_id own other (sym e ∙ ap (λ p. first_id (part_at (lefts indexes trees) p)) (sym is) ∙ f) in
          let whole : head.id ≡ joined_id (length indexes) q other = id ∙ (λ j. joined_id (length indexes) (sym is j) (same j)) in
          omega (arith, whole)
      by_part q other l f (inr apart) = earlier first refl so q other (omega (arith, l, apart)) f

  -- a part whose first is behind the first so far
  pub first_kept : (k own : ℕ) (head : Head) → first_id (part_at (lefts indexes trees) k) ≡ Some own → head.id ≤ joined_id (length indexes) k own → IsFirstOf indexes trees k (Some head) → IsFirstOf indexes trees (k + 1) (Some head)
  first_kept k own head e behind so = (let l = so.0 in omega (arith, l), so.1, so.2, so.3, λ q other l f. by_part q other l f (cases_eq q k))
    where
      by_part : (q other : ℕ) → q < k + 1 → first_id (part_at (lefts indexes trees) q) ≡ Some other → (q ≡ k) ⊎ (q ≡ k → ⊥) → head.id ≤ joined_id (length indexes) q other
      by_part q other l f (inl is) =
          let same : own ≡ other = same_id own other (sym e ∙ ap (λ p. first_id (part_at (lefts indexes trees) p)) (sym is) ∙ f) in
          let whole : joined_id (length indexes) k own ≡ joined_id (length indexes) q other = (λ j. joined_id (length indexes) (sym is j) (same j)) in
          omega (arith, whole, behind)
      by_part q other l f (inr apart) = so.4 q other (omega (arith, l, apart)) f

  -- what the test of a part's first tells
  pub is_earlier : (id : ℕ) (first : Option Head) (before : Bool) → MatchOption first (before ≡ true) (λ head. before ≡ nat_lt id head.id) → before ≡ true → (old : Head) → first ≡ Some old → id < old.id
  is_earlier id None before says holds old is = absurd (cc)
  is_earlier id (Some head) before says holds old is = ltb-true id old.id (ap (λ (h : Head). nat_lt id h.id) (same_head old head (sym is)) ∙ sym says ∙ holds)
    where
      same_head : (a b : Head) → Some a ≡ Some b → a ≡ b
      same_head a b e = cc

  pub first_stays : (k own id : ℕ) (first : Option Head) (before : Bool) → MatchOption first (before ≡ true) (λ head. before ≡ nat_lt id head.id) → before ≡ false → id ≡ joined_id (length indexes) k own → first_id (part_at (lefts indexes trees) k) ≡ Some own
      → IsFirstOf indexes trees k first → IsFirstOf indexes trees (k + 1) first
  first_stays k own id None before says not_before is e so = absurd (true≢false (sym says ∙ not_before))
  first_stays k own id (Some head) before says not_before is e so = first_kept k own head e (let le = ltb-false id head.id (sym says ∙ not_before) in omega (arith, le, is)) so

  -- of all parts
  pub first_end : (first : Option Head) → length trees ≡ length indexes → 0 < length indexes → AllRise (map docs_in indexes) → IsFirstOf indexes trees (length indexes) first → IsFirst indexes trees first
  first_end None same some up so =
      none-joined (lefts indexes trees) (subst (λ n. 0 < n) (sym (lefts_long indexes trees same)) some) (rise-given_each (gives_of indexes trees) (map docs_in indexes) up)
      (λ q. by_part q (cases_lt q (length indexes)))
    where
      by_part : (q : ℕ) → (q < length indexes) ⊎ (length indexes ≤ q) → first_id (part_at (lefts indexes trees) q) ≡ None
      by_part q (inl l) = so q l
      by_part q (inr le) = beyond (lefts indexes trees) q (subst (λ n. n ≤ q) (sym (lefts_long indexes trees same)) le)
  first_end (Some head) same some up so = (so.0, so.1, record { first = so.2; least = λ q other f. by_part q other f (cases_lt q (length indexes)) }, so.3)
    where
      by_part : (q other : ℕ) → first_id (part_at (lefts indexes trees) q) ≡ Some other → (q < length indexes) ⊎ (length indexes ≤ q)
          → joined_id (length (lefts indexes trees)) head.part head.own ≤ joined_id (length (lefts indexes trees)) q other
      by_part q other f (inl l) =
          subst (λ n. joined_id n head.part head.own ≤ joined_id n q other) (sym (lefts_long indexes trees same))
          (subst (λ h. h ≤ joined_id (length indexes) q other) so.3 (so.4 q other l f))
      by_part q other f (inr le) =
          let gone : None ≡ Some other = sym (beyond (lefts indexes trees) q (subst (λ n. n ≤ q) (sym (lefts_long indexes trees same)) le)) ∙ f in
          absurd (cc)

-- ---- trees over indexes that take turns

module _ (indexes : List Indexed) (trees : List Tree) (over : AreOver indexes trees) where
  -- a tree for each index
  pub over_long : length trees ≡ length indexes
  over_long = built_long indexes trees over.1 over.2 over.3

  pub over_few : length trees ≤ 16
  over_few = let few = over.0.few in let long = over_long in omega (arith, few, long)

  -- what is left of a part begins as its tree tells
  pub over_head : (k : ℕ) (t : Tree) → k < length trees → t ≡ slice_index_or trees k t → (told : Option ℕ) → ((i : Indexed) → IsTree i t → told ≡ first_id (left i t)) → told ≡ first_id (part_at (lefts indexes trees) k)
  over_head k t l is told tells = let at = left_at indexes trees over.1 over.2 k t over.3 l is in tells at.0 at.1.tree ∙ ap first_id (sym at.2)

  pub over_fits : (k own : ℕ) → k < length trees → first_id (part_at (lefts indexes trees) k) ≡ Some own → (1 ≤ own) × (joined_id (length trees) k own < 2 ^ 32)
  over_fits k own l e =
      let fits = fits_there indexes trees k own over_long over.0 (subst (λ n. k < n) over_long l) e in
      (fits.0, subst (λ n. joined_id n k own < 2 ^ 32) (sym over_long) fits.1)

  pub over_end : (first : Option Head) → IsFirstOf indexes trees (length indexes) first → IsFirst indexes trees first
  over_end first so = let some = over.0.some in first_end indexes trees first over_long (omega (arith, some)) over.0.rise so

-- ---- its weight

first_found : (h : ℕ) (es : List (ℕ × ℕ)) → first_id es ≡ Some h → found h es ≡ Some (first_weight es)
first_found h [] e = absurd (cc)
first_found h (p ∷ es) e = found-here h p es (same p.0 h e)
  where
    same : (a b : ℕ) → Some a ≡ Some b → a ≡ b
    same a b e = cc

some_same : (a b : ℕ) → Some a ≡ Some b → a ≡ b
some_same a b e = cc

-- what is left together begins with the head, and weighs there what its tree weighs
pub head_first : (indexes : List Indexed) (trees : List Tree) (head : Head) → length trees ≡ length indexes → AllRise (map docs_in indexes) → IsFirst indexes trees (Some head) → first_id (joined (lefts indexes trees)) ≡ Some head.id
head_first indexes trees head same up first =
    least-joined (lefts indexes trees) (let l = first.0 in subst (λ m. 0 < m) (sym long) (omega (arith, l))) (rise-given_each (gives_of indexes trees) (map docs_in indexes) up)
    head.part head.own (subst (λ m. head.part < m) (sym long) first.0) first.1 first.2
    ∙ ap (λ m. Some (joined_id m head.part head.own)) long
    ∙ ap Some (sym first.3)
  where
    long : length (lefts indexes trees) ≡ length indexes
    long = lefts_long indexes trees same

pub head_weight : (indexes : List Indexed) (trees : List Tree) (head : Head) (i : Indexed) (t : Tree) → length trees ≡ length indexes → AllRise (map docs_in indexes) → IsFirst indexes trees (Some head)
    → part_at (lefts indexes trees) head.part ≡ left i t → first_weight (left i t) ≡ first_weight (joined (lefts indexes trees))
head_weight indexes trees head i t same up first at =
    some_same (first_weight (left i t)) (first_weight (joined (lefts indexes trees)))
    (sym (first_found head.own (left i t) (ap first_id (sym at) ∙ first.2.first))
    ∙ ap (found head.own) (sym at)
    ∙ sym there
    ∙ first_found head.id (joined (lefts indexes trees)) (head_first indexes trees head same up first))
  where
    within : head.part < length (lefts indexes trees)
    within = subst (λ m. head.part < m) (sym (lefts_long indexes trees same)) first.0

    id_is : head.id ≡ joined_id (length (lefts indexes trees)) head.part head.own
    id_is = first.3 ∙ ap (λ m. joined_id m head.part head.own) (sym (lefts_long indexes trees same))

    there : found head.id (joined (lefts indexes trees)) ≡ found head.own (part_at (lefts indexes trees) head.part)
    there =
        ap (λ h. found h (joined (lefts indexes trees))) id_is
        ∙ found-joined (joined_id (length (lefts indexes trees)) head.part head.own) (lefts indexes trees) (omega arith) (rise-given_each (gives_of indexes trees) (map docs_in indexes) up)
        ∙ (λ j. found (own-joined (length (lefts indexes trees)) head.part head.own within first.1 j) (part_at (lefts indexes trees) (part-joined (length (lefts indexes trees)) head.part head.own within j)))
