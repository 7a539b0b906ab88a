-- Many lists that are added up: the first of them, one that is moved on, and how far they have come.
use Rattle.std.proofs.Common.{◌≡◌, ◌≢◌, ◌≤◌, ◌<◌, ◌+◌, ◌^◌, ◌==◌, ℕ, zero, suc, List, [], ◌∷◌, length, set, slice_index_or, Option, None, Some, if◌then◌else◌, inl, inr, refl, sym, subst, ap, ◌∙◌, arith, le_refl}
use Rattle.std.proofs.lemmas.Bool.{cases_lt}
use Rattle.std.proofs.lemmas.Bool.Decides.{nat_tests}
use Rattle.sk_query.specs.declared.form.Form.{Form}
use Rattle.sk_model.specs.Combining.{either, sum_of_any}
use Rattle.sk_model.specs.Covers.{CoversAt, Covers}
use Rattle.sk_model.proofs.CoverLaws.{covers_itself}
use Rattle.sk_index.specs.Indexed.{Indexed}
use Rattle.sk_decay.specs.Heads.{IsHead, NoneBelow}
use Rattle.sk_buckets.specs.declared.mark.Mark.{Mark}
use Rattle.sk_buckets.specs.Marks.{first_head, weight_at, greatest_of, IsMark, AreMarks}
use Rattle.sk_nodes.specs.declared.top.Top.{Top}
use Rattle.sk_nodes.specs.declared.leaf.Leaf.{Leaf}
use Rattle.sk_nodes.specs.declared.wdfs.Wdfs.{Wdfs}
use Rattle.sk_nodes.specs.Leaves.{leaf_rest, leaf_unread, IsLeafOn}
use Rattle.sk_nodes.specs.Shapes.{Shape, ended, leaf, or_many, Sides, side, sizes_in, top_at, leaf_at, merged}
use Rattle.sk_nodes.specs.Left.{rest, rests, from_on, unread_in, greatest_sum}
use Rattle.sk_nodes.specs.Sound.{IsTop, IsMany, Sound, AreSound, Lands}
use Rattle.sk_nodes.specs.Skips.{WeighsBelow}
use Rattle.sk_nodes.specs.Flat.{rooms_to, AreFlat, AreNests, MayGo}
use Rattle.sk_nodes.specs.Led.{follow_rooms, IsFollowing}
use Rattle.sk_nodes.specs.Accounts.{Spends, Keeps}
use Rattle.sk_nodes.specs.Moved.{Kind, flat_to, plain_to, with_lead, lone_behind, nest_behind, account_of, Accounts, WasSought}
use Rattle.sk_nodes.specs.OrMany.{AreMoved}
use Rattle.sk_nodes.specs.Merge.{ids_left}
use Rattle.sk_nodes.proofs.LeafLaws.{from_cases}
use Rattle.sk_nodes.proofs.NodeLaws.{weight_le}
use Rattle.sk_nodes.proofs.AccountLaws.{keeps_other}
use Rattle.sk_nodes.proofs.BlockLaws.{light_enough}
use Rattle.sk_nodes.proofs.MoveLaws.{accounts_same}
use Rattle.sk_nodes.proofs.OrManyLaws.{or_top, head_first, head_second, head_both, none_head, kept_same, kept_first, moved_first, light_covers, same_side}

-- ---- marks

pub merged_greatest : (ms : List Mark) (ls : List Wdfs) → greatest_sum (merged ms ls) ≡ greatest_of ms
merged_greatest [] ls = refl
merged_greatest (m ∷ ms) [] = let more = merged_greatest ms [] in omega (arith, more)
merged_greatest (m ∷ ms) (l ∷ ls) = let more = merged_greatest ms ls in omega (arith, more)

is_mark : (i : Indexed) (m : Mark) (s : Shape) → IsTop i (top_at m) s → IsMark m
is_mark i m s top = record { within = top.head.within; light = weight_le i (top_at m) s top }

pub mark_at : (i : Indexed) (ms : List Mark) (ls : List Wdfs) → AreSound i (merged ms ls) → (k : ℕ) (d : Mark) → k < length ms → IsMark (slice_index_or ms k d)
mark_at i [] ls sound k d lt = absurd (omega (arith, lt))
mark_at i (m ∷ ms) [] sound zero d lt = is_mark i m ended sound.top
mark_at i (m ∷ ms) [] sound (suc k) d lt = mark_at i ms [] sound.others k d (omega (arith, lt))
mark_at i (m ∷ ms) (l ∷ ls) sound zero d lt = is_mark i m (leaf (leaf_at m l)) sound.top
mark_at i (m ∷ ms) (l ∷ ls) sound (suc k) d lt = mark_at i ms ls sound.others k d (omega (arith, lt))

pub are_marks : (i : Indexed) (ms : List Mark) (ls : List Wdfs) → AreSound i (merged ms ls) → length ms < 2 ^ 32 → greatest_sum (merged ms ls) < 2 ^ 63 → AreMarks ms
are_marks i ms ls sound few fits = record { each = mark_at i ms ls sound; few = few; fits = omega (arith, fits, merged_greatest ms ls) }

-- nothing stands at an id
none_there : (head weight : ℕ) → head < 2 ^ 32 → IsHead head weight (λ id. None) → ⊥
none_there head weight lt h = cc_none (h.at lt)
  where
    cc_none : None ≡ Some weight → ⊥
    cc_none e = cc

-- a list that stands at an id has a leaf
pub has_leaf : (i : Indexed) (ms : List Mark) (ls : List Wdfs) (k : ℕ) → AreSound i (merged ms ls) → k < length ms → ((d : Mark) → (slice_index_or ms k d).head < 2 ^ 32) → k < length ls
has_leaf i [] ls k sound lt there = absurd (omega (arith, lt))
has_leaf i (m ∷ ms) [] zero sound lt there = absurd (none_there m.head m.weight (there m) sound.top.head)
has_leaf i (m ∷ ms) [] (suc k) sound lt there = let more = has_leaf i ms [] k sound.others (omega (arith, lt)) there in absurd (omega (arith, more))
has_leaf i (m ∷ ms) (l ∷ ls) zero sound lt there = omega arith
has_leaf i (m ∷ ms) (l ∷ ls) (suc k) sound lt there = let more = has_leaf i ms ls k sound.others (omega (arith, lt)) there in omega (arith, more)

-- ---- where they begin together

weight_here : (a b w : ℕ) → a ≡ b → (if a == b then w else 0) ≡ w
weight_here a b w e = grind (arith, nat_tests)

weight_other : (a b w : ℕ) → a ≢ b → (if a == b then w else 0) ≡ 0
weight_other a b w e = grind (arith, nat_tests)

weight_before : (id : ℕ) (ms : List Mark) → id < first_head ms → weight_at id ms ≡ 0
weight_before id [] lt = refl
weight_before id (m ∷ ms) lt =
    let one = weight_other m.head id m.weight (λ same. omega (arith, lt, same)) in
    let more = weight_before id ms (omega (arith, lt)) in
    omega (arith, one, more)

head_is : (h k v w : ℕ) (f : ℕ → Option ℕ) → h ≡ k → v ≡ w → IsHead k w f → IsHead h v f
head_is h k v w f e g head = subst (λ n. IsHead n v f) (sym e) (subst (λ x. IsHead k x f) (sym g) head)

-- one list put to the others
first_more : (m : Mark) (ms : List Mark) (f g : ℕ → Option ℕ) → IsHead m.head m.weight f → IsHead (first_head ms) (weight_at (first_head ms) ms) g
    → IsHead (first_head (m ∷ ms)) (weight_at (first_head (m ∷ ms)) (m ∷ ms)) (λ id. either (f id) (g id))
first_more m ms f g one others =
    elim (cases_lt m.head (first_head ms)) as (λ _. IsHead (first_head (m ∷ ms)) (weight_at (first_head (m ∷ ms)) (m ∷ ms)) (λ id. either (f id) (g id))) [
      | inl lt ↦
          let at : first_head (m ∷ ms) ≡ m.head = omega (arith, lt) in
          let weighs : weight_at m.head (m ∷ ms) ≡ m.weight = omega (arith, weight_here m.head m.head m.weight refl, weight_before m.head ms lt) in
          head_is (first_head (m ∷ ms)) m.head (weight_at (first_head (m ∷ ms)) (m ∷ ms)) m.weight (λ id. either (f id) (g id)) at (ap (λ h. weight_at h (m ∷ ms)) at ∙ weighs)
          (head_first f g m.head m.weight (first_head ms) (weight_at (first_head ms) ms) one others lt)
      | inr le ↦
          let at : first_head (m ∷ ms) ≡ first_head ms = omega (arith, le) in
          elim (cases_lt (first_head ms) m.head) as (λ _. IsHead (first_head (m ∷ ms)) (weight_at (first_head (m ∷ ms)) (m ∷ ms)) (λ id. either (f id) (g id))) [
            | inl lt ↦
                let weighs : weight_at (first_head ms) (m ∷ ms) ≡ weight_at (first_head ms) ms = omega (arith, weight_other m.head (first_head ms) m.weight (λ same. omega (arith, lt, same))) in
                head_is (first_head (m ∷ ms)) (first_head ms) (weight_at (first_head (m ∷ ms)) (m ∷ ms)) (weight_at (first_head ms) ms) (λ id. either (f id) (g id)) at (ap (λ h. weight_at h (m ∷ ms)) at ∙ weighs)
                (head_second f g m.head m.weight (first_head ms) (weight_at (first_head ms) ms) one others lt)
            | inr ge ↦
                let same : m.head ≡ first_head ms = omega (arith, le, ge) in
                let weighs : weight_at (first_head ms) (m ∷ ms) ≡ m.weight + weight_at (first_head ms) ms = omega (arith, weight_here m.head (first_head ms) m.weight same) in
                head_is (first_head (m ∷ ms)) m.head (weight_at (first_head (m ∷ ms)) (m ∷ ms)) (m.weight + weight_at (first_head ms) ms) (λ id. either (f id) (g id)) (at ∙ sym same) (ap (λ h. weight_at h (m ∷ ms)) at ∙ weighs)
                (head_both f g m.head m.weight (first_head ms) (weight_at (first_head ms) ms) one others same)
          ]
    ]

pub first_is : (i : Indexed) (ms : List Mark) (ls : List Wdfs) → AreSound i (merged ms ls) → IsHead (first_head ms) (weight_at (first_head ms) ms) (rest i (or_many (merged ms ls)))
first_is i [] ls sound = none_head
first_is i (m ∷ ms) [] sound = first_more m ms (rest i ended) (rest i (or_many (merged ms []))) sound.top.head (first_is i ms [] sound.others)
first_is i (m ∷ ms) (l ∷ ls) sound = first_more m ms (rest i (leaf (leaf_at m l))) (rest i (or_many (merged ms ls))) sound.top.head (first_is i ms ls sound.others)

-- as the queue answers it
pub first_there : (i : Indexed) (ms : List Mark) (ls : List Wdfs) (head weight : ℕ) → AreSound i (merged ms ls) → head ≡ first_head ms → weight ≡ weight_at head ms → IsHead head weight (rest i (or_many (merged ms ls)))
first_there i ms ls head weight sound at weighs =
    head_is head (first_head ms) weight (weight_at (first_head ms) ms) (rest i (or_many (merged ms ls))) at (weighs ∙ ap (λ h. weight_at h ms) at) (first_is i ms ls sound)

pub first_ended : (i : Indexed) (ms : List Mark) (ls : List Wdfs) (head : ℕ) → AreSound i (merged ms ls) → head ≡ first_head ms → 2 ^ 32 ≤ head → IsHead (2 ^ 32) 0 (rest i (or_many (merged ms ls)))
first_ended i ms ls head sound at end =
    let h = first_is i ms ls sound in
    let over : first_head ms ≡ 2 ^ 32 = omega (arith, at, end, h.within) in
    head_is (2 ^ 32) (first_head ms) 0 (weight_at (first_head ms) ms) (rest i (or_many (merged ms ls))) (sym over) (sym (h.ended over)) h

-- the top of all
pub first_top : (i : Indexed) (ms : List Mark) (ls : List Wdfs) (head weight greatest : ℕ) → AreSound i (merged ms ls) → head ≡ first_head ms → weight ≡ weight_at head ms → greatest ≡ greatest_of ms → head < 2 ^ 32
    → IsTop i (record { head = head; weight = weight; greatest = greatest }) (or_many (merged ms ls))
first_top i ms ls head weight greatest sound at weighs much small =
    or_top i (merged ms ls) (record { head = head; weight = weight; greatest = greatest }) sound (first_there i ms ls head weight sound at weighs) (λ lt. omega (arith, much, merged_greatest ms ls)) (λ end. absurd (omega (arith, end, small)))

pub first_gone : (i : Indexed) (ms : List Mark) (ls : List Wdfs) (head : ℕ) → AreSound i (merged ms ls) → head ≡ first_head ms → 2 ^ 32 ≤ head → IsTop i (record { head = 2 ^ 32; weight = 0; greatest = 0 }) (or_many (merged ms ls))
first_gone i ms ls head sound at end =
    or_top i (merged ms ls) (record { head = 2 ^ 32; weight = 0; greatest = 0 }) sound (first_ended i ms ls head sound at end) (λ lt. absurd (omega (arith, lt))) (λ same. refl)

-- ---- one list moved on

pub one_accounts : (i : Indexed) (target before after : ℕ) (m n : Mark) (old : Wdfs) (new : Leaf) → m ≡ n → Accounts i target 0 before after (leaf (leaf_at m old)) (leaf new) → Accounts i target 0 before after (leaf (leaf_at n old)) (leaf new)
one_accounts i target before after m n old new same accounts = subst (λ (k : Mark). Accounts i target 0 before after (leaf (leaf_at k old)) (leaf new)) same accounts

pub one_sought : (i : Indexed) (target before after steps more : ℕ) (m n o : Mark) (old new : Wdfs) → m ≡ n → o.greatest ≤ m.greatest → Lands i target 0 (leaf (leaf_at m old)) (leaf (leaf_at o new)) (top_at o)
    → Spends (leaf_unread i (leaf_at m old)) (leaf_unread i (leaf_at o new)) before after steps more → WasSought i target 0 n.greatest before after steps more (leaf (leaf_at n old)) (leaf (leaf_at o new)) (top_at o)
one_sought i target before after steps more m n o old new same falls lands spends =
    subst (λ (k : Mark). WasSought i target 0 k.greatest before after steps more (leaf (leaf_at k old)) (leaf (leaf_at o new)) (top_at o)) same
    (record { lands = lands; falls = falls; smaller = omega arith; spends = spends })

module _ (i : Indexed) where
  -- the first side was not moved
  moved_other : (target before after : ℕ) (t : Top) (s : Shape) (ss rs : Sides) → IsTop i t s → Sound i s → AreMoved i target before after ss rs → AreMoved i target before after (side t s ss) (side t s rs)
  moved_other target before after t s ss rs top sound moved = record {
    sound = record { top = top; sound = sound; others = moved.sound };
    falls = omega (arith, moved.falls);
    smaller = omega (arith, moved.smaller);
    kept = kept_first i target before before after t s ss t s rs (accounts_same i target 0 before s) moved.kept;
  }

  pub top_of_one : (ms : List Mark) (ls : List Wdfs) (k : ℕ) (m : Mark) (d : Wdfs) → AreSound i (merged ms ls) → k < length ms → k < length ls → IsTop i (top_at (slice_index_or ms k m)) (leaf (leaf_at (slice_index_or ms k m) (slice_index_or ls k d))) × IsLeafOn i (leaf_at (slice_index_or ms k m) (slice_index_or ls k d))
  top_of_one [] ls k m d sound lt less = absurd (omega (arith, lt))
  top_of_one (n ∷ ms) [] k m d sound lt less = absurd (omega (arith, less))
  top_of_one (n ∷ ms) (o ∷ ls) zero m d sound lt less = (sound.top, sound.sound)
  top_of_one (n ∷ ms) (o ∷ ls) (suc k) m d sound lt less = top_of_one ms ls k m d sound.others (omega (arith, lt)) (omega (arith, less))

  pub moved_one : (target before after steps more : ℕ) (ms : List Mark) (ls : List Wdfs) (k : ℕ) (m : Mark) (l d : Wdfs) → AreSound i (merged ms ls) → k < length ms → k < length ls
      → WasSought i target 0 (slice_index_or ms k m).greatest before after steps more (leaf (leaf_at (slice_index_or ms k m) (slice_index_or ls k d))) (leaf (leaf_at m l)) (top_at m) → Accounts i target 0 before after (leaf (leaf_at (slice_index_or ms k m) (slice_index_or ls k d))) (leaf (leaf_at m l))
      → AreMoved i target before after (merged ms ls) (merged (set ms k m) (set ls k l))
  moved_one target before after steps more [] ls k m l d sound lt less sought accounts = absurd (omega (arith, lt))
  moved_one target before after steps more (n ∷ ms) [] k m l d sound lt less sought accounts = absurd (omega (arith, less))
  moved_one target before after steps more (n ∷ ms) (o ∷ ls) zero m l d sound lt less sought accounts =
      moved_first i target before after after steps more (top_at n) (leaf (leaf_at n o)) (merged ms ls) (top_at m) (leaf (leaf_at m l)) (merged ms ls) sought accounts
      (record { sound = sound.others; falls = le_refl (greatest_sum (merged ms ls)); smaller = le_refl (sizes_in (merged ms ls)); kept = kept_same i target after (merged ms ls) })
  moved_one target before after steps more (n ∷ ms) (o ∷ ls) (suc k) m l d sound lt less sought accounts =
      moved_other target before after (top_at n) (leaf (leaf_at n o)) (merged ms ls) (merged (set ms k m) (set ls k l)) sound.top sound.sound
      (moved_one target before after steps more ms ls k m l d sound.others (omega (arith, lt)) (omega (arith, less)) sought accounts)

  pub same_one : (target id : ℕ) (ms : List Mark) (ls : List Wdfs) (k : ℕ) (m : Mark) (l d : Wdfs) → k < length ms → k < length ls
      → Covers (from_on target (rest i (leaf (leaf_at (slice_index_or ms k m) (slice_index_or ls k d))))) (rest i (leaf (leaf_at m l))) 0 → target ≤ id → rests i (merged (set ms k m) (set ls k l)) id ≡ rests i (merged ms ls) id
  same_one target id [] ls k m l d lt less covers le = absurd (omega (arith, lt))
  same_one target id (n ∷ ms) [] k m l d lt less covers le = absurd (omega (arith, less))
  same_one target id (n ∷ ms) (o ∷ ls) zero m l d lt less covers le = same_side i target id (top_at n) (leaf (leaf_at n o)) (merged ms ls) (top_at m) (leaf (leaf_at m l)) (merged ms ls) covers refl le
  same_one target id (n ∷ ms) (o ∷ ls) (suc k) m l d lt less covers le = ap (λ (xs : List (Option ℕ)). rest i (leaf (leaf_at n o)) id ∷ xs) (same_one target id ms ls k m l d (omega (arith, lt)) (omega (arith, less)) covers le)

  unread_one : (ms : List Mark) (ls : List Wdfs) (k : ℕ) (m : Mark) (l d : Wdfs) → k < length ms → k < length ls
      → unread_in i (merged (set ms k m) (set ls k l)) + leaf_unread i (leaf_at (slice_index_or ms k m) (slice_index_or ls k d)) ≡ unread_in i (merged ms ls) + leaf_unread i (leaf_at m l)
  unread_one [] ls k m l d lt less = absurd (omega (arith, lt))
  unread_one (n ∷ ms) [] k m l d lt less = absurd (omega (arith, less))
  unread_one (n ∷ ms) (o ∷ ls) zero m l d lt less = omega arith
  unread_one (n ∷ ms) (o ∷ ls) (suc k) m l d lt less = let more = unread_one ms ls k m l d (omega (arith, lt)) (omega (arith, less)) in omega (arith, more)

  unread_within : (ms : List Mark) (ls : List Wdfs) (k : ℕ) (m : Mark) (d : Wdfs) → k < length ms → k < length ls → leaf_unread i (leaf_at (slice_index_or ms k m) (slice_index_or ls k d)) ≤ unread_in i (merged ms ls)
  unread_within [] ls k m d lt less = absurd (omega (arith, lt))
  unread_within (n ∷ ms) [] k m d lt less = absurd (omega (arith, less))
  unread_within (n ∷ ms) (o ∷ ls) zero m d lt less = omega arith
  unread_within (n ∷ ms) (o ∷ ls) (suc k) m d lt less = let more = unread_within ms ls k m d (omega (arith, lt)) (omega (arith, less)) in omega (arith, more)

  -- as a move takes them, and gives them
  pub top_one : (ms : List Mark) (ls : List Wdfs) (k : ℕ) (m o : Mark) (d : Wdfs) → m ≡ slice_index_or ms k o → AreSound i (merged ms ls) → k < length ms → k < length ls
      → IsTop i (top_at m) (leaf (leaf_at m (slice_index_or ls k d))) × IsLeafOn i (leaf_at m (slice_index_or ls k d))
  top_one ms ls k m o d is sound lt less =
      subst (λ (n : Mark). IsTop i (top_at n) (leaf (leaf_at n (slice_index_or ls k d))) × IsLeafOn i (leaf_at n (slice_index_or ls k d))) (sym is) (top_of_one ms ls k o d sound lt less)

  pub room_one : (ms : List Mark) (ls : List Wdfs) (k spent room : ℕ) (m : Mark) (d : Wdfs) → k < length ms → k < length ls → spent + unread_in i (merged ms ls) < room → spent + leaf_unread i (leaf_at (slice_index_or ms k m) (slice_index_or ls k d)) < room
  room_one ms ls k spent room m d lt less fits = omega (arith, unread_within ms ls k m d lt less, fits)

  pub spends_one : (ms : List Mark) (ls : List Wdfs) (k : ℕ) (m : Mark) (l d : Wdfs) (before after steps more : ℕ) → k < length ms → k < length ls → Spends (leaf_unread i (leaf_at (slice_index_or ms k m) (slice_index_or ls k d))) (leaf_unread i (leaf_at m l)) before after steps more
      → Spends (unread_in i (merged ms ls)) (unread_in i (merged (set ms k m) (set ls k l))) before after steps more
  spends_one ms ls k m l d before after steps more lt less spends = record { paid = omega (arith, unread_one ms ls k m l d lt less, spends.paid); counted = spends.counted; later = spends.later }

pub fewer_left : (ms : List Mark) (k : ℕ) (m : Mark) → k < length ms → (slice_index_or ms k m).head < m.head → m.head ≤ 2 ^ 32 → ids_left (set ms k m) < ids_left ms
fewer_left [] k m lt later within = absurd (omega (arith, lt))
fewer_left (n ∷ ms) zero m lt later within = omega (arith, later, within)
fewer_left (n ∷ ms) (suc k) m lt later within = let more = fewer_left ms k m (omega (arith, lt)) later within in omega (arith, more)

-- ---- how far they have come

-- Nothing that weighs what is needed lies before; from here on all is left as it was. Without a need they are sought from the target alone.
pub record MergeSoFar (i : Indexed) (target need from before after : ℕ) (ss0 ss : Sides) : Type 0 where
  pub sides : IsMany ss (AreSound i ss)
  pub same : (id : ℕ) → from ≤ id → sum_of_any (rests i ss id) ≡ sum_of_any (rests i ss0 id)
  pub light : (id : ℕ) → target ≤ id → id < from → WeighsBelow need (sum_of_any (rests i ss0 id))
  pub begun : target ≤ from
  pub unneeded : need ≡ 0 → from ≡ target
  pub falls : greatest_sum ss ≤ greatest_sum ss0
  pub smaller : sizes_in ss ≤ sizes_in ss0
  pub flat : AreFlat ss0 → AreFlat ss
  pub paid : (point : ℕ) → AreFlat ss0 → from ≤ point + 1 → after + rooms_to i point ss ≤ before + rooms_to i point ss0
  pub nests : AreNests Form.Or ss0 → AreNests Form.Or ss
  pub nests_paid : (head unread : ℕ) → need ≡ 0 → IsFollowing target head → AreNests Form.Or ss0 → after + follow_rooms i head unread ss ≤ before + follow_rooms i head unread ss0

pub merge_begun : (i : Indexed) (target need spent : ℕ) (ss : Sides) → IsMany ss (AreSound i ss) → MergeSoFar i target need target spent spent ss ss
merge_begun i target need spent ss sides = record {
  sides = sides;
  same = λ id up. refl;
  light = λ id up lt. absurd (omega (arith, up, lt));
  begun = le_refl target;
  unneeded = λ none. refl;
  falls = le_refl (greatest_sum ss);
  smaller = le_refl (sizes_in ss);
  flat = λ flat. flat;
  paid = λ point flat near. le_refl (spent + rooms_to i point ss);
  nests = λ nests. nests;
  nests_paid = λ head unread none following nests. le_refl (spent + follow_rooms i head unread ss);
}

module _ (i : Indexed) (target need before : ℕ) (ss0 : Sides) where
  -- what lies before another id weighs too little
  pub merge_past : (from next after : ℕ) (ss : Sides) → MergeSoFar i target need from before after ss0 ss → from ≤ next → (need ≡ 0 → next ≡ from) → ((id : ℕ) → from ≤ id → id < next → WeighsBelow need (sum_of_any (rests i ss id)))
      → MergeSoFar i target need next before after ss0 ss
  merge_past from next after ss far later unneeded light = record {
    sides = far.sides;
    same = λ id up. far.same id (omega (arith, up, later));
    light = λ id up lt. elim (cases_lt id from) as (λ _. WeighsBelow need (sum_of_any (rests i ss0 id))) [
      | inl less ↦ far.light id up less
      | inr le ↦ subst (λ (o : Option ℕ). WeighsBelow need o) (far.same id le) (light id le lt)
    ];
    begun = omega (arith, far.begun, later);
    unneeded = λ none. let same = far.unneeded none in let stays = unneeded none in omega (arith, same, stays);
    falls = far.falls;
    smaller = far.smaller;
    flat = far.flat;
    paid = λ point flat near. far.paid point flat (omega (arith, near, later));
    nests = far.nests;
    nests_paid = far.nests_paid;
  }

  -- where they meet, it weighs too little
  pub merge_on : (from after : ℕ) (ss : Sides) (t : Top) → MergeSoFar i target need from before after ss0 ss → IsTop i t (or_many ss) → from ≤ t.head → t.head < 2 ^ 32 → t.weight < need → MergeSoFar i target need (t.head + 1) before after ss0 ss
  merge_on from after ss t far top le small less = merge_past from (t.head + 1) after ss far (omega (arith, le)) (λ none. absurd (omega (arith, none, less))) light
    where
      light : (id : ℕ) → from ≤ id → id < t.head + 1 → WeighsBelow need (sum_of_any (rests i ss id))
      light id up lt =
          elim (cases_lt id t.head) as (λ _. WeighsBelow need (sum_of_any (rests i ss id))) [
            | inl before ↦ subst (λ (o : Option ℕ). WeighsBelow need o) (sym (top.head.below id before)) tt
            | inr behind ↦
                let same : id ≡ t.head = omega (arith, lt, behind) in
                subst (λ (o : Option ℕ). WeighsBelow need o) (sym (ap (λ n. sum_of_any (rests i ss n)) same ∙ top.head.at small)) less
          ]

  -- one of them moved on
  pub merge_moved : (from between after : ℕ) (ss rs : Sides) → MergeSoFar i target need from before between ss0 ss → AreMoved i from between after ss rs → ((id : ℕ) → from ≤ id → rests i rs id ≡ rests i ss id)
      → MergeSoFar i target need from before after ss0 rs
  merge_moved from between after ss rs far moved same = record {
    sides = record { sides = moved.sound; fits = omega (arith, moved.falls, far.sides.fits) };
    same = λ id up. ap sum_of_any (same id up) ∙ far.same id up;
    light = far.light;
    begun = far.begun;
    unneeded = far.unneeded;
    falls = omega (arith, moved.falls, far.falls);
    smaller = omega (arith, moved.smaller, far.smaller);
    flat = λ flat. moved.kept.flat (far.flat flat);
    paid = λ point flat near.
        let one = far.paid point flat near in
        let more = moved.kept.paid point (far.flat flat) near in
        omega (arith, one, more);
    nests = λ nests. moved.kept.nests (far.nests nests);
    nests_paid = λ head unread none following nests.
        let one = far.nests_paid head unread none following nests in
        let more = moved.kept.nests_paid head unread (subst (λ n. IsFollowing n head) (sym (far.unneeded none)) following) (far.nests nests) in
        omega (arith, one, more);
  }

  -- one of those in the queue moved on, as a move takes them and gives them
  pub merge_moved_one : (from between after : ℕ) (t : Top) (l : Leaf) (ms qs ns : List Mark) (ls ks ps rs : List Wdfs) → qs ≡ ms → ks ≡ ls → rs ≡ ps → MergeSoFar i target need from before between ss0 (side t (leaf l) (merged ms ls))
      → AreMoved i from between after (merged qs ks) (merged ns ps) → ((id : ℕ) → from ≤ id → rests i (merged ns ps) id ≡ rests i (merged qs ks) id) → MergeSoFar i target need from before after ss0 (side t (leaf l) (merged ns rs))
  merge_moved_one from between after t l ms qs ns ls ks ps rs eq ek er far moved same =
      let was : merged qs ks ≡ merged ms ls = λ j. merged (eq j) (ek j) in
      let is : merged ns ps ≡ merged ns rs = λ j. merged ns (sym er j) in
      let sound = far.sides.sides in
      subst (λ (ss : Sides). MergeSoFar i target need from before after ss0 (side t (leaf l) ss)) is
      (merge_moved from between after (side t (leaf l) (merged ms ls)) (side t (leaf l) (merged ns ps)) far
      (moved_other i from between after t (leaf l) (merged ms ls) (merged ns ps) sound.top sound.sound (subst (λ (ss : Sides). AreMoved i from between after ss (merged ns ps)) was moved))
      (λ id up. ap (λ (os : List (Option ℕ)). rest i (leaf l) id ∷ os) (same id up ∙ ap (λ (ss : Sides). rests i ss id) was)))

  -- the longest moved on
  pub merge_reached : (from between after : ℕ) (t u : Top) (l k : Leaf) (ss : Sides) → MergeSoFar i target need from before between ss0 (side t (leaf l) ss) → AreMoved i from between after (side t (leaf l) ss) (side u (leaf k) ss)
      → ((id : ℕ) → from ≤ id → leaf_rest i k id ≡ leaf_rest i l id) → MergeSoFar i target need from before after ss0 (side u (leaf k) ss)
  merge_reached from between after t u l k ss far moved same =
      merge_moved from between after (side t (leaf l) ss) (side u (leaf k) ss) far moved (λ id up. ap (λ (o : Option ℕ). o ∷ rests i ss id) (same id up))

  -- what they give covers what they gave
  merge_covers : (from head after : ℕ) (ss : Sides) → MergeSoFar i target need from before after ss0 ss → NoneBelow head (rest i (or_many ss)) → from ≤ head → Covers (from_on target (rest i (or_many ss0))) (rest i (or_many ss)) need
  merge_covers from head after ss far below le = λ id.
      from_cases target (rest i (or_many ss0)) id (rest i (or_many ss) id) need
      (λ up. elim (cases_lt id from) as (λ _. CoversAt (rest i (or_many ss0) id) (rest i (or_many ss) id) need) [
        | inl lt ↦ light_covers need (rest i (or_many ss0) id) (rest i (or_many ss) id) (below id (omega (arith, lt, le))) (far.light id up lt)
        | inr further ↦ subst (λ (o : Option ℕ). CoversAt (rest i (or_many ss0) id) o need) (sym (far.same id further)) (covers_itself (rest i (or_many ss0) id) need)
      ])
      (λ lt. below id (omega (arith, lt, far.begun, le)))

  -- they stand where they meet
  pub merge_sought : (from after steps more : ℕ) (ss : Sides) (t : Top) → MergeSoFar i target need from before after ss0 ss → IsTop i t (or_many ss) → from ≤ t.head → Spends (unread_in i ss0) (unread_in i ss) before after steps more
      → WasSought i target need (greatest_sum ss0) before after steps more (or_many ss0) (or_many ss) t
  merge_sought from after steps more ss t far top le spends = record {
    lands = record {
      top = top;
      sound = far.sides;
      covers = merge_covers from t.head after ss far top.head.below le;
      reached = omega (arith, far.begun, le);
    };
    falls = elim (cases_lt t.head (2 ^ 32)) as (λ _. t.greatest ≤ greatest_sum ss0) [
      | inl lt ↦ let most = top.summed lt in omega (arith, most, far.falls)
      | inr end ↦ let none = top.closed (omega (arith, end, top.head.within)) in omega (arith, none)
    ];
    smaller = omega (arith, far.smaller);
    spends = spends;
  }

  -- they have not come behind a point to which the node may go
  merge_near : (from after point : ℕ) (ss : Sides) → from ≤ 2 ^ 32 → MergeSoFar i target need from before after ss0 ss → MayGo point target need (sum_of_any (rests i ss0 point)) → from ≤ point + 1
  merge_near from after point ss small far (inl last) = omega (arith, small, last)
  merge_near from after point ss small far (inr (inl h)) = let same = far.unneeded h.0 in omega (arith, same, h.1)
  merge_near from after point ss small far (inr (inr h)) =
      elim (cases_lt point from) as (λ _. from ≤ point + 1) [
        | inl lt ↦ absurd (light_enough need (sum_of_any (rests i ss0 point)) (far.light point h.0 lt) h.1)
        | inr le ↦ omega (arith, le)
      ]

  -- the account of a node of them
  pub merge_accounts : (from after : ℕ) (ss : Sides) → from ≤ 2 ^ 32 → MergeSoFar i target need from before after ss0 ss → Accounts i target need before after (or_many ss0) (or_many ss)
  merge_accounts from after ss small far = record { keeps = by; advances = λ led. absurd led }
    where
      by : (kind : Kind) → Keeps (account_of i need kind) target before after (or_many ss0) (or_many ss)
      by (flat_to point) = record { kind = λ h. far.flat h; paid = λ h may. far.paid point h (merge_near from after point ss small far may) }
      by (plain_to point) = keeps_other (account_of i need (plain_to point)) target before after (or_many ss0) (or_many ss) (λ h. h)
      by with_lead = keeps_other (account_of i need with_lead) target before after (or_many ss0) (or_many ss) (λ h. h)
      by (lone_behind head unread) = keeps_other (account_of i need (lone_behind head unread)) target before after (or_many ss0) (or_many ss) (λ h. h)
      by (nest_behind head unread) = record { kind = λ h. (h.0, (refl, far.nests h.1.1)); paid = λ h following. far.nests_paid head unread h.0 following h.1.1 }
