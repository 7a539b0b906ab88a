-- Groups as the map holds them, and hits as matches.
use Rattle.std.proofs.Common.{◌≡◌, ◌≢◌, ◌≤◌, ◌+◌, ℕ, zero, suc, Bool, true, false, cond, List, [], ◌∷◌, length, take, drop, bytes_eq, All, Option, Some, None, refl, sym, ap, ◌∙◌, subst, arith, true≢false}
use Rattle.std.specs.Prelude.{is_some, unwrap_or, option_to_list, IfOk, IfErr}
use Rattle.std.specs.declared.result.Result.{Result}
use Rattle.std.specs.declared.result.Result.TheVariants.{Ok, Err}
use Rattle.std.specs.Global.{Global}
use Rattle.std.specs.declared.vec.Vec.{Vec}
use Rattle.std.specs.List.{AllByRecursion, IsAmong}
use Rattle.std.specs.Ordering.{match_ordering, nat_cmp, ordering_reverse, is_eq, is_lt}
use Rattle.std.specs.declared.cmp.Ordering.{Ordering}
use Rattle.std.specs.declared.cmp.Ordering.TheVariants.{Less, Equal, Greater}
use Rattle.std.specs.Cmp.Lexicographic.{slice_cmp, bytes_decides, nat_list_cmp_total}
use Rattle.std.specs.BTreeMap.{insert_entry, is_at}
use Rattle.std.specs.Map.{lookup, set_value, values_of}
use Rattle.std.proofs.lemmas.List.{take-map}
use Rattle.std.proofs.lemmas.List.Elements.{All-from_recursion, recursion_from_All}
use Rattle.std.proofs.lemmas.Map.Lookups.{exact_bytes}
use Rattle.std.proofs.lemmas.Map.Steps.{set_value_same}
use Rattle.std.proofs.lemmas.Map.Views.{All-values-insert_entry, All-values-set_value}
use Rattle.sk_base.proofs.Tests.{same_tests}
use Rattle.sk_base.specs.declared.rank.Rank.{Rank}
use Rattle.sk_base.specs.declared.rank.Order.{Order}
use Rattle.sk_model.specs.Page.{place}
use Rattle.sk_heap.specs.declared.hit.Hit.{Hit}
use Rattle.sk_heap.specs.Held.{Held, placed_hit, ranks_of}
use Rattle.sk_heap.proofs.HeapLaws.{ranks_placed}
use Rattle.sk_collapse.specs.declared.group.KeyGroup.{KeyGroup}
use Rattle.sk_collapse.specs.Collapsed.{Group, group_of}
use Rattle.sk_collapse.specs.Groups.{group_in, groups_of, fallen, group_with, AreAlike}

-- ---- what holds of an outcome

pub if_ok : {A B : Type 0} (r : Result A B) (P Q : A → Type 0) → ((a : A) → P a → Q a) → IfOk r P → IfOk r Q
if_ok (Ok a) P Q f h = f a h
if_ok (Err b) P Q f h = tt

pub if_err : {A B : Type 0} (r : Result A B) (P Q : B → Type 0) → ((b : B) → P b → Q b) → IfErr r P → IfErr r Q
if_err (Ok a) P Q f h = tt
if_err (Err b) P Q f h = f b h

-- ---- hits as matches

pub ranks_drop : (n : ℕ) (hits : List Hit) → ranks_of (drop n hits) ≡ drop n (ranks_of hits)
ranks_drop zero hits = refl
ranks_drop (suc n) [] = refl
ranks_drop (suc n) (h ∷ t) = ranks_drop n t

length-ranks : (hits : List Hit) → length (ranks_of hits) ≡ length hits
length-ranks [] = refl
length-ranks (h ∷ t) = ap suc (length-ranks t)

-- how many fall out
pub none_out : (out : Option Hit) → is_some out ≡ false → length (ranks_of (option_to_list out)) ≡ 0
none_out (Some h) e = absurd (true≢false e)
none_out None e = refl

pub one_out : (out : Option Hit) → is_some out ≡ true → length (ranks_of (option_to_list out)) ≡ 1
one_out (Some h) e = refl
one_out None e = absurd (true≢false (sym e))

-- what a heap holds then
pub ranks_held : (order : Order) (most : ℕ) (hit : Hit) (hits : List Hit) → ranks_of (take most (placed_hit order hit hits)) ≡ take most (place order hit.rank (ranks_of hits))
ranks_held order most hit hits = sym (take-map (λ (h : Hit). h.rank) most (placed_hit order hit hits)) ∙ ap (take most) (ranks_placed order hit hits)

-- and what falls out of it
pub ranks_gone : (order : Order) (most : ℕ) (hit : Hit) (hits : List Hit) → ranks_of (drop most (placed_hit order hit hits)) ≡ fallen order most hit.rank (ranks_of hits)
ranks_gone order most hit hits = ranks_drop most (placed_hit order hit hits) ∙ ap (drop most) (ranks_placed order hit hits)

pub hits_differ : (id : ℕ) (hits : List Hit) → All (λ r. r.id ≢ id) (ranks_of hits) → All (λ h. h.rank.id ≢ id) hits
hits_differ id hits all = All-from_recursion (λ (h : Hit). h.rank.id ≢ id) hits (each hits (recursion_from_All (λ (r : Rank). r.id ≢ id) (ranks_of hits) all))
  where
    each : (hits : List Hit) → AllByRecursion (λ (r : Rank). r.id ≢ id) (ranks_of hits) → AllByRecursion (λ (h : Hit). h.rank.id ≢ id) hits
    each [] a = tt
    each (h ∷ t) a = (a.0, each t a.1)

one_gone : (out : Option Hit) → is_some out ≡ true → length (option_to_list out) ≡ 1
one_gone (Some h) e = refl
one_gone None e = absurd (true≢false (sym e))

none_gone : (out : Option Hit) → is_some out ≡ false → length (option_to_list out) ≡ 0
none_gone (Some h) e = absurd (true≢false e)
none_gone None e = refl

-- a group before, with room, and after a hit was offered
module _ (before grown after : Held) (hit : Hit) (same : (grown.order ≡ before.order) × (grown.most ≡ before.most) × (grown.hits ≡ before.hits)) where
  pub heap_gone : (out : Option Hit) → option_to_list out ≡ drop grown.most (placed_hit grown.order hit grown.hits)
      → ranks_of (option_to_list out) ≡ fallen before.order before.most hit.rank (ranks_of before.hits)
  heap_gone out e =
      ap ranks_of (e ∙ (λ i. drop (same.1 i) (placed_hit (same.0 i) hit (same.2 i)))) ∙ ranks_gone before.order before.most hit before.hits

  pub heap_group : (out : Option Hit) (dropped more : ℕ) → option_to_list out ≡ drop grown.most (placed_hit grown.order hit grown.hits)
      → after ≡ record grown { hits = take grown.most (placed_hit grown.order hit grown.hits) } → more ≡ dropped + length (option_to_list out)
      → group_in (record { best = after; dropped = more }) ≡ group_with before.order before.most hit.rank (group_in (record { best = before; dropped = dropped }))
  heap_group out dropped more e held count =
      let kept : ranks_of after.hits ≡ take before.most (place before.order hit.rank (ranks_of before.hits)) =
      ap (λ (h : Held). ranks_of h.hits) held ∙ (λ i. ranks_of (take (same.1 i) (placed_hit (same.0 i) hit (same.2 i)))) ∙ ranks_held before.order before.most hit before.hits in
      let count_is : more ≡ dropped + length (fallen before.order before.most hit.rank (ranks_of before.hits)) =
      count ∙ ap (λ n. dropped + n) (sym (length-ranks (option_to_list out)) ∙ ap (λ (ys : List Rank). length ys) (heap_gone out e)) in
      λ i. record { kept = kept i; dropped = count_is i }

  pub heap_one : (out : Option Hit) (dropped : ℕ) → option_to_list out ≡ drop grown.most (placed_hit grown.order hit grown.hits)
      → after ≡ record grown { hits = take grown.most (placed_hit grown.order hit grown.hits) } → is_some out ≡ true
      → group_in (record { best = after; dropped = dropped + 1 }) ≡ group_with before.order before.most hit.rank (group_in (record { best = before; dropped = dropped }))
  heap_one out dropped e held is = heap_group out dropped (dropped + 1) e held (ap (λ n. dropped + n) (sym (one_gone out is)))

  pub heap_none : (out : Option Hit) (dropped : ℕ) → option_to_list out ≡ drop grown.most (placed_hit grown.order hit grown.hits)
      → after ≡ record grown { hits = take grown.most (placed_hit grown.order hit grown.hits) } → is_some out ≡ false
      → group_in (record { best = after; dropped = dropped }) ≡ group_with before.order before.most hit.rank (group_in (record { best = before; dropped = dropped }))
  heap_none out dropped e held is = heap_group out dropped dropped e held (let none : length (option_to_list out) ≡ 0 = none_gone out is in omega (arith, none))

-- ---- the entries of the map

abbrev pub Entry : Type 0
Entry = Vec ℕ Global × KeyGroup

-- the test of a look-up
abbrev pub at : List ℕ → Vec ℕ Global → Bool
at k = is_at (λ j. slice_cmp nat_cmp k j.items)

-- no group
abbrev pub no_group : Group
no_group = record { kept = []; dropped = 0 }

equal_is : (r : Ordering) → is_eq r ≡ true → r ≡ Equal
equal_is Less e = absurd (true≢false (sym e))
equal_is Equal e = refl
equal_is Greater e = absurd (true≢false (sym e))

own_reverse : (r : Ordering) → r ≡ ordering_reverse r → is_eq r ≡ true
own_reverse Less e = absurd (true≢false (ap is_lt e))
own_reverse Equal e = refl
own_reverse Greater e = absurd (true≢false (sym (ap is_lt e)))

equal_keys : (k j : List ℕ) → is_eq (slice_cmp nat_cmp k j) ≡ bytes_eq j k
equal_keys k j =
    same_tests (is_eq (slice_cmp nat_cmp k j)) (bytes_eq j k)
    (λ e. (bytes_decides j k).1 (sym (exact_bytes k j (equal_is (slice_cmp nat_cmp k j) e))))
    (λ e. subst (λ i. is_eq (slice_cmp nat_cmp k i) ≡ true) (sym ((bytes_decides j k).0 e)) (own_reverse (slice_cmp nat_cmp k k) (nat_list_cmp_total.antisymm k k)))

group_yes : (k : List ℕ) (e : Entry) (es : List Entry) → at k e.0 ≡ true → group_of k (groups_of (e ∷ es)) ≡ group_in e.1
group_yes k e es is = ap (λ b. cond b (group_in e.1) (group_of k (groups_of es))) (sym (equal_keys k e.0.items) ∙ is)

group_no : (k : List ℕ) (e : Entry) (es : List Entry) → at k e.0 ≡ false → group_of k (groups_of (e ∷ es)) ≡ group_of k (groups_of es)
group_no k e es is = ap (λ b. cond b (group_in e.1) (group_of k (groups_of es))) (sym (equal_keys k e.0.items) ∙ is)

group_next : (k : List ℕ) (e : Entry) (es : List Entry) → bytes_eq e.0.items k ≡ false → group_of k (groups_of (e ∷ es)) ≡ group_of k (groups_of es)
group_next k e es is = ap (λ b. cond b (group_in e.1) (group_of k (groups_of es))) is

some_none : {X : Type 0} (x : X) → Some x ≡ None → ⊥
some_none x h = true≢false (ap is_some h)

found_step : (k : List ℕ) (g : KeyGroup) (e : Entry) (es : List Entry) (b : Bool) → at k e.0 ≡ b → cond b (Some e.1) (lookup (at k) es) ≡ Some g
    → (lookup (at k) es ≡ Some g → group_of k (groups_of es) ≡ group_in g) → group_of k (groups_of (e ∷ es)) ≡ group_in g
found_step k g e es true is found more = group_yes k e es is ∙ ap (λ o. group_in (unwrap_or o g)) found
found_step k g e es false is found more = group_no k e es is ∙ more found

-- a key that is there, and one that is not
pub group_found : (k : List ℕ) (g : KeyGroup) (es : List Entry) → lookup (at k) es ≡ Some g → group_of k (groups_of es) ≡ group_in g
group_found k g [] found = absurd (some_none g (sym found))
group_found k g (e ∷ es) found = found_step k g e es (at k e.0) refl found (group_found k g es)

none_step : (k : List ℕ) (e : Entry) (es : List Entry) (b : Bool) → at k e.0 ≡ b → cond b (Some e.1) (lookup (at k) es) ≡ None
    → (lookup (at k) es ≡ None → group_of k (groups_of es) ≡ no_group) → group_of k (groups_of (e ∷ es)) ≡ no_group
none_step k e es true is none more = absurd (some_none e.1 none)
none_step k e es false is none more = group_no k e es is ∙ more none

pub found_differ : (k : List ℕ) (g : KeyGroup) (es : List Entry) (id : ℕ) → lookup (at k) es ≡ Some g → All (λ r. r.id ≢ id) (group_of k (groups_of es)).kept → All (λ r. r.id ≢ id) (group_in g).kept
found_differ k g es id found all = subst (λ (group : Group). All (λ r. r.id ≢ id) group.kept) (group_found k g es found) all

pub group_none : (k : List ℕ) (es : List Entry) → lookup (at k) es ≡ None → group_of k (groups_of es) ≡ no_group
group_none k [] none = refl
group_none k (e ∷ es) none = none_step k e es (at k e.0) refl none (group_none k es)

-- ---- a group is changed

set_step : (k : List ℕ) (g w : KeyGroup) (e : Entry) (es : List Entry) (b : Bool) → at k e.0 ≡ b → cond b (Some e.1) (lookup (at k) es) ≡ Some g
    → (lookup (at k) es ≡ Some g → group_of k (groups_of (set_value (at k) es w)) ≡ group_in w)
    → group_of k (groups_of (cond b ((e.0, w) ∷ es) (e ∷ set_value (at k) es w))) ≡ group_in w
set_step k g w e es true is found more = group_yes k (e.0, w) es is
set_step k g w e es false is found more = group_no k e (set_value (at k) es w) is ∙ more found

pub set_here : (k : List ℕ) (g w : KeyGroup) (es : List Entry) → lookup (at k) es ≡ Some g → group_of k (groups_of (set_value (at k) es w)) ≡ group_in w
set_here k g w [] found = absurd (some_none g (sym found))
set_here k g w (e ∷ es) found = set_step k g w e es (at k e.0) refl found (set_here k g w es)

-- an entry of k is none of j
apart_keys : (k j : List ℕ) (e : Entry) → bytes_eq k j ≡ false → at k e.0 ≡ true → bytes_eq e.0.items j ≡ false
apart_keys k j e apart is = ap (λ (i : List ℕ). bytes_eq i j) ((bytes_decides e.0.items k).0 (sym (equal_keys k e.0.items) ∙ is)) ∙ apart

other_step : (j : List ℕ) (e : Entry) (xs ys : List Entry) → group_of j (groups_of xs) ≡ group_of j (groups_of ys) → group_of j (groups_of (e ∷ xs)) ≡ group_of j (groups_of (e ∷ ys))
other_step j e xs ys same = ap (λ g. cond (bytes_eq e.0.items j) (group_in e.1) g) same

pub set_other : (k j : List ℕ) (w : KeyGroup) (es : List Entry) → bytes_eq k j ≡ false → group_of j (groups_of (set_value (at k) es w)) ≡ group_of j (groups_of es)
set_other k j w [] apart = refl
set_other k j w (e ∷ es) apart =
    elim (at k e.0) as (λ b. at k e.0 ≡ b → group_of j (groups_of (cond b ((e.0, w) ∷ es) (e ∷ set_value (at k) es w))) ≡ group_of j (groups_of (e ∷ es))) [
      | true ↦ λ is. let far = apart_keys k j e apart is in group_next j (e.0, w) es far ∙ sym (group_next j e es far)
      | false ↦ λ is. other_step j e (set_value (at k) es w) es (set_other k j w es apart)
    ] refl

-- ---- a group is put in

abbrev pub cmp : Vec ℕ Global → Vec ℕ Global → Ordering
cmp x y = slice_cmp nat_cmp x.items y.items

put_step : (k : Vec ℕ Global) (w : KeyGroup) (e : Entry) (es : List Entry) (r : Ordering) → cmp k e.0 ≡ r
    → group_of k.items (groups_of (insert_entry cmp es k w)) ≡ group_in w
    → group_of k.items (groups_of (match_ordering r ((k, w) ∷ e ∷ es) ((e.0, w) ∷ es) (e ∷ insert_entry cmp es k w))) ≡ group_in w
put_step k w e es Less is more = group_yes k.items (k, w) (e ∷ es) (own_reverse (slice_cmp nat_cmp k.items k.items) (nat_list_cmp_total.antisymm k.items k.items))
put_step k w e es Equal is more = group_yes k.items (e.0, w) es (ap is_eq is)
put_step k w e es Greater is more = group_no k.items e (insert_entry cmp es k w) (ap is_eq is) ∙ more

pub put_here : (k : Vec ℕ Global) (w : KeyGroup) (es : List Entry) → group_of k.items (groups_of (insert_entry cmp es k w)) ≡ group_in w
put_here k w [] = group_yes k.items (k, w) [] (own_reverse (slice_cmp nat_cmp k.items k.items) (nat_list_cmp_total.antisymm k.items k.items))
put_here k w (e ∷ es) = put_step k w e es (cmp k e.0) refl (put_here k w es)

put_other_step : (k : Vec ℕ Global) (j : List ℕ) (w : KeyGroup) (e : Entry) (es : List Entry) (r : Ordering) → cmp k e.0 ≡ r → bytes_eq k.items j ≡ false
    → group_of j (groups_of (insert_entry cmp es k w)) ≡ group_of j (groups_of es)
    → group_of j (groups_of (match_ordering r ((k, w) ∷ e ∷ es) ((e.0, w) ∷ es) (e ∷ insert_entry cmp es k w))) ≡ group_of j (groups_of (e ∷ es))
put_other_step k j w e es Less is apart more = group_next j (k, w) (e ∷ es) apart
put_other_step k j w e es Equal is apart more = let far = apart_keys k.items j e apart (ap is_eq is) in group_next j (e.0, w) es far ∙ sym (group_next j e es far)
put_other_step k j w e es Greater is apart more = other_step j e (insert_entry cmp es k w) es more

pub put_other : (k : Vec ℕ Global) (j : List ℕ) (w : KeyGroup) (es : List Entry) → bytes_eq k.items j ≡ false → group_of j (groups_of (insert_entry cmp es k w)) ≡ group_of j (groups_of es)
put_other k j w [] apart = group_next j (k, w) [] apart
put_other k j w (e ∷ es) apart = put_other_step k j w e es (cmp k e.0) refl apart (put_other k j w es apart)

-- ---- a call that puts a hit into the group of its key

-- the group is one of them: all that holds of each holds of it
one_of : (P : KeyGroup → Type 0) (g : KeyGroup) (gs : List KeyGroup) → IsAmong gs g → All P gs → P g
one_of P g gs there all = subst P (sym there.1.1) (all there.0 g there.1.0)

pub group_alike : (order : Order) (most seen : ℕ) (g : KeyGroup) (gs : List KeyGroup) → IsAmong gs g → AreAlike order most seen gs → (g.best.order ≡ order) × (g.best.most ≡ most)
group_alike order most seen g gs there all =
    let one = one_of (λ (group : KeyGroup). (group.best.order ≡ order) × (group.best.most ≡ most) × (group.dropped ≤ seen)) g gs there all in (one.0, one.1)

more_seen : (order : Order) (most seen : ℕ) (gs : List KeyGroup) → AreAlike order most seen gs → AreAlike order most (seen + 1) gs
more_seen order most seen gs all k d l = let one = all k d l in (one.0, one.1, omega (arith, one.2))

module _ (order : Order) (most : ℕ) (x : Rank) (bs : List ℕ) (old new : List Entry) where
  -- the group was there
  module _ (g w : KeyGroup) (there : lookup (at bs) old ≡ Some g) (alike : (g.best.order ≡ order) × (g.best.most ≡ most)) where
    pub known_here : new ≡ set_value (at bs) old w → group_in w ≡ group_with g.best.order g.best.most x (group_in g)
        → group_of bs (groups_of new) ≡ group_with order most x (group_of bs (groups_of old))
    known_here e held =
        ap (λ (es : List Entry). group_of bs (groups_of es)) e ∙ set_here bs g w old there ∙ held
        ∙ (λ i. group_with (alike.0 i) (alike.1 i) x (group_in g)) ∙ ap (group_with order most x) (sym (group_found bs g old there))

    pub known_others : new ≡ set_value (at bs) old w → (k : List ℕ) → bytes_eq bs k ≡ false → group_of k (groups_of new) ≡ group_of k (groups_of old)
    known_others e k apart = ap (λ (es : List Entry). group_of k (groups_of es)) e ∙ set_other bs k w old apart

    pub known_alike : new ≡ set_value (at bs) old w → (w.best.order ≡ g.best.order) × (w.best.most ≡ g.best.most) → w.dropped ≤ g.dropped + 1 → IsAmong (values_of old) g
        → (seen : ℕ) → AreAlike order most seen (values_of old) → AreAlike order most (seen + 1) (values_of new)
    known_alike e same few member seen all =
        let one = one_of (λ (group : KeyGroup). (group.best.order ≡ order) × (group.best.most ≡ most) × (group.dropped ≤ seen)) g (values_of old) member all in
        subst (λ (es : List Entry). AreAlike order most (seen + 1) (values_of es)) (sym e)
        (All-values-set_value (at bs) (λ (group : KeyGroup). (group.best.order ≡ order) × (group.best.most ≡ most) × (group.dropped ≤ seen + 1)) old w
        (more_seen order most seen (values_of old) all)
        (same.0 ∙ alike.0, same.1 ∙ alike.1, omega (arith, few, one.2)))

    pub known_gone : (out : List Rank) → out ≡ fallen g.best.order g.best.most x (group_in g).kept → out ≡ fallen order most x (group_of bs (groups_of old)).kept
    known_gone out e =
        e ∙ (λ i. fallen (alike.0 i) (alike.1 i) x (group_in g).kept) ∙ ap (λ (group : Group). fallen order most x group.kept) (sym (group_found bs g old there))

    pub known_same : new ≡ set_value (at bs) old w → w ≡ g → new ≡ old
    known_same e same = e ∙ ap (set_value (at bs) old) same ∙ set_value_same (at bs) old g there

  -- it was not
  module _ (k : Vec ℕ Global) (g w : KeyGroup) (none : lookup (at bs) old ≡ None) (key : k.items ≡ bs) (alike : (g.best.order ≡ order) × (g.best.most ≡ most)) (empty : group_in g ≡ no_group) where
    pub new_here : new ≡ insert_entry cmp old k w → group_in w ≡ group_with g.best.order g.best.most x (group_in g)
        → group_of bs (groups_of new) ≡ group_with order most x (group_of bs (groups_of old))
    new_here e held =
        ap (λ (es : List Entry). group_of bs (groups_of es)) e
        ∙ subst (λ b. group_of b (groups_of (insert_entry cmp old k w)) ≡ group_in w) key (put_here k w old) ∙ held
        ∙ (λ i. group_with (alike.0 i) (alike.1 i) x (empty i)) ∙ ap (group_with order most x) (sym (group_none bs old none))

    pub new_others : new ≡ insert_entry cmp old k w → (j : List ℕ) → bytes_eq bs j ≡ false → group_of j (groups_of new) ≡ group_of j (groups_of old)
    new_others e j apart = ap (λ (es : List Entry). group_of j (groups_of es)) e ∙ put_other k j w old (ap (λ b. bytes_eq b j) key ∙ apart)

    pub new_alike : new ≡ insert_entry cmp old k w → (w.best.order ≡ g.best.order) × (w.best.most ≡ g.best.most) → w.dropped ≤ g.dropped + 1
        → (seen : ℕ) → AreAlike order most seen (values_of old) → AreAlike order most (seen + 1) (values_of new)
    new_alike e same few seen all =
        let zero : g.dropped ≡ 0 = ap (λ (group : Group). group.dropped) empty in
        subst (λ (es : List Entry). AreAlike order most (seen + 1) (values_of es)) (sym e)
        (All-values-insert_entry cmp k w (λ (group : KeyGroup). (group.best.order ≡ order) × (group.best.most ≡ most) × (group.dropped ≤ seen + 1)) old
        (more_seen order most seen (values_of old) all)
        (same.0 ∙ alike.0, same.1 ∙ alike.1, omega (arith, few, zero)))

    pub new_gone : (out : List Rank) → out ≡ fallen g.best.order g.best.most x (group_in g).kept → out ≡ fallen order most x (group_of bs (groups_of old)).kept
    new_gone out e =
        e ∙ (λ i. fallen (alike.0 i) (alike.1 i) x (empty i).kept) ∙ ap (λ (group : Group). fallen order most x group.kept) (sym (group_none bs old none))
