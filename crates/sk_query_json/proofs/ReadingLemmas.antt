-- The members and items that a query is read from.
use Rattle.std.proofs.Common.{◌≡◌, ◌≢◌, ◌<◌, ◌≤◌, ◌+◌, ℕ, suc, List, [], ◌∷◌, ◌++◌, length, drop, get_or, Option, Some, None, String, Global, string_bytes, refl, sym, ap, ◌∙◌, arith, drop-cons, add-one}
use Rattle.std.specs.Option.{option_map, option_and_then}
use Rattle.std.proofs.lemmas.List.{drop_all}
use Rattle.std.specs.List.{IsAmong, slice_get}
use Rattle.std.specs.Map.{values_of}
use Rattle.serde_json.specs.Data.{array, member, no_members}
use Rattle.serde_json.specs.View.{view, items_view, members_view}
use Rattle.serde_json.specs.declared.value.Value.{Value}
use Rattle.sk_query.specs.declared.query.Query.{Query}
use Rattle.sk_query.specs.Trees.{Limit, Tree, scale, range, Trees, no_trees, tree, query_view, queries_view}
use Rattle.sk_query.specs.Fits.{is_factor, is_slot}
use Rattle.sk_query_json.specs.Reading.{number_if, read_tree, read_member, scaled, read_trees, limit_of_value, range_of, filled_named, leaf_named}

abbrev pub Entry : Type 0
Entry = String Global × Value

pub many_members : (es : List Entry) → (length es ≢ 1) → read_member (members_view es) ≡ None
many_members [] h = refl
many_members (e ∷ []) h = absurd (h (omega arith))
many_members (e ∷ f ∷ es) h = refl

pub one_member : (es : List Entry) (k : String Global) (v : Value) → length es ≡ 1 → slice_get es 0 ≡ Some (k, v) → members_view es ≡ member (string_bytes k) (view v) no_members
one_member [] k v e h = cc
one_member (x ∷ []) k v e h = same x (k, v) (is x (k, v) h)
  where
    is : (p q : Entry) → Some p ≡ Some q → p ≡ q
    is p q e = cc

    same : (p q : Entry) → p ≡ q → member (string_bytes p.0) (view p.1) no_members ≡ member (string_bytes q.0) (view q.1) no_members
    same p q e = ap (λ (r : Entry). member (string_bytes r.0) (view r.1) no_members) e
one_member (x ∷ y ∷ es) k v e h = absurd (omega arith)

pub first_inside : (es : List Entry) (k : String Global) (v : Value) → slice_get es 0 ≡ Some (k, v) → IsAmong (values_of es) v
first_inside [] k v h = cc
first_inside (x ∷ es) k v h = (0, (omega arith, ap (λ o. pick v o) (sym h)))
  where
    pick : Value → Option Entry → Value
    pick d None = d
    pick d (Some p) = p.1

pub not_two : (vs : List Value) → (length vs ≢ 2) → scaled (items_view vs) ≡ None
not_two [] h = refl
not_two (v ∷ []) h = refl
not_two (v ∷ w ∷ []) h = absurd (h refl)
not_two (v ∷ w ∷ x ∷ vs) h = refl

pub not_three : (vs : List Value) → (length vs ≢ 3) → range_of (items_view vs) ≡ None
not_three [] h = refl
not_three (v ∷ []) h = refl
not_three (v ∷ w ∷ []) h = refl
not_three (v ∷ w ∷ x ∷ []) h = absurd (h refl)
not_three (v ∷ w ∷ x ∷ y ∷ vs) h = refl

-- a factor and a value
abbrev pub scaled_by : Option ℕ → Option Tree → Option Tree
scaled_by f t = option_and_then (λ factor. option_map (scale factor) t) f

pub two_items : (vs : List Value) (a b : Value) → length vs ≡ 2 → a ≡ get_or vs 0 a → b ≡ get_or vs 1 b
    → scaled (items_view vs) ≡ scaled_by (number_if is_factor (view a)) (read_tree (view b))
two_items [] a b e f g = absurd (omega arith)
two_items (v ∷ []) a b e f g = absurd (omega arith)
two_items (v ∷ w ∷ []) a b e f g =
    ap (λ x. scaled_by (number_if is_factor (view x)) (read_tree (view w))) (sym f)
    ∙ ap (λ x. scaled_by (number_if is_factor (view a)) (read_tree (view x))) (sym g)
two_items (v ∷ w ∷ x ∷ vs) a b e f g = absurd (omega arith)

pub scaled_none : (f : Option ℕ) (t : Option Tree) → t ≡ None → scaled_by f t ≡ None
scaled_none None t e = refl
scaled_none (Some n) t e = ap (option_map (scale n)) e

-- a slot and two ends
abbrev pub ranged_by : Option ℕ → Option Limit → Option Limit → Option Tree
ranged_by slot lo hi = option_and_then (λ s. option_and_then (λ from. option_map (range s from) hi) lo) slot

pub three_items : (vs : List Value) (a b c : Value) → length vs ≡ 3 → a ≡ get_or vs 0 a → b ≡ get_or vs 1 b → c ≡ get_or vs 2 c
    → range_of (items_view vs) ≡ ranged_by (number_if is_slot (view a)) (limit_of_value (view b)) (limit_of_value (view c))
three_items [] a b c e f g h = absurd (omega arith)
three_items (v ∷ []) a b c e f g h = absurd (omega arith)
three_items (v ∷ w ∷ []) a b c e f g h = absurd (omega arith)
three_items (v ∷ w ∷ x ∷ []) a b c e f g h =
    ap (λ y. ranged_by (number_if is_slot (view y)) (limit_of_value (view w)) (limit_of_value (view x))) (sym f)
    ∙ ap (λ y. ranged_by (number_if is_slot (view a)) (limit_of_value (view y)) (limit_of_value (view x))) (sym g)
    ∙ ap (λ y. ranged_by (number_if is_slot (view a)) (limit_of_value (view b)) (limit_of_value (view y))) (sym h)
three_items (v ∷ w ∷ x ∷ y ∷ vs) a b c e f g h = absurd (omega arith)

-- an array that is not empty is read by its name
pub filled_items : (name : List ℕ) (vs : List Value) → 1 ≤ length vs → leaf_named name (array (items_view vs)) ≡ filled_named name (items_view vs)
filled_items name [] l = absurd (omega arith)
filled_items name (v ∷ vs) l = refl

-- the trees of both, one after the other
abbrev pub trees_append : Trees → Trees → Trees
trees_append no_trees us = us
trees_append (tree t ts) us = tree t (trees_append ts us)

-- what a list is, where the first ts were read and the rest is left
abbrev pub with_read : Trees → List Value → Option Trees
with_read ts left = option_map (trees_append ts) (read_trees (items_view left))

append_nil : (ts : Trees) → trees_append ts no_trees ≡ ts
append_nil no_trees = refl
append_nil (tree t ts) = ap (tree t) (append_nil ts)

append_more : (qs : List Query) (q : Query) (us : Trees) → trees_append (queries_view (qs ++ q ∷ [])) us ≡ trees_append (queries_view qs) (tree (query_view q) us)
append_more [] q us = refl
append_more (x ∷ qs) q us = ap (tree (query_view x)) (append_more qs q us)

pub read_none : (qs : List Query) (v : Value) (left : List Value) → read_tree (view v) ≡ None → with_read (queries_view qs) (v ∷ left) ≡ None
read_none qs v left e = ap (λ o. option_map (trees_append (queries_view qs)) (option_and_then (λ t. option_map (tree t) (read_trees (items_view left))) o)) e

more_step : (qs : List Query) (q : Query) (o : Option Trees) → option_map (trees_append (queries_view qs)) (option_map (tree (query_view q)) o) ≡ option_map (trees_append (queries_view (qs ++ q ∷ []))) o
more_step qs q None = refl
more_step qs q (Some us) = ap Some (sym (append_more qs q us))

read_more : (qs : List Query) (q : Query) (v : Value) (left : List Value) → read_tree (view v) ≡ Some (query_view q) → with_read (queries_view qs) (v ∷ left) ≡ with_read (queries_view (qs ++ q ∷ [])) left
read_more qs q v left e =
    ap (λ o. option_map (trees_append (queries_view qs)) (option_and_then (λ t. option_map (tree t) (read_trees (items_view left))) o)) e
    ∙ more_step qs q (read_trees (items_view left))

pub step_read : (vs : List Value) (i : ℕ) (v : Value) (qs next : List Query) (q : Query) → i < length vs → v ≡ get_or vs i v → read_tree (view v) ≡ Some (query_view q) → next ≡ qs ++ q ∷ []
    → with_read (queries_view qs) (drop i vs) ≡ read_trees (items_view vs) → with_read (queries_view next) (drop (i + 1) vs) ≡ read_trees (items_view vs)
step_read vs i v qs next q l is e grown before =
    let cut : drop i vs ≡ v ∷ drop (i + 1) vs = rw (add-one) (drop-cons vs i v l ∙ ap (λ w. w ∷ drop (suc i) vs) (sym is)) in
    ap (λ w. with_read (queries_view w) (drop (i + 1) vs)) grown
    ∙ sym (read_more qs q v (drop (i + 1) vs) e)
    ∙ ap (with_read (queries_view qs)) (sym cut)
    ∙ before

pub end_read : (vs : List Value) (i : ℕ) (qs : List Query) → length vs ≤ i → with_read (queries_view qs) (drop i vs) ≡ read_trees (items_view vs) → read_trees (items_view vs) ≡ Some (queries_view qs)
end_read vs i qs l before =
    sym before ∙ ap (with_read (queries_view qs)) (drop_all i vs l) ∙ ap Some (append_nil (queries_view qs))
