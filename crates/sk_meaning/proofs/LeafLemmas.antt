-- The query of parts has no more leaves than they have.
use Rattle.std.proofs.Common.{◌≡◌, ◌≤◌, ℕ, ◌+◌, Bool, true, false, ◌&&◌, ◌==◌, not, cond, if◌then◌else◌, List, [], ◌∷◌, ◌++◌, length, map, reverse, filter, Option, Some, None, is_some, is_none, refl, ap, ◌∙◌, arith, length-append}
use Rattle.std.proofs.lemmas.List.{reverse-append}
use Rattle.sk_base.specs.declared.find.Join.{Join}
use Rattle.sk_query.specs.declared.form.Form.{Form}
use Rattle.sk_query.specs.Trees.{Tree, trees_from}
use Rattle.sk_query.specs.Fits.{leaves_of, leaves_in}
use Rattle.sk_grammar.specs.declared.token.Kind.{Kind}
use Rattle.sk_grammar.specs.declared.token.Mark.{Mark}
use Rattle.sk_grammar.specs.Parts.{Part, chain, unit, chosen, empty, link, operator, linked, with_words, with_part, chained, chain_tree}
use Rattle.sk_grammar.specs.Runs.{Unit as UnitMeant, unit_of, mark_behind, units, hates, loves, is_hated, is_filter, is_wanted, is_loved, is_optional, queries_of, joined, excluding, all_of, with_plain, loved_and_plain, base_of, FilterGroup, added, added_filter, groups_after, group_tree, filtered, units_tree, run_tree}
use Rattle.sk_grammar.specs.Meaning.{is_operator, in_front, split, is_or, is_xor, is_and, Run, in_run, runs, xor_runs, is_positive, run_trees, and_tree, xor_tree, parts_tree, closed_part}
use Rattle.sk_grammar.specs.Faults.{is_not}

-- The leaves of several queries.
abbrev sum_of : List Tree → ℕ
sum_of ts = leaves_in (trees_from ts)

sum_append : (ts us : List Tree) → sum_of (ts ++ us) ≡ sum_of ts + sum_of us
sum_append [] us = omega arith
sum_append (t ∷ ts) us = let more = sum_append ts us in omega arith

-- Nodes over several.
joined_leaves : (form : Form) (ts : List Tree) → leaves_of (joined form ts) ≡ sum_of ts
joined_leaves form [] = refl
joined_leaves form (t ∷ []) = omega arith
joined_leaves form (t ∷ u ∷ ts) = refl

without_leaves : (base : Tree) (ts : List Tree) → leaves_of (excluding base ts) ≡ leaves_of base + sum_of ts
without_leaves base [] = omega arith
without_leaves base (t ∷ ts) = refl

all_of_leaves : (ts : List Tree) → leaves_of (all_of ts) ≡ sum_of ts
all_of_leaves [] = refl
all_of_leaves (t ∷ ts) = joined_leaves Form.And (t ∷ ts)

plain_leaves : (base : Tree) (ts : List Tree) → leaves_of (with_plain base ts) ≡ leaves_of base + sum_of ts
plain_leaves base [] = omega arith
plain_leaves base (t ∷ ts) = let more = joined_leaves Form.Or (t ∷ ts) in omega arith

loved_leaves : (loved plain : List Tree) → leaves_of (loved_and_plain loved plain) ≡ sum_of loved + sum_of plain
loved_leaves [] [] = refl
loved_leaves [] (t ∷ ts) = joined_leaves Form.Or (t ∷ ts) ∙ omega arith
loved_leaves (t ∷ ts) plain =
    let base = joined_leaves Form.And (t ∷ ts) in
    let whole = plain_leaves (joined Form.And (t ∷ ts)) plain in
    whole ∙ ap (λ n. n + sum_of plain) base

-- The leaves of units, and of those that pass a test.
abbrev units_leaves : List UnitMeant → ℕ
units_leaves us = sum_of (map UnitMeant.query us)

-- One unit more: it goes to the queries that its test lets through.
abbrev share : Bool → ℕ → ℕ
share b n = if b then n else 0

passed_leaves : (test : UnitMeant → Bool) (u : UnitMeant) (us : List UnitMeant) → sum_of (queries_of test (u ∷ us)) ≡ share (test u) (leaves_of (UnitMeant.query u)) + sum_of (queries_of test us)
passed_leaves test u us = by (test u) (filter test us)
  where
    by : (b : Bool) (vs : List UnitMeant) → sum_of (map UnitMeant.query (cond b (u ∷ vs) vs)) ≡ share b (leaves_of (UnitMeant.query u)) + sum_of (map UnitMeant.query vs)
    by true vs = refl
    by false vs = omega arith

-- What is loved and what is plain, is what is wanted.
wanted_shares : (h n l : Bool) (k : ℕ) → share ((not h && n) && l) k + share ((not h && n) && not l) k ≡ share (not h && n) k
wanted_shares true n l k = refl
wanted_shares false true true k = omega arith
wanted_shares false true false k = omega arith
wanted_shares false false l k = refl

wanted_leaves : (us : List UnitMeant) → sum_of (queries_of is_loved us) + sum_of (queries_of is_optional us) ≡ sum_of (queries_of is_wanted us)
wanted_leaves [] = refl
wanted_leaves (u ∷ us) =
    let a = passed_leaves is_loved u us in
    let b = passed_leaves is_optional u us in
    let c = passed_leaves is_wanted u us in
    let one = wanted_shares (hates (UnitMeant.mark u)) (is_none (UnitMeant.field u)) (loves (UnitMeant.mark u)) (leaves_of (UnitMeant.query u)) in
    let more = wanted_leaves us in
    omega (arith, a, b, c, one, more)

base_leaves : (join : Join) (us : List UnitMeant) → leaves_of (base_of join us) ≡ sum_of (queries_of is_wanted us)
base_leaves Join.Or us = loved_leaves (queries_of is_loved us) (queries_of is_optional us) ∙ wanted_leaves us
base_leaves Join.And us = all_of_leaves (queries_of is_wanted us)

-- The leaves of filters.
abbrev groups_leaves : List FilterGroup → ℕ
groups_leaves [] = 0
groups_leaves (g ∷ gs) = sum_of (FilterGroup.queries g) + groups_leaves gs

added_leaves : (f : ℕ) (t : Tree) (gs : List FilterGroup) → groups_leaves (added f t gs) ≡ groups_leaves gs + leaves_of t
added_leaves f t [] = omega arith
added_leaves f t (g ∷ gs) = by (FilterGroup.field g == f) (added_leaves f t gs)
  where
    by : (b : Bool) → groups_leaves (added f t gs) ≡ groups_leaves gs + leaves_of t
        → groups_leaves (if b then record { field = FilterGroup.field g; queries = FilterGroup.queries g ++ t ∷ [] } ∷ gs else g ∷ added f t gs) ≡ (sum_of (FilterGroup.queries g) + groups_leaves gs) + leaves_of t
    by true more = let whole = sum_append (FilterGroup.queries g) (t ∷ []) in omega (arith, whole)
    by false more = omega (arith, more)

one_leaves : (h : Bool) (o : Option ℕ) (t : Tree) (gs : List FilterGroup) → groups_leaves (if not h && is_some o then added_filter o t gs else gs) ≡ groups_leaves gs + share (not h && is_some o) (leaves_of t)
one_leaves true o t gs = omega arith
one_leaves false None t gs = omega arith
one_leaves false (Some f) t gs = added_leaves f t gs

after_leaves : (us : List UnitMeant) (gs : List FilterGroup) → groups_leaves (groups_after gs us) ≡ groups_leaves gs + sum_of (queries_of is_filter us)
after_leaves [] gs = omega arith
after_leaves (u ∷ us) gs =
    let more = after_leaves us (if is_filter u then added_filter (UnitMeant.field u) (UnitMeant.query u) gs else gs) in
    let one = one_leaves (hates (UnitMeant.mark u)) (UnitMeant.field u) (UnitMeant.query u) gs in
    let first = passed_leaves is_filter u us in
    omega (arith, more, one, first)

trees_leaves : (gs : List FilterGroup) → sum_of (map group_tree gs) ≡ groups_leaves gs
trees_leaves [] = refl
trees_leaves (g ∷ gs) = let first = joined_leaves Form.Or (FilterGroup.queries g) in let more = trees_leaves gs in omega (arith, first, more)

filtered_leaves : (base : Tree) (gs : List FilterGroup) → leaves_of (filtered base gs) ≡ leaves_of base + groups_leaves gs
filtered_leaves base [] = omega arith
filtered_leaves base (g ∷ gs) = ap (λ n. leaves_of base + n) (trees_leaves (g ∷ gs))

-- Each unit is wanted, a filter or hated.
all_shares : (h : Bool) (o : Option ℕ) (k : ℕ) → share (not h && is_none o) k + share (not h && is_some o) k + share h k ≡ k
all_shares true o k = omega arith
all_shares false None k = omega arith
all_shares false (Some f) k = omega arith

sorted_leaves : (us : List UnitMeant) → sum_of (queries_of is_wanted us) + sum_of (queries_of is_filter us) + sum_of (queries_of is_hated us) ≡ units_leaves us
sorted_leaves [] = refl
sorted_leaves (u ∷ us) =
    let a = passed_leaves is_wanted u us in
    let b = passed_leaves is_filter u us in
    let c = passed_leaves is_hated u us in
    let one = all_shares (hates (UnitMeant.mark u)) (UnitMeant.field u) (leaves_of (UnitMeant.query u)) in
    let more = sorted_leaves us in
    omega (arith, a, b, c, one, more)

units_tree_leaves : (join : Join) (us : List UnitMeant) → leaves_of (units_tree join us) ≡ units_leaves us
units_tree_leaves join [] = refl
units_tree_leaves join (u ∷ us) =
    let a = without_leaves (filtered (base_of join (u ∷ us)) (groups_after [] (u ∷ us))) (queries_of is_hated (u ∷ us)) in
    let b = filtered_leaves (base_of join (u ∷ us)) (groups_after [] (u ∷ us)) in
    let c = base_leaves join (u ∷ us) in
    let d = after_leaves (u ∷ us) [] in
    let e = sorted_leaves (u ∷ us) in
    omega (arith, a, b, c, d, e)

-- The leaves of parts.
abbrev pub part_leaves : Part → ℕ
part_leaves (chain ordered n s ts) = length ts
part_leaves (unit t) = leaves_of t
part_leaves (chosen f t) = leaves_of t
part_leaves empty = 0
part_leaves (link ordered n) = 0
part_leaves (operator k) = 0

abbrev pub parts_leaves : List Part → ℕ
parts_leaves [] = 0
parts_leaves (p ∷ ps) = part_leaves p + parts_leaves ps

-- Words that are linked together.
linked_leaves : (ordered : Bool) (n : ℕ) (before : List Part) (p : Bool) (k : ℕ) (r : Option (List ℕ)) (us : List (List ℕ)) → parts_leaves (linked ordered n before p k r us) ≡ parts_leaves before + length us
linked_leaves ordered n [] p k r us = omega arith
linked_leaves ordered n (chain o m s ts ∷ before) p k r us = let whole = length-append ts us in omega (arith, whole)
linked_leaves ordered n (q ∷ before) p k r us = omega arith

words_leaves : (before : List Part) (p : Bool) (k : ℕ) (r : Option (List ℕ)) (us : List (List ℕ)) → parts_leaves (with_words before p k r us) ≡ parts_leaves before + length us
words_leaves [] p k r us = omega arith
words_leaves (link ordered n ∷ before) p k r us = linked_leaves ordered n before p k r us ∙ omega arith
words_leaves (q ∷ before) p k r us = omega arith

with_leaves : (before : List Part) (p : Part) → parts_leaves (with_part before p) ≡ parts_leaves before + part_leaves p
with_leaves before (chain ordered n s ts) = words_leaves before ordered n s ts
with_leaves before p = omega arith

pub chained_leaves : (before ps : List Part) → parts_leaves (chained before ps) ≡ parts_leaves before + parts_leaves ps
chained_leaves before [] = omega arith
chained_leaves before (p ∷ ps) = let first = with_leaves before p in let more = chained_leaves (with_part before p) ps in omega (arith, first, more)

-- The units of a run.
chain_leaves : (ordered : Bool) (n : ℕ) (s : Option (List ℕ)) (ts : List (List ℕ)) → leaves_of (chain_tree ordered n s ts) ≡ length ts
chain_leaves ordered n s [] = refl
chain_leaves ordered n s (t ∷ []) = refl
chain_leaves true n s (t ∷ u ∷ ts) = refl
chain_leaves false n s (t ∷ u ∷ ts) = refl

unit_leaves : (mark : Mark) (p : Part) → units_leaves (unit_of mark p) ≡ part_leaves p
unit_leaves mark (chain ordered n s ts) = let one = chain_leaves ordered n s ts in omega (arith, one)
unit_leaves mark (unit t) = omega arith
unit_leaves mark (chosen f t) = omega arith
unit_leaves mark empty = refl
unit_leaves mark (link ordered n) = refl
unit_leaves mark (operator k) = refl

append_leaves : (us vs : List UnitMeant) → units_leaves (us ++ vs) ≡ units_leaves us + units_leaves vs
append_leaves [] vs = omega arith
append_leaves (u ∷ us) vs = let more = append_leaves us vs in omega (arith, more)

run_leaves : (mark : Mark) (ps : List Part) → units_leaves (units mark ps) ≡ parts_leaves ps
run_leaves mark [] = refl
run_leaves mark (p ∷ ps) =
    let whole = append_leaves (unit_of mark p) (units (mark_behind p) ps) in
    let first = unit_leaves mark p in
    let more = run_leaves (mark_behind p) ps in
    omega (arith, whole, first, more)

run_tree_leaves : (join : Join) (ps : List Part) → leaves_of (run_tree join ps) ≡ parts_leaves ps
run_tree_leaves join ps = units_tree_leaves join (units Mark.Plain ps) ∙ run_leaves Mark.Plain ps

-- The runs between AND and NOT. The operators have no leaves, and are left out.
abbrev runs_leaves : List Run → ℕ
runs_leaves [] = 0
runs_leaves (r ∷ rs) = parts_leaves (Run.inside r) + runs_leaves rs

in_run_leaves : (p : Part) (rs : List Run) → runs_leaves (in_run p rs) ≤ part_leaves p + runs_leaves rs
in_run_leaves p [] = omega arith
in_run_leaves p (r ∷ rs) = omega arith

if_runs : (b : Bool) (rs ss : List Run) (n : ℕ) → runs_leaves rs ≤ n → runs_leaves ss ≤ n → runs_leaves (if b then rs else ss) ≤ n
if_runs true rs ss n f g = f
if_runs false rs ss n f g = g

runs_few : (fresh negative : Bool) (ps : List Part) → runs_leaves (runs fresh negative ps) ≤ parts_leaves ps
runs_few fresh negative [] = omega arith
runs_few fresh negative (p ∷ ps) =
    let a = runs_few false true ps in
    let b = runs_few true false ps in
    let c = runs_few false negative ps in
    let d = in_run_leaves p (runs false negative ps) in
    if_runs (is_operator is_not p) _ _ (part_leaves p + parts_leaves ps)
    (if_runs fresh (runs false true ps) (record { negative = negative; inside = [] } ∷ runs false true ps) (part_leaves p + parts_leaves ps) (omega (arith, a)) (omega (arith, a)))
    (if_runs (is_operator is_and p) (record { negative = negative; inside = [] } ∷ runs true false ps) (in_run p (runs false negative ps)) (part_leaves p + parts_leaves ps) (omega (arith, b)) (omega (arith, c, d)))

trees_of_run : (join : Join) (test : Run → Bool) (r : Run) (rs : List Run) → sum_of (run_trees join test (r ∷ rs)) ≡ share (test r) (parts_leaves (Run.inside r)) + sum_of (run_trees join test rs)
trees_of_run join test r rs = by (test r) (filter test rs) (run_tree_leaves join (Run.inside r))
  where
    by : (b : Bool) (ss : List Run) → leaves_of (run_tree join (Run.inside r)) ≡ parts_leaves (Run.inside r)
        → sum_of (map (λ (run : Run). run_tree join run.inside) (cond b (r ∷ ss) ss)) ≡ share b (parts_leaves (Run.inside r)) + sum_of (map (λ (run : Run). run_tree join run.inside) ss)
    by true ss e = ap (λ n. n + sum_of (map (λ (run : Run). run_tree join run.inside) ss)) e
    by false ss e = omega arith

both_shares : (b : Bool) (k : ℕ) → share (not b) k + share b k ≡ k
both_shares true k = omega arith
both_shares false k = omega arith

signs_leaves : (join : Join) (rs : List Run) → sum_of (run_trees join is_positive rs) + sum_of (run_trees join Run.negative rs) ≡ runs_leaves rs
signs_leaves join [] = refl
signs_leaves join (r ∷ rs) =
    let a = trees_of_run join is_positive r rs in
    let b = trees_of_run join Run.negative r rs in
    let one = both_shares (Run.negative r) (parts_leaves (Run.inside r)) in
    let more = signs_leaves join rs in
    omega (arith, a, b, one, more)

and_leaves : (join : Join) (ps : List Part) → leaves_of (and_tree join ps) ≤ parts_leaves ps
and_leaves join ps =
    let rs : List Run = xor_runs ps in
    let a = without_leaves (all_of (run_trees join is_positive rs)) (run_trees join Run.negative rs) in
    let b = all_of_leaves (run_trees join is_positive rs) in
    let c = signs_leaves join rs in
    let d = runs_few true false ps in
    omega (arith, a, b, c, d)

-- What stands between operators.
abbrev segments_leaves : List (List Part) → ℕ
segments_leaves [] = 0
segments_leaves (ps ∷ more) = parts_leaves ps + segments_leaves more

in_front_leaves : (p : Part) (ss : List (List Part)) → segments_leaves (in_front p ss) ≤ part_leaves p + segments_leaves ss
in_front_leaves p [] = omega arith
in_front_leaves p (ps ∷ more) = omega arith

if_segments : (b : Bool) (rs ss : List (List Part)) (n : ℕ) → segments_leaves rs ≤ n → segments_leaves ss ≤ n → segments_leaves (if b then rs else ss) ≤ n
if_segments true rs ss n f g = f
if_segments false rs ss n f g = g

split_leaves : (test : Kind → Bool) (ps : List Part) → segments_leaves (split test ps) ≤ parts_leaves ps
split_leaves test [] = omega arith
split_leaves test (p ∷ ps) =
    let more = split_leaves test ps in
    let front = in_front_leaves p (split test ps) in
    if_segments (is_operator test p) ([] ∷ split test ps) (in_front p (split test ps)) (part_leaves p + parts_leaves ps) (omega (arith, more)) (omega (arith, more, front))

made_leaves : (make : List Part → Tree) (ss : List (List Part)) → ((ps : List Part) → leaves_of (make ps) ≤ parts_leaves ps) → sum_of (map make ss) ≤ segments_leaves ss
made_leaves make [] f = omega arith
made_leaves make (ps ∷ more) f = let first = f ps in let rest = made_leaves make more f in omega (arith, first, rest)

joined_split : (form : Form) (test : Kind → Bool) (make : List Part → Tree) (ps : List Part) → ((qs : List Part) → leaves_of (make qs) ≤ parts_leaves qs)
    → leaves_of (joined form (map make (split test ps))) ≤ parts_leaves ps
joined_split form test make ps f =
    let a = joined_leaves form (map make (split test ps)) in
    let b = made_leaves make (split test ps) f in
    let c = split_leaves test ps in
    omega (arith, a, b, c)

xor_leaves : (join : Join) (ps : List Part) → leaves_of (xor_tree join ps) ≤ parts_leaves ps
xor_leaves join ps = joined_split Form.Xor is_xor (and_tree join) ps (and_leaves join)

pub parts_tree_leaves : (join : Join) (ps : List Part) → leaves_of (parts_tree join ps) ≤ parts_leaves ps
parts_tree_leaves join ps = joined_split Form.Or is_or (xor_tree join) ps (xor_leaves join)

-- The other way round.
both_leaves : (ps qs : List Part) → parts_leaves (ps ++ qs) ≡ parts_leaves ps + parts_leaves qs
both_leaves [] qs = omega arith
both_leaves (p ∷ ps) qs = let more = both_leaves ps qs in omega (arith, more)

pub reverse_leaves : (ps : List Part) → parts_leaves (reverse ps) ≡ parts_leaves ps
reverse_leaves [] = refl
reverse_leaves (p ∷ ps) =
    let turned = ap parts_leaves (reverse-append (p ∷ []) ps) in
    let whole = both_leaves (reverse ps) (p ∷ []) in
    let more = reverse_leaves ps in
    turned ∙ whole ∙ omega (arith, more)

pub closed_leaves : (join : Join) (ps : List Part) → part_leaves (closed_part join ps) ≤ parts_leaves ps
closed_leaves join [] = omega arith
closed_leaves join (p ∷ ps) = let a = parts_tree_leaves join (reverse (p ∷ ps)) in let b = reverse_leaves (p ∷ ps) in omega (arith, a, b)
