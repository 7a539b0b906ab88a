-- How deep the query of parts is, and that each query in it keeps its conditions where there are not too many leaves.
use Rattle.std.proofs.Common.{◌≡◌, ◌≤◌, ℕ, suc, ◌+◌, ◌-◌, Bool, true, false, ◌&&◌, ◌==◌, nat_lt, cond, if◌then◌else◌, List, [], ◌∷◌, ◌++◌, length, map, reverse, filter, Option, Some, None, IfSome, refl, sym, ◌∙◌, arith, length-append, subst}
use Rattle.std.proofs.lemmas.Bool.Decides.{nat_tests}
use Rattle.std.proofs.lemmas.List.{reverse-append}
use Rattle.std.proofs.lemmas.List.Folds.{list_all-append}
use Rattle.std.specs.List.{list_all}
use Rattle.std.proofs.lemmas.Bool.{and_from}
use Rattle.sk_base.specs.declared.find.Join.{Join}
use Rattle.sk_query.specs.declared.form.Form.{Form}
use Rattle.sk_query.specs.Trees.{Tree, nothing, all, parts, Trees, tree, trees_from}
use Rattle.sk_query.specs.Fits.{is_window, has_parts, leaves_of, leaves_in, depth_of, depth_in, is_sound, are_sound}
use Rattle.sk_base.specs.Terms.{is_given}
use Rattle.sk_grammar.specs.declared.token.Kind.{Kind}
use Rattle.sk_grammar.specs.declared.token.Mark.{Mark}
use Rattle.sk_grammar.specs.Parts.{Part, chain, unit, chosen, empty, link, operator, linked, with_words, with_part, chained, chain_tree}
use Rattle.sk_grammar.specs.Runs.{Unit as UnitMeant, unit_of, mark_behind, units, is_hated, is_filter, is_wanted, is_loved, is_optional, queries_of, joined, excluding, all_of, with_plain, loved_and_plain, base_of, FilterGroup, added, added_filter, groups_after, group_tree, filtered, units_tree, run_tree}
use Rattle.sk_grammar.specs.Meaning.{is_operator, in_front, split, is_or, is_xor, is_and, Run, in_run, runs, xor_runs, is_positive, run_trees, and_tree, xor_tree, parts_tree, closed_part}
use Rattle.sk_grammar.specs.Faults.{is_not}

-- A query is no deeper than this, and keeps its conditions where it has no more than 1,024 leaves.
pub record Fits (d : ℕ) (t : Tree) : Type 0 where
  pub sound : leaves_of t ≤ 1024 → is_sound 1 t ≡ true
  pub deep : depth_of t ≤ d

-- So are all of these.
abbrev pub AllFit : ℕ → List Tree → Type 0
AllFit d [] = Unit {0}
AllFit d (t ∷ ts) = Fits d t × AllFit d ts

-- So are the parts of a query together.
record TreesFit (d : ℕ) (ts : Trees) : Type 0 where
  sound : leaves_in ts ≤ 1024 → are_sound 1 ts ≡ true
  deep : depth_in ts ≤ d

pub deeper : (d e : ℕ) (t : Tree) → d ≤ e → Fits d t → Fits e t
deeper d e t h f = let deep = f.deep in record { sound = f.sound; deep = omega arith }

one_more : (d : ℕ) (t : Tree) (ts : Trees) → Fits d t → TreesFit d ts → TreesFit d (tree t ts)
one_more d t ts f g =
    let first = f.deep in
    let rest = g.deep in
    record { sound = λ few. and_from (is_sound 1 t) (are_sound 1 ts) (f.sound (omega arith)) (g.sound (omega arith)); deep = omega arith }

from_fit : (d : ℕ) (ts : List Tree) → AllFit d ts → TreesFit d (trees_from ts)
from_fit d [] h = record { sound = λ few. refl; deep = omega arith }
from_fit d (t ∷ ts) h = one_more d t (trees_from ts) h.0 (from_fit d ts h.1)

-- A node over several.
parts_fit : (d : ℕ) (form : Form) (ts : Trees) → has_parts ts ≡ true → TreesFit d ts → Fits (d + 1) (parts form ts)
parts_fit d form ts some f =
    let deep = f.deep in
    record { sound = λ few. and_from (has_parts ts) (are_sound 1 ts) some (f.sound few); deep = omega arith }

some_fit : (d : ℕ) (form : Form) (t : Tree) (ts : List Tree) → AllFit d (t ∷ ts) → Fits (d + 1) (parts form (trees_from (t ∷ ts)))
some_fit d form t ts h = parts_fit d form (trees_from (t ∷ ts)) refl (from_fit d (t ∷ ts) h)

joined_fit : (d : ℕ) (form : Form) (t : Tree) (ts : List Tree) → AllFit d (t ∷ ts) → Fits (d + 1) (joined form (t ∷ ts))
joined_fit d form t [] h = deeper d (d + 1) t (omega arith) h.0
joined_fit d form t (u ∷ us) h = some_fit d form t (u ∷ us) h

all_deeper : (d e : ℕ) (ts : List Tree) → d ≤ e → AllFit d ts → AllFit e ts
all_deeper d e [] h f = tt
all_deeper d e (t ∷ ts) h f = (deeper d e t h f.0, all_deeper d e ts h f.1)

all_append : (d : ℕ) (ts us : List Tree) → AllFit d ts → AllFit d us → AllFit d (ts ++ us)
all_append d [] us f g = g
all_append d (t ∷ ts) us f g = (f.0, all_append d ts us f.1 g)

-- The query that stands for all documents.
all_fits : (d : ℕ) → 1 ≤ d → Fits d all
all_fits d h = record { sound = λ few. refl; deep = h }

nothing_fits : (d : ℕ) → 1 ≤ d → Fits d nothing
nothing_fits d h = record { sound = λ few. refl; deep = h }

-- A query with others taken away.
without_fits : (d e : ℕ) (base : Tree) (ts : List Tree) → e ≤ d → Fits d base → AllFit e ts → Fits (d + 1) (excluding base ts)
without_fits d e base [] h f g = deeper d (d + 1) base (omega arith) f
without_fits d e base (t ∷ ts) h f g = some_fit d Form.AndNot base (t ∷ ts) (f, all_deeper e d (t ∷ ts) h g)

all_of_fits : (d : ℕ) (ts : List Tree) → AllFit d ts → Fits (d + 1) (all_of ts)
all_of_fits d [] h = all_fits (d + 1) (omega arith)
all_of_fits d (t ∷ ts) h = joined_fit d Form.And t ts h

with_plain_fits : (d : ℕ) (base : Tree) (ts : List Tree) → Fits (d + 1) base → AllFit d ts → Fits (d + 2) (with_plain base ts)
with_plain_fits d base [] f g = deeper (d + 1) (d + 2) base (omega arith) f
with_plain_fits d base (t ∷ ts) f g =
    deeper (d + 1 + 1) (d + 2) _ (omega arith) (some_fit (d + 1) Form.AndMaybe base (joined Form.Or (t ∷ ts) ∷ []) (f, (joined_fit d Form.Or t ts g, tt)))

loved_fit : (d : ℕ) (loved plain : List Tree) → AllFit d loved → AllFit d plain → Fits (d + 2) (loved_and_plain loved plain)
loved_fit d [] [] f g = all_fits (d + 2) (omega arith)
loved_fit d [] (t ∷ ts) f g = deeper (d + 1) (d + 2) _ (omega arith) (joined_fit d Form.Or t ts g)
loved_fit d (t ∷ ts) plain f g = with_plain_fits d (joined Form.And (t ∷ ts)) plain (joined_fit d Form.And t ts f) g

-- The queries of units fit.
abbrev UnitsFit : ℕ → List UnitMeant → Type 0
UnitsFit d [] = Unit {0}
UnitsFit d (u ∷ us) = Fits d (UnitMeant.query u) × UnitsFit d us

units_append : (d : ℕ) (us vs : List UnitMeant) → UnitsFit d us → UnitsFit d vs → UnitsFit d (us ++ vs)
units_append d [] vs f g = g
units_append d (u ∷ us) vs f g = (f.0, units_append d us vs f.1 g)

queries_fit : (d : ℕ) (test : UnitMeant → Bool) (us : List UnitMeant) → UnitsFit d us → AllFit d (queries_of test us)
queries_fit d test [] h = tt
queries_fit d test (u ∷ us) h = by (test u) u (filter test us) h.0 (queries_fit d test us h.1)
  where
    by : (b : Bool) (v : UnitMeant) (vs : List UnitMeant) → Fits d (UnitMeant.query v) → AllFit d (map UnitMeant.query vs) → AllFit d (map UnitMeant.query (cond b (v ∷ vs) vs))
    by true v vs f g = (f, g)
    by false v vs f g = g

base_fits : (d : ℕ) (join : Join) (us : List UnitMeant) → UnitsFit d us → Fits (d + 2) (base_of join us)
base_fits d Join.Or us h = loved_fit d (queries_of is_loved us) (queries_of is_optional us) (queries_fit d is_loved us h) (queries_fit d is_optional us h)
base_fits d Join.And us h = deeper (d + 1) (d + 2) _ (omega arith) (all_of_fits d (queries_of is_wanted us) (queries_fit d is_wanted us h))

-- The filters of a field are there, and fit.
record GroupFits (d : ℕ) (g : FilterGroup) : Type 0 where
  some : 1 ≤ length (FilterGroup.queries g)
  fit : AllFit d (FilterGroup.queries g)

abbrev GroupsFit : ℕ → List FilterGroup → Type 0
GroupsFit d [] = Unit {0}
GroupsFit d (g ∷ gs) = GroupFits d g × GroupsFit d gs

last_fits : (d : ℕ) (t : Tree) (g : FilterGroup) → Fits d t → GroupFits d g → GroupFits d (record { field = FilterGroup.field g; queries = FilterGroup.queries g ++ t ∷ [] })
last_fits d t g f h = record {
  some = let n = length-append (FilterGroup.queries g) (t ∷ []) in omega (arith, n);
  fit = all_append d (FilterGroup.queries g) (t ∷ []) h.fit (f, tt);
}

added_fit : (d f : ℕ) (t : Tree) (gs : List FilterGroup) → Fits d t → GroupsFit d gs → GroupsFit d (added f t gs)
added_fit d f t [] h k = (record { some = omega arith; fit = (h, tt) }, tt)
added_fit d f t (g ∷ gs) h k = by (FilterGroup.field g == f) (last_fits d t g h k.0) k.0 k.1 (added_fit d f t gs h k.1)
  where
    by : (b : Bool) → GroupFits d (record { field = FilterGroup.field g; queries = FilterGroup.queries g ++ t ∷ [] }) → GroupFits d g → GroupsFit d gs → GroupsFit d (added f t gs)
        → GroupsFit d (if b then record { field = FilterGroup.field g; queries = FilterGroup.queries g ++ t ∷ [] } ∷ gs else g ∷ added f t gs)
    by true a b c e = (a, c)
    by false a b c e = (b, e)

one_added : (d : ℕ) (o : Option ℕ) (t : Tree) (gs : List FilterGroup) → Fits d t → GroupsFit d gs → GroupsFit d (added_filter o t gs)
one_added d None t gs f g = g
one_added d (Some field) t gs f g = added_fit d field t gs f g

if_groups : (d : ℕ) (b : Bool) (gs hs : List FilterGroup) → GroupsFit d gs → GroupsFit d hs → GroupsFit d (if b then gs else hs)
if_groups d true gs hs f g = f
if_groups d false gs hs f g = g

after_fit : (d : ℕ) (us : List UnitMeant) (gs : List FilterGroup) → UnitsFit d us → GroupsFit d gs → GroupsFit d (groups_after gs us)
after_fit d [] gs f g = g
after_fit d (u ∷ us) gs f g =
    after_fit d us (if is_filter u then added_filter (UnitMeant.field u) (UnitMeant.query u) gs else gs) f.1
    (if_groups d (is_filter u) (added_filter (UnitMeant.field u) (UnitMeant.query u) gs) gs (one_added d (UnitMeant.field u) (UnitMeant.query u) gs f.0 g) g)

some_joined : (d : ℕ) (form : Form) (ts : List Tree) → 1 ≤ length ts → AllFit d ts → Fits (d + 1) (joined form ts)
some_joined d form [] h f = absurd (omega arith)
some_joined d form (t ∷ ts) h f = joined_fit d form t ts f

groups_trees : (d : ℕ) (gs : List FilterGroup) → GroupsFit d gs → AllFit (d + 1) (map group_tree gs)
groups_trees d [] h = tt
groups_trees d (g ∷ gs) h = (some_joined d Form.Or (FilterGroup.queries g) h.0.some h.0.fit, groups_trees d gs h.1)

filtered_fits : (d : ℕ) (base : Tree) (gs : List FilterGroup) → Fits (d + 2) base → GroupsFit d gs → Fits (d + 3) (filtered base gs)
filtered_fits d base [] f g = deeper (d + 2) (d + 3) base (omega arith) f
filtered_fits d base (g ∷ gs) f h =
    deeper (d + 2 + 1) (d + 3) _ (omega arith) (some_fit (d + 2) Form.Filter base (map group_tree (g ∷ gs)) (f, all_deeper (d + 1) (d + 2) (map group_tree (g ∷ gs)) (omega arith) (groups_trees d (g ∷ gs) h)))

units_tree_fits : (d : ℕ) (join : Join) (us : List UnitMeant) → UnitsFit d us → Fits (d + 4) (units_tree join us)
units_tree_fits d join [] h = nothing_fits (d + 4) (omega arith)
units_tree_fits d join (u ∷ us) h =
    deeper (d + 3 + 1) (d + 4) _ (omega arith)
    (without_fits (d + 3) d (filtered (base_of join (u ∷ us)) (groups_after [] (u ∷ us))) (queries_of is_hated (u ∷ us)) (omega arith)
    (filtered_fits d (base_of join (u ∷ us)) (groups_after [] (u ∷ us)) (base_fits d join (u ∷ us) h) (after_fit d (u ∷ us) [] h tt))
    (queries_fit d is_hated (u ∷ us) h))

-- A part fits: its distance is no more than 10,000, and its terms are not empty, nor is that of a stem.
abbrev pub PartFits : ℕ → Part → Type 0
PartFits d (chain ordered n s ts) = (n ≤ 10000) × (list_all is_given ts ≡ true) × IfSome s (λ t. is_given t ≡ true)
PartFits d (unit t) = Fits d t
PartFits d (chosen f t) = Fits d t
PartFits d empty = Unit {0}
PartFits d (link ordered n) = n ≤ 10000
PartFits d (operator k) = Unit {0}

abbrev pub PartsFit : ℕ → List Part → Type 0
PartsFit d [] = Unit {0}
PartsFit d (p ∷ ps) = PartFits d p × PartsFit d ps

-- Words that are linked together.
words_given : (ts us : List (List ℕ)) → list_all is_given ts ≡ true → list_all is_given us ≡ true → list_all is_given (ts ++ us) ≡ true
words_given ts us f g = list_all-append is_given ts us ∙ and_from (list_all is_given ts) (list_all is_given us) f g

linked_fit : (d : ℕ) (ordered : Bool) (n : ℕ) (before : List Part) (p : Bool) (k : ℕ) (r : Option (List ℕ)) (us : List (List ℕ)) → n ≤ 10000 → PartFits d (chain p k r us) → PartsFit d before
    → PartsFit d (linked ordered n before p k r us)
linked_fit d ordered n [] p k r us h g f = (g, (h, tt))
linked_fit d ordered n (chain o m s ts ∷ before) p k r us h g f = let own = f.0.0 in ((omega arith, words_given ts us f.0.1 g.1, tt), f.1)
linked_fit d ordered n (q ∷ before) p k r us h g f = (g, (h, f))

with_words_fit : (d : ℕ) (before : List Part) (p : Bool) (k : ℕ) (r : Option (List ℕ)) (us : List (List ℕ)) → PartFits d (chain p k r us) → PartsFit d before → PartsFit d (with_words before p k r us)
with_words_fit d [] p k r us g f = (g, tt)
with_words_fit d (link ordered n ∷ before) p k r us g f = linked_fit d ordered n before p k r us f.0 g f.1
with_words_fit d (q ∷ before) p k r us g f = (g, f)

with_part_fit : (d : ℕ) (before : List Part) (p : Part) → PartsFit d before → PartFits d p → PartsFit d (with_part before p)
with_part_fit d before (chain ordered n s ts) f g = with_words_fit d before ordered n s ts g f
with_part_fit d before p f g = (g, f)

pub chained_fit : (d : ℕ) (before ps : List Part) → PartsFit d before → PartsFit d ps → PartsFit d (chained before ps)
chained_fit d before [] f g = f
chained_fit d before (p ∷ ps) f g = chained_fit d (with_part before p) ps (with_part_fit d before p f g.0) g.1

-- Words in one node.
window_fits : (n m : ℕ) → n ≤ 10000 → m ≤ 1022 → is_window (n + suc (suc m) - 1) ≡ true
window_fits n m h k = grind (arith, nat_tests)

near_sound : (n m : ℕ) (ok : Bool) → n ≤ 10000 → suc (suc m) ≤ 1024 → ok ≡ true → (is_window (n + suc (suc m) - 1) && (nat_lt 0 (suc (suc m)) && ok)) ≡ true
near_sound n m ok h k e = and_from (is_window (n + suc (suc m) - 1)) (nat_lt 0 (suc (suc m)) && ok) (window_fits n m h (omega arith)) (and_from (nat_lt 0 (suc (suc m))) ok (grind (arith, nat_tests)) e)

chain_fits : (d : ℕ) (ordered : Bool) (n : ℕ) (s : Option (List ℕ)) (ts : List (List ℕ)) → 1 ≤ d → PartFits d (chain ordered n s ts) → Fits d (chain_tree ordered n s ts)
chain_fits d ordered n s [] some h = nothing_fits d some
chain_fits d ordered n None (t ∷ []) some h = record { sound = λ few. first t h.1; deep = some }
  where
    first : (t : List ℕ) → (is_given t && true) ≡ true → is_given t ≡ true
    first t e = by (is_given t) e
      where
        by : (b : Bool) → (b && true) ≡ true → b ≡ true
        by true e = refl
        by false e = e
chain_fits d ordered n (Some s) (t ∷ []) some h = record { sound = λ few. h.2; deep = some }
chain_fits d true n s (t ∷ u ∷ ts) some h = record { sound = λ few. near_sound n (length ts) (list_all is_given (t ∷ u ∷ ts)) h.0 few h.1; deep = some }
chain_fits d false n s (t ∷ u ∷ ts) some h = record { sound = λ few. near_sound n (length ts) (list_all is_given (t ∷ u ∷ ts)) h.0 few h.1; deep = some }

-- The units of a run.
unit_fits : (d : ℕ) (mark : Mark) (p : Part) → 1 ≤ d → PartFits d p → UnitsFit d (unit_of mark p)
unit_fits d mark (chain ordered n s ts) some h = (chain_fits d ordered n s ts some h, tt)
unit_fits d mark (unit t) some h = (h, tt)
unit_fits d mark (chosen f t) some h = (h, tt)
unit_fits d mark empty some h = tt
unit_fits d mark (link ordered n) some h = tt
unit_fits d mark (operator k) some h = tt

units_fit : (d : ℕ) (mark : Mark) (ps : List Part) → 1 ≤ d → PartsFit d ps → UnitsFit d (units mark ps)
units_fit d mark [] some h = tt
units_fit d mark (p ∷ ps) some h = units_append d (unit_of mark p) (units (mark_behind p) ps) (unit_fits d mark p some h.0) (units_fit d (mark_behind p) ps some h.1)

run_fits : (d : ℕ) (join : Join) (ps : List Part) → 1 ≤ d → PartsFit d ps → Fits (d + 4) (run_tree join ps)
run_fits d join ps some h = units_tree_fits d join (units Mark.Plain ps) (units_fit d Mark.Plain ps some h)

-- The runs between AND and NOT.
abbrev RunsFit : ℕ → List Run → Type 0
RunsFit d [] = Unit {0}
RunsFit d (r ∷ rs) = PartsFit d (Run.inside r) × RunsFit d rs

if_runs : (d : ℕ) (b : Bool) (rs ss : List Run) → RunsFit d rs → RunsFit d ss → RunsFit d (if b then rs else ss)
if_runs d true rs ss f g = f
if_runs d false rs ss f g = g

in_run_fits : (d : ℕ) (p : Part) (rs : List Run) → PartFits d p → RunsFit d rs → RunsFit d (in_run p rs)
in_run_fits d p [] f g = tt
in_run_fits d p (r ∷ rs) f g = ((f, g.0), g.1)

runs_fit : (d : ℕ) (fresh negative : Bool) (ps : List Part) → PartsFit d ps → RunsFit d (runs fresh negative ps)
runs_fit d fresh negative [] h = (tt, tt)
runs_fit d fresh negative (p ∷ ps) h =
    if_runs d (is_operator is_not p) _ _
    (if_runs d fresh (runs false true ps) (record { negative = negative; inside = [] } ∷ runs false true ps) (runs_fit d false true ps h.1) (tt, runs_fit d false true ps h.1))
    (if_runs d (is_operator is_and p) (record { negative = negative; inside = [] } ∷ runs true false ps) (in_run p (runs false negative ps)) (tt, runs_fit d true false ps h.1)
    (in_run_fits d p (runs false negative ps) h.0 (runs_fit d false negative ps h.1)))

run_trees_fit : (d : ℕ) (join : Join) (test : Run → Bool) (rs : List Run) → 1 ≤ d → RunsFit d rs → AllFit (d + 4) (run_trees join test rs)
run_trees_fit d join test [] some h = tt
run_trees_fit d join test (r ∷ rs) some h = by (test r) r (filter test rs) (run_fits d join (Run.inside r) some h.0) (run_trees_fit d join test rs some h.1)
  where
    by : (b : Bool) (s : Run) (ss : List Run) → Fits (d + 4) (run_tree join (Run.inside s)) → AllFit (d + 4) (map (λ (run : Run). run_tree join run.inside) ss)
        → AllFit (d + 4) (map (λ (run : Run). run_tree join run.inside) (cond b (s ∷ ss) ss))
    by true s ss f g = (f, g)
    by false s ss f g = g

and_fits : (d : ℕ) (join : Join) (ps : List Part) → 1 ≤ d → PartsFit d ps → Fits (d + 6) (and_tree join ps)
and_fits d join ps some h =
    let rs : List Run = xor_runs ps in
    let fit : RunsFit d rs = runs_fit d true false ps h in
    deeper (d + 4 + 1 + 1) (d + 6) (and_tree join ps) (omega arith)
    (without_fits (d + 4 + 1) (d + 4) (all_of (run_trees join is_positive rs)) (run_trees join Run.negative rs) (omega arith)
    (all_of_fits (d + 4) (run_trees join is_positive rs) (run_trees_fit d join is_positive rs some fit))
    (run_trees_fit d join Run.negative rs some fit))

-- What stands between operators.
abbrev SegmentsFit : ℕ → List (List Part) → Type 0
SegmentsFit d [] = Unit {0}
SegmentsFit d (ps ∷ more) = PartsFit d ps × SegmentsFit d more

record SplitFits (d : ℕ) (ss : List (List Part)) : Type 0 where
  some : 1 ≤ length ss
  each : SegmentsFit d ss

cut_fits : (d : ℕ) (ss : List (List Part)) → SplitFits d ss → SplitFits d ([] ∷ ss)
cut_fits d ss f = record { some = omega arith; each = (tt, f.each) }

in_front_fits : (d : ℕ) (p : Part) (ss : List (List Part)) → PartFits d p → SplitFits d ss → SplitFits d (in_front p ss)
in_front_fits d p [] f g = g
in_front_fits d p (ps ∷ more) f g = record { some = omega arith; each = ((f, g.each.0), g.each.1) }

if_split : (d : ℕ) (b : Bool) (rs ss : List (List Part)) → SplitFits d rs → SplitFits d ss → SplitFits d (if b then rs else ss)
if_split d true rs ss f g = f
if_split d false rs ss f g = g

split_fits : (d : ℕ) (test : Kind → Bool) (ps : List Part) → PartsFit d ps → SplitFits d (split test ps)
split_fits d test [] h = record { some = omega arith; each = (tt, tt) }
split_fits d test (p ∷ ps) h =
    if_split d (is_operator test p) ([] ∷ split test ps) (in_front p (split test ps)) (cut_fits d (split test ps) (split_fits d test ps h.1))
    (in_front_fits d p (split test ps) h.0 (split_fits d test ps h.1))

segments_fit : (d e : ℕ) (make : List Part → Tree) (ss : List (List Part)) → ((ps : List Part) → PartsFit d ps → Fits e (make ps)) → SegmentsFit d ss → AllFit e (map make ss)
segments_fit d e make [] f h = tt
segments_fit d e make (ps ∷ more) f h = (f ps h.0, segments_fit d e make more f h.1)

joined_segments : (d e : ℕ) (form : Form) (make : List Part → Tree) (ss : List (List Part)) → ((ps : List Part) → PartsFit d ps → Fits e (make ps)) → SplitFits d ss
    → Fits (e + 1) (joined form (map make ss))
joined_segments d e form make [] f h = let some = h.some in absurd (omega arith)
joined_segments d e form make (ps ∷ more) f h = joined_fit e form (make ps) (map make more) (segments_fit d e make (ps ∷ more) f h.each)

xor_fits : (d : ℕ) (join : Join) (ps : List Part) → 1 ≤ d → PartsFit d ps → Fits (d + 7) (xor_tree join ps)
xor_fits d join ps some h =
    deeper (d + 6 + 1) (d + 7) (xor_tree join ps) (omega arith)
    (joined_segments d (d + 6) Form.Xor (and_tree join) (split is_xor ps) (λ qs g. and_fits d join qs some g) (split_fits d is_xor ps h))

pub parts_tree_fits : (d : ℕ) (join : Join) (ps : List Part) → 1 ≤ d → PartsFit d ps → Fits (d + 8) (parts_tree join ps)
parts_tree_fits d join ps some h =
    deeper (d + 7 + 1) (d + 8) (parts_tree join ps) (omega arith)
    (joined_segments d (d + 7) Form.Or (xor_tree join) (split is_or ps) (λ qs g. xor_fits d join qs some g) (split_fits d is_or ps h))

-- The other way round.
append_fit : (d : ℕ) (ps qs : List Part) → PartsFit d ps → PartsFit d qs → PartsFit d (ps ++ qs)
append_fit d [] qs f g = g
append_fit d (p ∷ ps) qs f g = (f.0, append_fit d ps qs f.1 g)

pub reverse_fit : (d : ℕ) (ps : List Part) → PartsFit d ps → PartsFit d (reverse ps)
reverse_fit d [] h = h
reverse_fit d (p ∷ ps) h =
    subst (λ qs. PartsFit d qs) (sym (reverse-append (p ∷ []) ps)) (append_fit d (reverse ps) (p ∷ []) (reverse_fit d ps h.1) (h.0, tt))

pub closed_fits : (d : ℕ) (join : Join) (ps : List Part) → 1 ≤ d → PartsFit d ps → PartFits (d + 8) (closed_part join ps)
closed_fits d join [] some h = tt
closed_fits d join (p ∷ ps) some h = parts_tree_fits d join (reverse (p ∷ ps)) some (reverse_fit d (p ∷ ps) h)

pub part_deeper : (d e : ℕ) (p : Part) → d ≤ e → PartFits d p → PartFits e p
part_deeper d e (chain ordered n s ts) h f = f
part_deeper d e (unit t) h f = deeper d e t h f
part_deeper d e (chosen k t) h f = deeper d e t h f
part_deeper d e empty h f = f
part_deeper d e (link ordered n) h f = f
part_deeper d e (operator k) h f = f

pub parts_deeper : (d e : ℕ) (ps : List Part) → d ≤ e → PartsFit d ps → PartsFit e ps
parts_deeper d e [] h f = tt
parts_deeper d e (p ∷ ps) h f = (part_deeper d e p h f.0, parts_deeper d e ps h f.1)
