-- Parts that are split from left to right.
use Rattle.std.proofs.Common.{◌≡◌, Bool, true, false, if◌then◌else◌, List, [], ◌∷◌, ◌++◌, refl, sym, ap, ◌∙◌, append_assoc, append-nil}
use Rattle.sk_grammar.specs.declared.token.Kind.{Kind}
use Rattle.sk_grammar.specs.Parts.{Part, operator}
use Rattle.sk_grammar.specs.Faults.{is_not}
use Rattle.sk_grammar.specs.Runs.{Unit, unit_of, mark_behind, units}
use Rattle.sk_grammar.specs.Meaning.{is_and, is_operator, in_front, split, Run, in_run, runs, xor_runs}
use Rattle.sk_parser.specs.Views.{run_of}
use Rattle.sk_grammar.specs.declared.token.Mark.{Mark}

-- Parts put before the first of these lists.
abbrev pub put_front : List Part → List (List Part) → List (List Part)
put_front held [] = []
put_front held (ps ∷ more) = (held ++ ps) ∷ more

put_more : (held : List Part) (p : Part) (S : List (List Part)) → put_front held (in_front p S) ≡ put_front (held ++ p ∷ []) S
put_more held p [] = refl
put_more held p (ps ∷ more) = ap (λ xs. xs ∷ more) (seam held p ps)
  where
    seam : (xs : List Part) (p : Part) (ps : List Part) → xs ++ (p ∷ ps) ≡ (xs ++ p ∷ []) ++ ps
    seam xs p ps = sym (simp append_assoc)

put_nothing : (S : List (List Part)) → put_front [] S ≡ S
put_nothing [] = refl
put_nothing (ps ∷ more) = refl

lists : (made : List (List Part)) (xs : List Part) (S : List (List Part)) → made ++ (xs ∷ S) ≡ (made ++ xs ∷ []) ++ S
lists made xs S = sym (simp append_assoc)

-- What is made, and what is held with the rest, is what all are split into.
abbrev pub SoFar : (Kind → Bool) → List Part → List (List Part) → List Part → List Part → Type 0
SoFar test all made held rest = made ++ put_front held (split test rest) ≡ split test all

pub split_start : (test : Kind → Bool) (all : List Part) → SoFar test all [] [] all
split_start test all = put_nothing (split test all)

pub split_in : (test : Kind → Bool) (all : List Part) (made : List (List Part)) (held : List Part) (p : Part) (rest : List Part) → is_operator test p ≡ false
    → SoFar test all made held (p ∷ rest) → SoFar test all made (held ++ p ∷ []) rest
split_in test all made held p rest e h =
    ap (λ S. made ++ S) (sym (put_more held p (split test rest)))
    ∙ ap (λ (b : Bool). made ++ put_front held (if b then [] ∷ split test rest else in_front p (split test rest))) (sym e) ∙ h

pub split_cut : (test : Kind → Bool) (all : List Part) (made : List (List Part)) (held : List Part) (p : Part) (rest : List Part) → is_operator test p ≡ true
    → SoFar test all made held (p ∷ rest) → SoFar test all (made ++ held ∷ []) [] rest
split_cut test all made held p rest e h =
    ap (λ S. (made ++ held ∷ []) ++ S) (put_nothing (split test rest))
    ∙ sym (lists made held (split test rest))
    ∙ ap (λ xs. made ++ (xs ∷ split test rest)) (sym (append-nil held))
    ∙ ap (λ (b : Bool). made ++ put_front held (if b then [] ∷ split test rest else in_front p (split test rest))) (sym e) ∙ h

pub split_end : (test : Kind → Bool) (all : List Part) (made : List (List Part)) (held : List Part) → SoFar test all made held [] → made ++ held ∷ [] ≡ split test all
split_end test all made held h = ap (λ xs. made ++ xs ∷ []) (sym (append-nil held)) ∙ h

-- The same of runs.
abbrev pub put_run : List Part → List Run → List Run
put_run held [] = []
put_run held (run ∷ more) = record { negative = run.negative; inside = held ++ run.inside } ∷ more

run_more : (held : List Part) (p : Part) (R : List Run) → put_run held (in_run p R) ≡ put_run (held ++ p ∷ []) R
run_more held p [] = refl
run_more held p (run ∷ more) = ap (λ (xs : List Part). record { negative = run.negative; inside = xs } ∷ more) (seam held p run.inside)
  where
    seam : (xs : List Part) (p : Part) (ps : List Part) → xs ++ (p ∷ ps) ≡ (xs ++ p ∷ []) ++ ps
    seam xs p ps = sym (simp append_assoc)

run_nothing : (R : List Run) → put_run [] R ≡ R
run_nothing [] = refl
run_nothing (run ∷ more) = refl

run_lists : (made : List Run) (run : Run) (R : List Run) → made ++ (run ∷ R) ≡ (made ++ run ∷ []) ++ R
run_lists made run R = sym (simp append_assoc)

abbrev pub RunsSoFar : List Part → List Run → List Part → Bool → Bool → List Part → Type 0
RunsSoFar all made held fresh negative rest = made ++ put_run held (runs fresh negative rest) ≡ xor_runs all

-- A run that ends.
ended : (made : List Run) (held : List Part) (negative : Bool) (R : List Run) → (made ++ run_of negative held ∷ []) ++ put_run [] R ≡ made ++ put_run held (run_of negative [] ∷ R)
ended made held negative R =
    ap (λ S. (made ++ run_of negative held ∷ []) ++ S) (run_nothing R) ∙ sym (run_lists made (run_of negative held) R)
    ∙ ap (λ xs. made ++ (run_of negative xs ∷ R)) (sym (append-nil held))

-- What the runs are by the two tests of the next part.
abbrev next_runs : Bool → Bool → Bool → Bool → Part → List Part → List Run
next_runs b d fresh negative p rest =
    if b then (if fresh then runs false true rest else run_of negative [] ∷ runs false true rest)
    else (if d then run_of negative [] ∷ runs true false rest
    else in_run p (runs false negative rest))

pub runs_start : (all : List Part) → RunsSoFar all [] [] true false all
runs_start all = run_nothing (runs true false all)

pub runs_fresh : (all : List Part) (made : List Run) (held : List Part) (negative : Bool) (p : Part) (rest : List Part) → is_operator is_not p ≡ true
    → RunsSoFar all made held true negative (p ∷ rest) → RunsSoFar all made held false true rest
runs_fresh all made held negative p rest e h = ap (λ (b : Bool). made ++ put_run held (next_runs b (is_operator is_and p) true negative p rest)) (sym e) ∙ h

pub runs_not : (all : List Part) (made : List Run) (held : List Part) (negative : Bool) (p : Part) (rest : List Part) → is_operator is_not p ≡ true
    → RunsSoFar all made held false negative (p ∷ rest) → RunsSoFar all (made ++ run_of negative held ∷ []) [] false true rest
runs_not all made held negative p rest e h =
    ended made held negative (runs false true rest) ∙ ap (λ (b : Bool). made ++ put_run held (next_runs b (is_operator is_and p) false negative p rest)) (sym e) ∙ h

-- AND is not NOT.
and_only : (p : Part) → is_operator is_and p ≡ true → is_operator is_not p ≡ false
and_only (operator Kind.And) e = refl
and_only (operator Kind.Not) e = absurd (cc)
and_only (operator k) e = refl
and_only p e = refl

pub runs_and : (all : List Part) (made : List Run) (held : List Part) (fresh negative : Bool) (p : Part) (rest : List Part) → is_operator is_and p ≡ true
    → RunsSoFar all made held fresh negative (p ∷ rest) → RunsSoFar all (made ++ run_of negative held ∷ []) [] true false rest
runs_and all made held fresh negative p rest f h =
    let e : is_operator is_not p ≡ false = and_only p f in
    ended made held negative (runs true false rest) ∙ ap (λ (d : Bool). made ++ put_run held (next_runs false d fresh negative p rest)) (sym f)
    ∙ ap (λ (b : Bool). made ++ put_run held (next_runs b (is_operator is_and p) fresh negative p rest)) (sym e) ∙ h

pub runs_more : (all : List Part) (made : List Run) (held : List Part) (fresh negative : Bool) (p : Part) (rest : List Part) → is_operator is_not p ≡ false → is_operator is_and p ≡ false
    → RunsSoFar all made held fresh negative (p ∷ rest) → RunsSoFar all made (held ++ p ∷ []) false negative rest
runs_more all made held fresh negative p rest e f h =
    ap (λ R. made ++ R) (sym (run_more held p (runs false negative rest))) ∙ ap (λ (d : Bool). made ++ put_run held (next_runs false d fresh negative p rest)) (sym f)
    ∙ ap (λ (b : Bool). made ++ put_run held (next_runs b (is_operator is_and p) fresh negative p rest)) (sym e) ∙ h

pub runs_end : (all : List Part) (made : List Run) (held : List Part) (fresh negative : Bool) → RunsSoFar all made held fresh negative [] → made ++ run_of negative held ∷ [] ≡ xor_runs all
runs_end all made held fresh negative h = ap (λ xs. made ++ run_of negative xs ∷ []) (sym (append-nil held)) ∙ h

-- The units of a part more.
pub units_step : (all : List Part) (made more : List Unit) (mark next : Mark) (p : Part) (rest : List Part) → more ≡ made ++ unit_of mark p → next ≡ mark_behind p
    → made ++ units mark (p ∷ rest) ≡ units Mark.Plain all → more ++ units next rest ≡ units Mark.Plain all
units_step all made more mark next p rest e f h =
    let moved : more ++ units next rest ≡ (made ++ unit_of mark p) ++ units (mark_behind p) rest = λ i. e i ++ units (f i) rest in
    let seam : (made ++ unit_of mark p) ++ units (mark_behind p) rest ≡ made ++ units mark (p ∷ rest) = simp append_assoc in
    moved ∙ seam ∙ h

-- What stands for the same parts.
pub runs_moved : (all : List Part) (made more : List Run) (held next : List Part) (fresh negative : Bool) (rest : List Part) → more ≡ made → next ≡ held
    → RunsSoFar all made held fresh negative rest → RunsSoFar all more next fresh negative rest
runs_moved all made more held next fresh negative rest e f h =
    let moved : more ++ put_run next (runs fresh negative rest) ≡ made ++ put_run held (runs fresh negative rest) = λ i. e i ++ put_run (f i) (runs fresh negative rest) in
    moved ∙ h

pub split_moved : (test : Kind → Bool) (all : List Part) (made more : List (List Part)) (held next : List Part) (rest : List Part) → more ≡ made → next ≡ held
    → SoFar test all made held rest → SoFar test all more next rest
split_moved test all made more held next rest e f h =
    let moved : more ++ put_front next (split test rest) ≡ made ++ put_front held (split test rest) = λ i. e i ++ put_front (f i) (split test rest) in
    moved ∙ h
