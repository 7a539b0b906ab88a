-- Terms that count as one, two by two.
use Rattle.std.proofs.Common.{◌≡◌, ◌≤◌, ◌<◌, ◌+◌, ◌-◌, ◌*◌, ◌^◌, ◌||◌, ℕ, suc, min, nat_lt, take, drop, slice_index_or, Bool, true, false, not, cond, List, [], ◌∷◌, ◌++◌, length, map, sum_by, bytes_eq, All, AllPairs, Option, None, Some, is_some, unwrap_or, refl, sym, subst, ap, ◌∙◌, arith}
use mathlib.Core.Bool.{true≢false}
use Rattle.std.specs.List.{list_any, AllByRecursion}
use Rattle.std.specs.Option.{option_map}
use Rattle.std.specs.Cmp.Lexicographic.{bytes_decides}
use Rattle.std.proofs.lemmas.Bool.Decides.{nat_tests}
use Rattle.std.proofs.lemmas.List.Elements.{recursion_from_All}
use Rattle.std.proofs.lemmas.List.Folds.{list_any-append}
use Rattle.std.proofs.lemmas.List.Sums.{sum_by-cons}
use Rattle.std.proofs.lemmas.List.{take-append-drop, map-append}
use Rattle.std.proofs.lemmas.Bool.{and_from, and_parts}
use Rattle.sk_base.specs.declared.find.Scheme.{Scheme}
use Rattle.sk_base.specs.declared.doc_entry.DocTerm.{DocTerm}
use Rattle.sk_base.specs.Documents.{has_term, wdf_of}
use Rattle.sk_base.specs.Loads.{load_of, IsLight}
use Rattle.sk_base.specs.Numbers.{Docs, length_of, greatest_of, terms_with, wild_greatest_of}
use Rattle.sk_sorted.proofs.EntryLaws.{AllByRecursion-found}
use Rattle.sk_dict.specs.Terms.{term_at, number_of, Precedes}
use Rattle.sk_query.specs.declared.form.Form.{Form}
use Rattle.sk_query.specs.Trees as Trees
use Rattle.sk_query.specs.Fits.{are_given, are_different, is_sound}
use Rattle.sk_model.specs.Documents.{Document}
use Rattle.sk_model.specs.Edits.{document_at}
use Rattle.sk_model.specs.Weights.{weigh_by}
use Rattle.sk_model.specs.Scores.{weight_if, wdf_sum}
use Rattle.sk_model.specs.Bounds.{lengths_of, greatests_of, term_ceil, joint_ceil, ceil}
use Rattle.sk_model.specs.Allowance.{leaf_readings}
use Rattle.sk_model.proofs.HeldLaws.{Inside, inside_each, synonym_le}
use Rattle.sk_model.proofs.TermLaws.{less_differs}
use Rattle.sk_model.proofs.WeightLaws.{greatest_light}
use Rattle.sk_decay.specs.Heads.{IsHead}
use Rattle.sk_decay.specs.Sides.{paired}
use Rattle.sk_decay.proofs.SideLaws.{paired-none}
use Rattle.sk_index.specs.Indexed.{Indexed, AreNumbered, AreAllWith}
use Rattle.sk_nodes.specs.declared.top.Top.{Top}
use Rattle.sk_nodes.specs.Leaves.{AtMost}
use Rattle.sk_nodes.specs.Shapes.{Shape, ended, synonym}
use Rattle.sk_nodes.specs.Left.{rest, greatest_held}
use Rattle.sk_nodes.specs.Sound.{IsTop, Sound}
use Rattle.sk_tree.specs.Opened.{numbered, score_of, wdfs_of, Opens}
use Rattle.sk_nodes.specs.Proximity.{AreThere}
use Rattle.sk_nodes.proofs.NodeLaws.{capped_top}
use Rattle.sk_index.proofs.NumberLemmas.{wdf_of-none}
use Rattle.sk_tree.proofs.TermLaws.{nothing_opened}
use Rattle.sk_nodes.proofs.ListLaws.{weigh_more}
use Rattle.sk_tree.proofs.ProximityOpenLaws.{some_number, has_none}

-- ---- terms, one behind the other

wdf_sum-append : (xs ys : List (List ℕ)) (terms : List DocTerm) → wdf_sum (xs ++ ys) terms ≡ wdf_sum xs terms + wdf_sum ys terms
wdf_sum-append [] ys terms = omega arith
wdf_sum-append (x ∷ xs) ys terms = let rest = wdf_sum-append xs ys terms in omega (arith, rest)

pub lengths_of-append : (xs ys : List (List ℕ)) (docs : Docs) → lengths_of (xs ++ ys) docs ≡ lengths_of xs docs + lengths_of ys docs
lengths_of-append [] ys docs = omega arith
lengths_of-append (x ∷ xs) ys docs = let rest = lengths_of-append xs ys docs in omega (arith, rest)

-- where none is there the sum is nothing
none_sum : (ts : List (List ℕ)) (terms : List DocTerm) → list_any (λ t. has_term t terms) ts ≡ false → wdf_sum ts terms ≡ 0
none_sum [] terms e = refl
none_sum (t ∷ ts) terms e =
    let first = wdf_of-none t terms (front (has_term t terms) (list_any (λ t. has_term t terms) ts) e) in
    let rest = none_sum ts terms (behind (has_term t terms) (list_any (λ t. has_term t terms) ts) e) in
    omega (arith, first, rest)
  where
    front : (a b : Bool) → (a || b) ≡ false → a ≡ false
    front true b e = cc
    front false b e = refl

    behind : (a b : Bool) → (a || b) ≡ false → b ≡ false
    behind true b e = cc
    behind false b e = e

-- the sum of two pieces is that of the one and of the other
sum_of_both : (a b : Bool) (x y : ℕ) → (a ≡ false → x ≡ 0) → (b ≡ false → y ≡ 0)
    → weight_if (a || b) (weigh_by 1 Scheme.Nnn (x + y)) ≡ paired Form.Or (weight_if a (weigh_by 1 Scheme.Nnn x)) (weight_if b (weigh_by 1 Scheme.Nnn y))
sum_of_both true true x y h g = ap Some (omega arith)
sum_of_both true false x y h g = ap (λ n. Some ((x + n) * 1)) (g refl) ∙ ap Some (omega arith)
sum_of_both false true x y h g = ap (λ n. Some ((n + y) * 1)) (h refl) ∙ ap Some (omega arith)
sum_of_both false false x y h g = refl

-- the wdfs of two pieces
pub wdfs-split : (xs ys : List (List ℕ)) (o : Option Document)
    → score_of (Trees.synonym (xs ++ ys)) Scheme.Nnn 1 o ≡ paired Form.Or (score_of (Trees.synonym xs) Scheme.Nnn 1 o) (score_of (Trees.synonym ys) Scheme.Nnn 1 o)
wdfs-split xs ys None = sym (paired-none Form.Or)
wdfs-split xs ys (Some d) =
    (λ i. weight_if (list_any-append (λ t. has_term t d.terms) xs ys i) (weigh_by 1 Scheme.Nnn (wdf_sum-append xs ys d.terms i)))
    ∙ sum_of_both (list_any (λ t. has_term t d.terms) xs) (list_any (λ t. has_term t d.terms) ys) (wdf_sum xs d.terms) (wdf_sum ys d.terms) (none_sum xs d.terms) (none_sum ys d.terms)

-- a synonym weighs the sum of its wdfs
wdfs_weighed : (scheme : Scheme) (factor : ℕ) (ts : List (List ℕ)) (o : Option Document) → option_map (weigh_by factor scheme) (score_of (Trees.synonym ts) Scheme.Nnn 1 o) ≡ score_of (Trees.synonym ts) scheme factor o
wdfs_weighed scheme factor ts None = refl
wdfs_weighed scheme factor ts (Some d) = by (list_any (λ t. has_term t d.terms) ts) (wdf_sum ts d.terms)
  where
    by : (b : Bool) (w : ℕ) → option_map (weigh_by factor scheme) (weight_if b (weigh_by 1 Scheme.Nnn w)) ≡ weight_if b (weigh_by factor scheme w)
    by true w = let e : w * 1 ≡ w = omega arith in ap (λ n. Some (weigh_by factor scheme n)) e
    by false w = refl

-- ---- bounds

small_if : (test : Bool) (w n : ℕ) → w ≤ n → (cond test w 0) ≤ n
small_if true w n h = h
small_if false w n h = omega arith

pub term_small : (scheme : Scheme) (factor : ℕ) (t : List ℕ) (docs : Docs) → All IsLight docs → term_ceil scheme factor t docs ≤ weigh_by factor scheme (2 ^ 29 - 1)
term_small scheme factor t docs light =
    small_if (nat_lt 0 (length_of t docs)) (weigh_by factor scheme (greatest_of t docs)) (weigh_by factor scheme (2 ^ 29 - 1))
    (let less = greatest_light t docs light in weigh_more factor scheme (greatest_of t docs) (2 ^ 29 - 1) (omega (arith, less)))

inside : (docs : Docs) (id : ℕ) (d : Document) → document_at id docs ≡ Some d → Inside docs d
inside docs id d e = AllByRecursion-found (λ d. Inside docs d) id d docs (inside_each docs) e

light_one : (docs : Docs) (id : ℕ) (d : Document) → All IsLight docs → document_at id docs ≡ Some d → load_of d.terms < 2 ^ 29
light_one docs id d light e = AllByRecursion-found (λ d. load_of d.terms < 2 ^ 29) id d docs (recursion_from_All _ docs light) e

if_le : (test : Bool) (w n : ℕ) → (test ≡ true → w ≤ n) → unwrap_or (weight_if test w) 0 ≤ n
if_le true w n h = h refl
if_le false w n h = omega arith

-- no document weighs more under a synonym than it can
synonym_bound : (scheme : Scheme) (factor : ℕ) (ts : List (List ℕ)) (docs : Docs) → are_different ts ≡ true → All IsLight docs
    → (id : ℕ) → unwrap_or (score_of (Trees.synonym ts) scheme factor (document_at id docs)) 0 ≤ ceil (Trees.synonym ts) scheme factor docs
synonym_bound scheme factor ts docs apart light id = by (document_at id docs) refl
  where
    by : (o : Option Document) → document_at id docs ≡ o → unwrap_or (score_of (Trees.synonym ts) scheme factor o) 0 ≤ ceil (Trees.synonym ts) scheme factor docs
    by None e = omega arith
    by (Some d) e =
        if_le (list_any (λ t. has_term t d.terms) ts) (weigh_by factor scheme (wdf_sum ts d.terms)) (ceil (Trees.synonym ts) scheme factor docs)
        (λ some. synonym_le scheme docs d (inside docs id d e) (light_one docs id d light e) factor ts apart some)

wdfs_small : (ts : List (List ℕ)) (docs : Docs) → ceil (Trees.synonym ts) Scheme.Nnn 1 docs ≤ 2 ^ 29 - 1
wdfs_small ts docs = small_if (nat_lt 0 (lengths_of ts docs)) (weigh_by 1 Scheme.Nnn (min (2 ^ 29 - 1) (greatests_of ts docs))) (2 ^ 29 - 1) (omega arith)

-- ---- numbers of terms, in two pieces

halves : (ns fs bs : List ℕ) (n : ℕ) → fs ≡ take n ns → bs ≡ drop n ns → ns ≡ fs ++ bs
halves ns fs bs n e f = sym (take-append-drop n ns) ∙ (λ i. sym e i ++ sym f i)

there-append : (i : Indexed) (fs bs : List ℕ) → AreThere i (fs ++ bs) → AreThere i fs × AreThere i bs
there-append i [] bs there = (tt, there)
there-append i (n ∷ fs) bs there = let more = there-append i fs bs there.1 in ((there.0, more.0), more.1)

fewer : (a b : Bool) → not (a || b) ≡ true → (not a ≡ true) × (not b ≡ true)
fewer true b e = cc
fewer false b e = (refl, e)

apart-append : (xs ys : List (List ℕ)) → are_different (xs ++ ys) ≡ true → (are_different xs ≡ true) × (are_different ys ≡ true)
apart-append [] ys e = (refl, e)
apart-append (x ∷ xs) ys e =
    let here = and_parts (not (list_any (λ other. bytes_eq x other) (xs ++ ys))) (are_different (xs ++ ys)) e in
    let more = apart-append xs ys here.1 in
    let first = fewer (list_any (λ other. bytes_eq x other) xs) (list_any (λ other. bytes_eq x other) ys) (ap not (sym (list_any-append (λ other. bytes_eq x other) xs ys)) ∙ here.0) in
    (and_from (not (list_any (λ other. bytes_eq x other) xs)) (are_different xs) first.0 more.0, more.1)

module _ (i : Indexed) (ns fs bs : List ℕ) (n : ℕ) (e : fs ≡ take n ns) (f : bs ≡ drop n ns) where
  whole : ns ≡ fs ++ bs
  whole = halves ns fs bs n e f

  pub halves_named : map (term_at i.terms) ns ≡ map (term_at i.terms) fs ++ map (term_at i.terms) bs
  halves_named = ap (map (term_at i.terms)) whole ∙ map-append (term_at i.terms) fs bs

  pub halves_there : AreThere i ns → AreThere i fs × AreThere i bs
  halves_there there = there-append i fs bs (subst (λ (xs : List ℕ). AreThere i xs) whole there)

  pub halves_apart : are_different (map (term_at i.terms) ns) ≡ true → (are_different (map (term_at i.terms) fs) ≡ true) × (are_different (map (term_at i.terms) bs) ≡ true)
  halves_apart apart = apart-append (map (term_at i.terms) fs) (map (term_at i.terms) bs) (ap are_different (sym halves_named) ∙ apart)

  pub halves_wdfs : (o : Option Document) → wdfs_of i ns o ≡ paired Form.Or (wdfs_of i fs o) (wdfs_of i bs o)
  halves_wdfs o = ap (λ ts. score_of (Trees.synonym ts) Scheme.Nnn 1 o) halves_named ∙ wdfs-split (map (term_at i.terms) fs) (map (term_at i.terms) bs) o

  pub halves_readings : lengths_of (map (term_at i.terms) ns) i.live.documents ≡ lengths_of (map (term_at i.terms) fs) i.live.documents + lengths_of (map (term_at i.terms) bs) i.live.documents
  halves_readings = ap (λ ts. lengths_of ts i.live.documents) halves_named ∙ lengths_of-append (map (term_at i.terms) fs) (map (term_at i.terms) bs) i.live.documents

-- ---- of one term, and of none

pub only_one : (ns : List ℕ) (n : ℕ) → length ns ≡ 1 → n ≡ slice_index_or ns 0 n → ns ≡ n ∷ []
only_one [] n e f = absurd (omega (arith, e))
only_one (m ∷ []) n e f = ap (λ (x : ℕ). x ∷ []) (sym f)
only_one (m ∷ k ∷ ns) n e f = absurd (omega (arith, e))

pub read_one : (ns : List ℕ) (d : ℕ) → length ns ≡ 1 → slice_index_or ns 0 d ≡ slice_index_or ns 0 (slice_index_or ns 0 d)
read_one [] d e = refl
read_one (n ∷ ns) d e = refl

pub one_score : (scheme : Scheme) (factor : ℕ) (t : List ℕ) (o : Option Document) → score_of (Trees.term t) scheme factor o ≡ score_of (Trees.synonym (t ∷ [])) scheme factor o
one_score scheme factor t None = refl
one_score scheme factor t (Some d) = by (has_term t d.terms) (wdf_of t d.terms)
  where
    by : (b : Bool) (w : ℕ) → weight_if b (weigh_by factor scheme w) ≡ weight_if (b || false) (weigh_by factor scheme (w + 0))
    by true w = let e : w ≡ w + 0 = omega arith in ap (λ n. Some (weigh_by factor scheme n)) e
    by false w = refl

pub one_opened : (i : Indexed) (t : Top) (s : Shape) (ns : List ℕ) (n : ℕ) (scheme : Scheme) (factor : ℕ) → length ns ≡ 1 → n ≡ slice_index_or ns 0 n → All IsLight i.live.documents
    → Opens i t s (score_of (Trees.term (term_at i.terms n)) scheme factor) (term_ceil scheme factor (term_at i.terms n) i.live.documents)
    → Opens i t s (score_of (Trees.synonym (map (term_at i.terms) ns)) scheme factor) (weigh_by factor scheme (2 ^ 29 - 1))
one_opened i t s ns n scheme factor e f light opens = subst (λ (ms : List ℕ). Opens i t s (score_of (Trees.synonym (map (term_at i.terms) ms)) scheme factor) (weigh_by factor scheme (2 ^ 29 - 1))) (sym (only_one ns n e f)) (record {
  top = opens.top;
  sound = opens.sound;
  gives = λ id. opens.gives id ∙ one_score scheme factor (term_at i.terms n) (document_at id i.live.documents);
  ceiling = let less = term_small scheme factor (term_at i.terms n) i.live.documents light in omega (arith, opens.ceiling, less);
})

pub one_readings : (i : Indexed) (ns : List ℕ) (n : ℕ) → length ns ≡ 1 → n ≡ slice_index_or ns 0 n → lengths_of (map (term_at i.terms) ns) i.live.documents ≡ length_of (term_at i.terms n) i.live.documents
one_readings i ns n e f = ap (λ (ms : List ℕ). lengths_of (map (term_at i.terms) ms) i.live.documents) (only_one ns n e f) ∙ right (length_of (term_at i.terms n) i.live.documents)
  where
    right : (n : ℕ) → n + 0 ≡ n
    right n = omega arith

pub one_there : (i : Indexed) (ns : List ℕ) (n : ℕ) → length ns ≡ 1 → n ≡ slice_index_or ns 0 n → AreThere i ns → n < length i.terms
one_there i ns n e f there = (subst (λ (ms : List ℕ). AreThere i ms) (only_one ns n e f) there).0

none_score : (scheme : Scheme) (factor : ℕ) (o : Option Document) → None ≡ score_of (Trees.synonym []) scheme factor o
none_score scheme factor None = refl
none_score scheme factor (Some d) = refl

pub none_opened : (i : Indexed) (t : Top) (s : Shape) (ns : List ℕ) → length ns ≡ 0 → t ≡ record { head = 2 ^ 32; weight = 0; greatest = 0 } → s ≡ ended → Opens i t s (wdfs_of i ns) (2 ^ 29 - 1)
none_opened i t s [] none e shape = nothing_opened i t s (wdfs_of i []) (2 ^ 29 - 1) e shape (λ id. none_score Scheme.Nnn 1 (document_at id i.live.documents))
none_opened i t s (n ∷ ns) none e shape = absurd (omega (arith, none))

-- ---- what can be weighed at most

pub capped_as : (i : Indexed) (t u : Top) (s : Shape) (g : ℕ) → u.head ≡ t.head → u.weight ≡ t.weight → u.greatest ≡ min t.greatest g → IsTop i t s → AtMost g (rest i s) → IsTop i u s
capped_as i t u s g e f h top bound =
    let capped = capped_top i t s g top bound in
    record {
      head = subst (λ n. IsHead n u.weight (rest i s)) (sym e) (subst (λ w. IsHead t.head w (rest i s)) (sym f) capped.head);
      bound = λ id. subst (λ n. unwrap_or (rest i s id) 0 ≤ n) (sym h) (capped.bound id);
      summed = λ lt. subst (λ n. n ≤ greatest_held s) (sym h) (capped.summed (omega (arith, e, lt)));
      closed = λ end. h ∙ capped.closed (sym e ∙ end);
    }

bound_by : (i : Indexed) (s : Shape) (f : Option Document → Option ℕ) (n : ℕ) → ((id : ℕ) → rest i s id ≡ f (document_at id i.live.documents)) → ((id : ℕ) → unwrap_or (f (document_at id i.live.documents)) 0 ≤ n) → AtMost n (rest i s)
bound_by i s f n gives bound = λ id. subst (λ o. unwrap_or o 0 ≤ n) (sym (gives id)) (bound id)

-- the node of two halves
pub sums_capped : (i : Indexed) (t u : Top) (s : Shape) (ns : List ℕ) → u.head ≡ t.head → u.weight ≡ t.weight → u.greatest ≡ min t.greatest (2 ^ 29 - 1) → are_different (map (term_at i.terms) ns) ≡ true → All IsLight i.live.documents → IsTop i t s → Sound i s
    → ((id : ℕ) → rest i s id ≡ wdfs_of i ns (document_at id i.live.documents)) → Opens i u s (wdfs_of i ns) (2 ^ 29 - 1)
sums_capped i t u s ns e f h apart light top sound gives =
    let ts = map (term_at i.terms) ns in
    let bound : (id : ℕ) → unwrap_or (wdfs_of i ns (document_at id i.live.documents)) 0 ≤ 2 ^ 29 - 1 = λ id. omega (arith, synonym_bound Scheme.Nnn 1 ts i.live.documents apart light id, wdfs_small ts i.live.documents) in
    record {
      top = capped_as i t u s (2 ^ 29 - 1) e f h top (bound_by i s (wdfs_of i ns) (2 ^ 29 - 1) gives bound);
      sound = sound;
      gives = gives;
      ceiling = omega (arith, h);
    }

-- sums of wdfs that are weighed
pub sums_weighed : (i : Indexed) (below top : Top) (s whole : Shape) (ns : List ℕ) (scheme : Scheme) (factor : ℕ) → factor ≤ 65536 → Opens i below s (wdfs_of i ns) (2 ^ 29 - 1) → whole ≡ synonym scheme factor below s
    → IsTop i top (synonym scheme factor below s) → top.greatest ≤ weigh_by factor scheme below.greatest → Opens i top whole (score_of (Trees.synonym (map (term_at i.terms) ns)) scheme factor) (weigh_by factor scheme (2 ^ 29 - 1))
sums_weighed i below top s whole ns scheme factor bounded opens is at bound =
    let less = weigh_more factor scheme below.greatest (2 ^ 29 - 1) opens.ceiling in
    subst (λ (w : Shape). Opens i top w (score_of (Trees.synonym (map (term_at i.terms) ns)) scheme factor) (weigh_by factor scheme (2 ^ 29 - 1))) (sym is) (record {
      top = at;
      sound = record { top = opens.top; sound = opens.sound; bounded = bounded; small = omega (arith, opens.ceiling) };
      gives = λ id. ap (option_map (weigh_by factor scheme)) (opens.gives id) ∙ wdfs_weighed scheme factor (map (term_at i.terms) ns) (document_at id i.live.documents);
      ceiling = omega (arith, bound, less);
    })

-- a node that gives what a query scores, with what the query can weigh
pub query_capped : (i : Indexed) (t u : Top) (s : Shape) (query : Trees.Tree) (f : Option Document → Option ℕ) (scheme : Scheme) (factor most bound : ℕ) → u.head ≡ t.head → u.weight ≡ t.weight → u.greatest ≡ min t.greatest bound
    → bound ≡ ceil query scheme factor i.live.documents → Opens i t s f most → ((id : ℕ) → f (document_at id i.live.documents) ≡ score_of query scheme factor (document_at id i.live.documents))
    → ((id : ℕ) → unwrap_or (score_of query scheme factor (document_at id i.live.documents)) 0 ≤ ceil query scheme factor i.live.documents)
    → Opens i u s (score_of query scheme factor) (ceil query scheme factor i.live.documents)
query_capped i t u s query f scheme factor most bound e g h is opens same at_most =
    let gives : (id : ℕ) → rest i s id ≡ score_of query scheme factor (document_at id i.live.documents) = λ id. opens.gives id ∙ same id in
    record {
      top = capped_as i t u s bound e g h opens.top (subst (λ n. AtMost n (rest i s)) (sym is) (bound_by i s (score_of query scheme factor) (ceil query scheme factor i.live.documents) gives at_most));
      sound = opens.sound;
      gives = gives;
      ceiling = omega (arith, h, is);
    }

-- ---- a synonym

or_step : (b has : Bool) (t : List ℕ) (us : List (List ℕ)) (f : List ℕ → Bool) (rest : Bool) → f t ≡ has → (b ≡ false → has ≡ false) → list_any f us ≡ rest → list_any f (cond b (t ∷ us) us) ≡ (has || rest)
or_step true has t us f rest e none more = λ i. e i || more i
or_step false has t us f rest e none more = more ∙ sym (ap (λ (c : Bool). c || rest) (none refl))

sum_step : (b : Bool) (w : ℕ) (t : List ℕ) (us : List (List ℕ)) (terms : List DocTerm) (rest : ℕ) → wdf_of t terms ≡ w → (b ≡ false → w ≡ 0) → wdf_sum us terms ≡ rest → wdf_sum (cond b (t ∷ us) us) terms ≡ w + rest
sum_step true w t us terms rest e none more = omega (arith, e, more)
sum_step false w t us terms rest e none more = let zero : w ≡ 0 = none refl in omega (arith, zero, more)

-- a term without a number is in no document
module _ (i : Indexed) (complete : AreNumbered i) where
  without : (id : ℕ) (d : Document) (t : List ℕ) → document_at id i.live.documents ≡ Some d → is_some (number_of t i.terms) ≡ false → has_term t d.terms ≡ false
  without id d t at e = has_none t i.live.documents id d (complete t (some_number i t e)) at

  numbered_any : (id : ℕ) (d : Document) (ts : List (List ℕ)) → document_at id i.live.documents ≡ Some d → list_any (λ t. has_term t d.terms) (numbered i ts) ≡ list_any (λ t. has_term t d.terms) ts
  numbered_any id d [] at = refl
  numbered_any id d (t ∷ ts) at =
      or_step (is_some (number_of t i.terms)) (has_term t d.terms) t (numbered i ts) (λ t. has_term t d.terms) (list_any (λ t. has_term t d.terms) ts) refl (λ e. without id d t at e) (numbered_any id d ts at)

  numbered_sum : (id : ℕ) (d : Document) (ts : List (List ℕ)) → document_at id i.live.documents ≡ Some d → wdf_sum (numbered i ts) d.terms ≡ wdf_sum ts d.terms
  numbered_sum id d [] at = refl
  numbered_sum id d (t ∷ ts) at =
      sum_step (is_some (number_of t i.terms)) (wdf_of t d.terms) t (numbered i ts) d.terms (wdf_sum ts d.terms) refl (λ e. wdf_of-none t d.terms (without id d t at e)) (numbered_sum id d ts at)

  numbered_of : (id : ℕ) (ts : List (List ℕ)) (scheme : Scheme) (factor : ℕ) (o : Option Document) → document_at id i.live.documents ≡ o → score_of (Trees.synonym (numbered i ts)) scheme factor o ≡ score_of (Trees.synonym ts) scheme factor o
  numbered_of id ts scheme factor None at = refl
  numbered_of id ts scheme factor (Some d) at = λ j. weight_if (numbered_any id d ts at j) (weigh_by factor scheme (numbered_sum id d ts at j))

  pub numbered_score : (ts us : List (List ℕ)) (scheme : Scheme) (factor id : ℕ) → us ≡ numbered i ts → score_of (Trees.synonym us) scheme factor (document_at id i.live.documents) ≡ score_of (Trees.synonym ts) scheme factor (document_at id i.live.documents)
  numbered_score ts us scheme factor id e = ap (λ vs. score_of (Trees.synonym vs) scheme factor (document_at id i.live.documents)) e ∙ numbered_of id ts scheme factor (document_at id i.live.documents) refl

lengths_step : (b : Bool) (t : List ℕ) (us : List (List ℕ)) (docs : Docs) (n : ℕ) → lengths_of us docs ≤ n → lengths_of (cond b (t ∷ us) us) docs ≤ length_of t docs + n
lengths_step true t us docs n le = omega (arith, le)
lengths_step false t us docs n le = omega (arith, le)

pub numbered_readings : (i : Indexed) (ts : List (List ℕ)) → lengths_of (numbered i ts) i.live.documents ≤ lengths_of ts i.live.documents
numbered_readings i [] = omega arith
numbered_readings i (t ∷ ts) = lengths_step (is_some (number_of t i.terms)) t (numbered i ts) i.live.documents (lengths_of ts i.live.documents) (numbered_readings i ts)

neither : (a b : Bool) → not a ≡ true → not b ≡ true → not (a || b) ≡ true
neither true b g h = cc
neither false b g h = h

fewer_step : (b : Bool) (u : List ℕ) (us : List (List ℕ)) (f : List ℕ → Bool) → not (f u) ≡ true → not (list_any f us) ≡ true → not (list_any f (cond b (u ∷ us) us)) ≡ true
fewer_step true u us f e more = neither (f u) (list_any f us) e more
fewer_step false u us f e more = more

numbered_fewer : (i : Indexed) (t : List ℕ) (ts : List (List ℕ)) → not (list_any (λ other. bytes_eq t other) ts) ≡ true → not (list_any (λ other. bytes_eq t other) (numbered i ts)) ≡ true
numbered_fewer i t [] e = refl
numbered_fewer i t (u ∷ ts) e =
    let here = fewer (bytes_eq t u) (list_any (λ other. bytes_eq t other) ts) e in
    fewer_step (is_some (number_of u i.terms)) u (numbered i ts) (λ other. bytes_eq t other) here.0 (numbered_fewer i t ts here.1)

apart_step : (b : Bool) (t : List ℕ) (us : List (List ℕ)) → not (list_any (λ other. bytes_eq t other) us) ≡ true → are_different us ≡ true → are_different (cond b (t ∷ us) us) ≡ true
apart_step true t us e more = and_from (not (list_any (λ other. bytes_eq t other) us)) (are_different us) e more
apart_step false t us e more = more

pub numbered_apart : (i : Indexed) (ts : List (List ℕ)) → are_different ts ≡ true → are_different (numbered i ts) ≡ true
numbered_apart i [] e = refl
numbered_apart i (t ∷ ts) e =
    let here = and_parts (not (list_any (λ other. bytes_eq t other) ts)) (are_different ts) e in
    apart_step (is_some (number_of t i.terms)) t (numbered i ts) (numbered_fewer i t ts here.0) (numbered_apart i ts here.1)

pub synonym_apart : (factor : ℕ) (query : Trees.Tree) (ts : List (List ℕ)) → query ≡ Trees.synonym ts → is_sound factor query ≡ true → are_different ts ≡ true
synonym_apart factor query ts e sound = (and_parts (are_given ts) (are_different ts) (ap (is_sound factor) (sym e) ∙ sound)).1

pub synonym_at_most : (i : Indexed) (query : Trees.Tree) (ts : List (List ℕ)) (scheme : Scheme) (factor : ℕ) → query ≡ Trees.synonym ts → is_sound factor query ≡ true → All IsLight i.live.documents
    → (id : ℕ) → unwrap_or (score_of query scheme factor (document_at id i.live.documents)) 0 ≤ ceil query scheme factor i.live.documents
synonym_at_most i query ts scheme factor e sound light id =
    subst (λ q. unwrap_or (score_of q scheme factor (document_at id i.live.documents)) 0 ≤ ceil q scheme factor i.live.documents) (sym e)
    (synonym_bound scheme factor ts i.live.documents (synonym_apart factor query ts e sound) light id)

-- ---- a wildcard

or_many-named : (p : List ℕ → Bool) (f : ℕ → List ℕ) (ns : List ℕ) → list_any (λ n. p (f n)) ns ≡ list_any p (map f ns)
or_many-named p f [] = refl
or_many-named p f (n ∷ ns) = ap (λ b. p (f n) || b) (or_many-named p f ns)

sum-named : (f : ℕ → List ℕ) (terms : List DocTerm) (ns : List ℕ) → sum_by (λ n. wdf_of (f n) terms) ns ≡ wdf_sum (map f ns) terms
sum-named f terms [] = refl
sum-named f terms (n ∷ ns) = sum_by-cons (λ n. wdf_of (f n) terms) n ns ∙ ap (λ m. wdf_of (f n) terms + m) (sum-named f terms ns)

lengths-named : (f : ℕ → List ℕ) (docs : Docs) (ns : List ℕ) → sum_by (λ n. length_of (f n) docs) ns ≡ lengths_of (map f ns) docs
lengths-named f docs [] = refl
lengths-named f docs (n ∷ ns) = sum_by-cons (λ n. length_of (f n) docs) n ns ∙ ap (λ m. length_of (f n) docs + m) (lengths-named f docs ns)

module _ (i : Indexed) (prefix : List ℕ) (ns : List ℕ) (are : AreAllWith prefix i.terms i.live.documents ns) where
  pub wild_score : (scheme : Scheme) (factor id : ℕ) → score_of (Trees.synonym (map (term_at i.terms) ns)) scheme factor (document_at id i.live.documents) ≡ score_of (Trees.wildcard prefix) scheme factor (document_at id i.live.documents)
  wild_score scheme factor id = by (document_at id i.live.documents) refl
    where
      by : (o : Option Document) → document_at id i.live.documents ≡ o → score_of (Trees.synonym (map (term_at i.terms) ns)) scheme factor o ≡ score_of (Trees.wildcard prefix) scheme factor o
      by None at = refl
      by (Some d) at =
          λ j. weight_if ((sym (or_many-named (λ t. has_term t d.terms) (term_at i.terms) ns) ∙ sym (are.matches id d at)) j) (weigh_by factor scheme ((sym (sum-named (term_at i.terms) d.terms ns) ∙ sym (are.wdfs id d at)) j))

  pub wild_readings : lengths_of (map (term_at i.terms) ns) i.live.documents ≡ leaf_readings (Trees.wildcard prefix) i.live.documents
  wild_readings = sym (lengths-named (term_at i.terms) i.live.documents ns) ∙ are.lengths

there_by : (i : Indexed) (ms : List ℕ) → AllByRecursion (λ n. n < length i.terms) ms → AreThere i ms
there_by i [] rest = tt
there_by i (m ∷ ms) rest = (rest.0, there_by i ms rest.1)

-- terms in byte order are different
precedes_differs : (a b : List ℕ) → Precedes a b → bytes_eq a b ≡ false
precedes_differs a b before = by (bytes_eq a b) refl
  where
    by : (x : Bool) → bytes_eq a b ≡ x → x ≡ false
    by false e = refl
    by true e = absurd (true≢false (sym ((bytes_decides b a).1 (sym ((bytes_decides a b).0 e))) ∙ less_differs a b before))

wild_fewer : (f : ℕ → List ℕ) (n : ℕ) (ms : List ℕ) → AllByRecursion (λ m. Precedes (f n) (f m)) ms → not (list_any (λ other. bytes_eq (f n) other) (map f ms)) ≡ true
wild_fewer f n [] all = refl
wild_fewer f n (m ∷ ms) all = neither (bytes_eq (f n) (f m)) (list_any (λ other. bytes_eq (f n) other) (map f ms)) (ap not (precedes_differs (f n) (f m) all.0)) (wild_fewer f n ms all.1)

pub wild_apart : (f : ℕ → List ℕ) (ns : List ℕ) → AllPairs (λ m n. Precedes (f m) (f n)) ns → are_different (map f ns) ≡ true
wild_apart f [] rising = refl
wild_apart f (n ∷ ns) rising =
    and_from (not (list_any (λ other. bytes_eq (f n) other) (map f ns))) (are_different (map f ns))
    (wild_fewer f n ns (recursion_from_All (λ m. Precedes (f n) (f m)) ns (λ j d lt. rising 0 (suc j) d (omega arith) (omega arith))))
    (wild_apart f ns (λ j k d lt more. rising (suc j) (suc k) d (omega arith) (omega arith)))

pub wild_there : (i : Indexed) (ns : List ℕ) → All (λ n. n < length i.terms) ns → AreThere i ns
wild_there i ns all = there_by i ns (recursion_from_All (λ n. n < length i.terms) ns all)

greatests-named : (f : ℕ → List ℕ) (docs : Docs) (ns : List ℕ) → sum_by (λ n. greatest_of (f n) docs) ns ≡ greatests_of (map f ns) docs
greatests-named f docs [] = refl
greatests-named f docs (n ∷ ns) = sum_by-cons (λ n. greatest_of (f n) docs) n ns ∙ ap (λ m. greatest_of (f n) docs + m) (greatests-named f docs ns)

no_lengths : (ts : List (List ℕ)) → lengths_of ts [] ≡ 0
no_lengths [] = refl
no_lengths (t ∷ ts) = let more = no_lengths ts in omega (arith, more)

some_live : (ts : List (List ℕ)) (docs : Docs) → 0 < lengths_of ts docs → 0 < length docs
some_live ts [] lt = absurd (omega (arith, lt, no_lengths ts))
some_live ts (one ∷ more) lt = omega arith

joint_le : (scheme : Scheme) (factor live long greatest : ℕ) → (0 < long → 0 < live) → joint_ceil scheme factor long greatest ≤ joint_ceil scheme factor (min live long) (min (2 ^ 29 - 1) greatest)
joint_le scheme factor live long greatest some = by (nat_lt 0 long) refl
  where
    w : ℕ
    w = weigh_by factor scheme (min (2 ^ 29 - 1) greatest)

    same : w ≡ weigh_by factor scheme (min (2 ^ 29 - 1) (min (2 ^ 29 - 1) greatest))
    same = let e : min (2 ^ 29 - 1) greatest ≡ min (2 ^ 29 - 1) (min (2 ^ 29 - 1) greatest) = omega arith in ap (weigh_by factor scheme) e

    is_some : nat_lt 0 long ≡ true → nat_lt 0 (min live long) ≡ true
    is_some e = more (long_some e) (some (long_some e))
      where
        long_some : nat_lt 0 long ≡ true → 0 < long
        long_some e = grind (arith, nat_tests)

        more : 0 < long → 0 < live → nat_lt 0 (min live long) ≡ true
        more p q = let both : 0 < min live long = omega (arith, p, q) in lt_true (min live long) both
          where
            lt_true : (n : ℕ) → 0 < n → nat_lt 0 n ≡ true
            lt_true n h = grind (arith, nat_tests)

    by : (b : Bool) → nat_lt 0 long ≡ b → (cond b w 0) ≤ joint_ceil scheme factor (min live long) (min (2 ^ 29 - 1) greatest)
    by false e = omega arith
    by true e = subst (λ c. w ≤ cond c (weigh_by factor scheme (min (2 ^ 29 - 1) (min (2 ^ 29 - 1) greatest))) 0) (sym (is_some e)) (omega (arith, same))

-- no document weighs more under a wildcard than it can
pub wild_at_most : (i : Indexed) (query : Trees.Tree) (prefix : List ℕ) (ns : List ℕ) (scheme : Scheme) (factor : ℕ) → query ≡ Trees.wildcard prefix → AreAllWith prefix i.terms i.live.documents ns → All IsLight i.live.documents
    → (id : ℕ) → unwrap_or (score_of query scheme factor (document_at id i.live.documents)) 0 ≤ ceil query scheme factor i.live.documents
wild_at_most i query prefix ns scheme factor e are light id =
    let docs = i.live.documents in
    let ts = map (term_at i.terms) ns in
    let bound = synonym_bound scheme factor ts docs (wild_apart (term_at i.terms) ns are.rising) light id in
    let long : lengths_of ts docs ≡ sum_by (λ t. length_of t docs) (terms_with prefix docs) = sym (lengths-named (term_at i.terms) docs ns) ∙ are.lengths in
    let great : greatests_of ts docs ≡ sum_by (λ t. greatest_of t docs) (terms_with prefix docs) = sym (greatests-named (term_at i.terms) docs ns) ∙ are.greatest in
    let less : ceil (Trees.synonym ts) scheme factor docs ≤ ceil (Trees.wildcard prefix) scheme factor docs
    = subst (λ m. joint_ceil scheme factor (lengths_of ts docs) (greatests_of ts docs) ≤ joint_ceil scheme factor (min (length docs) m) (wild_greatest_of prefix docs)) long
    (subst (λ m. joint_ceil scheme factor (lengths_of ts docs) (greatests_of ts docs) ≤ joint_ceil scheme factor (min (length docs) (lengths_of ts docs)) (min (2 ^ 29 - 1) m)) great
    (joint_le scheme factor (length docs) (lengths_of ts docs) (greatests_of ts docs) (some_live ts docs))) in
    subst (λ q. unwrap_or (score_of q scheme factor (document_at id docs)) 0 ≤ ceil q scheme factor docs) (sym e)
    (subst (λ o. unwrap_or o 0 ≤ ceil (Trees.wildcard prefix) scheme factor docs) (wild_score i prefix ns are scheme factor id) (omega (arith, bound, less)))
