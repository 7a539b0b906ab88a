-- How the lists of many terms are opened, one behind the other, and what one node of them all gives.
use Rattle.std.proofs.Common.{◌≡◌, ◌≤◌, ◌<◌, ◌+◌, ◌-◌, ◌^◌, ◌++◌, ℕ, zero, suc, min, List, [], ◌∷◌, length, map, take, get_or, All, Option, None, Some, true, refl, sym, subst, ap, ◌∙◌, arith}
use Rattle.std.specs.List.{remove}
use Rattle.std.proofs.lemmas.List.Edits.{length-remove}
use Rattle.std.proofs.lemmas.List.Elements.{All-more, All-weaker}
use Rattle.std.proofs.lemmas.List.{length-append, length-map, length-take-le, map-append, take_all, take_more}
use Rattle.sk_base.specs.declared.find.Scheme.{Scheme}
use Rattle.sk_base.specs.Loads.{IsLight}
use Rattle.sk_base.specs.Numbers.{Docs}
use Rattle.sk_sorted.specs.Entries.{AreSorted}
use Rattle.sk_buckets.specs.declared.mark.Mark.{Mark}
use Rattle.sk_dict.specs.Terms.{term_at}
use Rattle.sk_query.specs.declared.form.Form.{Form}
use Rattle.sk_query.specs.Trees as Trees
use Rattle.sk_query.specs.Fits.{are_different}
use Rattle.sk_model.specs.Documents.{Document}
use Rattle.sk_model.specs.Edits.{document_at}
use Rattle.sk_model.specs.Combining.{either, sum_of_any}
use Rattle.sk_model.specs.Bounds.{lengths_of}
use Rattle.sk_model.proofs.CombiningLaws.{either-end, either-apart, either-turned, sum_of_any-append}
use Rattle.sk_index.specs.Indexed.{Indexed}
use Rattle.sk_nodes.specs.declared.top.Top.{Top}
use Rattle.sk_nodes.specs.declared.leaf.Leaf.{Leaf}
use Rattle.sk_nodes.specs.declared.wdfs.Wdfs.{Wdfs}
use Rattle.sk_nodes.specs.declared.leaf.ListOf.{ListOf}
use Rattle.sk_nodes.specs.Leaves.{AtMost, IsFresh, list_in, weighed, leaf_greatest, leaf_rest}
use Rattle.sk_nodes.specs.Shapes.{Shape, leaf, or_many, Sides, no_sides, side, top_at, leaf_at, merged}
use Rattle.sk_nodes.specs.Left.{rests, unread_in, greatest_sum}
use Rattle.sk_nodes.specs.Sound.{IsTop}
use Rattle.sk_nodes.specs.Many.{followed_by}
use Rattle.sk_nodes.specs.Proximity.{AreThere}
use Rattle.sk_nodes.specs.Begun.{Yields}
use Rattle.sk_nodes.proofs.ManyLaws.{rests_behind, sound_behind, greatest_behind, unread_behind}
use Rattle.sk_nodes.proofs.OrManyLaws.{rooms_behind, nests_behind}
use Rattle.sk_tree.specs.Opened.{score_of, wdfs_of, Opens}
use Rattle.sk_tree.specs.OpenedAccounts.{OpensList}
use Rattle.sk_tree.specs.Nests.{entered, OpensNest}
use Rattle.sk_tree.specs.Readings.{Pays, CountsReadings}
use Rattle.sk_tree.specs.Sums.{OpensSums}
use Rattle.sk_tree.proofs.TermLaws.{weighed-term, greatest-term}
use Rattle.sk_tree.proofs.NestLaws.{entered-append, term_nest}
use Rattle.sk_tree.proofs.SynonymLaws.{lengths_of-append, wdfs-split, term_small, one_score, sums_capped}

-- ---- the terms that are opened already

pub there_at : (i : Indexed) (ns : List ℕ) (k d : ℕ) → k < length ns → AreThere i ns → get_or ns k d < length i.terms
there_at i [] k d lt there = absurd (omega (arith, lt))
there_at i (n ∷ ns) zero d lt there = there.0
there_at i (n ∷ ns) (suc k) d lt there = there_at i ns k d (omega (arith, lt)) there.1

-- a bound on what stands before an element, and on that element
pub within_next : (f : ℕ → ℕ) (ns : List ℕ) (k d most more : ℕ) → k < length ns → most ≤ more → f (get_or ns k d) ≤ more → All (λ n. f n ≤ most) (take k ns) → All (λ n. f n ≤ more) (take (k + 1) ns)
within_next f ns k d most more lt le here before =
    All-more (λ n. f n ≤ more) ns k d lt (All-weaker (λ n. f n ≤ most) (λ n. f n ≤ more) (λ n h. omega (arith, h, le)) (take k ns) before) here

-- ---- all terms but one

remove_behind : (ns : List ℕ) (m k : ℕ) → (length ns ≡ k → ⊥) → remove (ns ++ m ∷ []) k ≡ remove ns k ++ m ∷ []
remove_behind [] m zero other = absurd (other refl)
remove_behind [] m (suc zero) other = refl
remove_behind [] m (suc (suc k)) other = refl
remove_behind (n ∷ ns) m zero other = refl
remove_behind (n ∷ ns) m (suc k) other = ap (λ (ms : List ℕ). n ∷ ms) (remove_behind ns m k (λ e. other (ap suc e)))

remove_last : (ns : List ℕ) (m k : ℕ) → length ns ≡ k → remove (ns ++ m ∷ []) k ≡ remove ns k
remove_last [] m zero e = refl
remove_last [] m (suc k) e = absurd (omega (arith, e))
remove_last (n ∷ ns) m zero e = absurd (omega (arith, e))
remove_last (n ∷ ns) m (suc k) e = ap (λ (ms : List ℕ). n ∷ ms) (remove_last ns m k (omega (arith, e)))

module _ (ns : List ℕ) (k d w : ℕ) (lt : k < length ns) where
  long : length (take k ns) ≡ k
  long = length-take-le k ns (omega (arith, lt))

  pub others_next : (f : ℕ → List ℕ) → (k ≡ w → ⊥) → map f (remove (take (k + 1) ns) w) ≡ map f (remove (take k ns) w) ++ f (get_or ns k d) ∷ []
  others_next f other =
      ap (λ ms. map f (remove ms w)) (take_more ns k d lt) ∙ ap (map f) (remove_behind (take k ns) (get_or ns k d) w (λ e. other (sym long ∙ e)))
      ∙ map-append f (remove (take k ns) w) (get_or ns k d ∷ [])

  pub others_same : k ≡ w → remove (take (k + 1) ns) w ≡ remove (take k ns) w
  others_same e = ap (λ ms. remove ms w) (take_more ns k d lt) ∙ remove_last (take k ns) (get_or ns k d) w (long ∙ e)

pub others_all : (ns : List ℕ) (k w : ℕ) → length ns ≤ k → remove (take k ns) w ≡ remove ns w
others_all ns k w le = ap (λ ms. remove ms w) (take_all k ns le)

-- ---- one list

-- a mark and a list behind others
pub merged_next : (ms ns : List Mark) (ls ks : List Wdfs) (m : Mark) (l : Wdfs) → length ms ≡ length ls → ns ≡ ms ++ m ∷ [] → ks ≡ ls ++ l ∷ []
    → merged ns ks ≡ followed_by (merged ms ls) (merged (m ∷ []) (l ∷ []))
merged_next ms ns ls ks m l even e f = (λ j. merged (e j) (f j)) ∙ behind ms ls even
  where
    behind : (ms : List Mark) (ls : List Wdfs) → length ms ≡ length ls → merged (ms ++ m ∷ []) (ls ++ l ∷ []) ≡ followed_by (merged ms ls) (merged (m ∷ []) (l ∷ []))
    behind [] [] e = refl
    behind [] (k ∷ ls) e = absurd (omega (arith, e))
    behind (n ∷ ms) [] e = absurd (omega (arith, e))
    behind (n ∷ ms) (k ∷ ls) e = ap (side (top_at n) (leaf (leaf_at n k))) (behind ms ls (omega (arith, e)))

pub even_next : (ms ns : List Mark) (ls ks : List Wdfs) (m : Mark) (l : Wdfs) → length ms ≡ length ls → ns ≡ ms ++ m ∷ [] → ks ≡ ls ++ l ∷ [] → length ns ≡ length ks
even_next ms ns ls ks m l even e f = ap length e ∙ length-append ms (m ∷ []) ∙ ap (λ n. n + 1) even ∙ sym (length-append ls (l ∷ [])) ∙ ap length (sym f)

pub few_next : (ms ns : List Mark) (m : Mark) (k : ℕ) → length ms ≤ k → ns ≡ ms ++ m ∷ [] → length ns ≤ k + 1
few_next ms ns m k few e = omega (arith, few, ap length e, length-append ms (m ∷ []))

-- a leaf that was opened for the wdfs of a term, as one of many lists: its mark says what it can weigh
module _ (i : Indexed) (t : Top) (l : Leaf) (m : Mark) (w : Wdfs) (n : ℕ) (at : top_at m ≡ t) (is : w ≡ record { number = n; cursor = l.cursor }) (fresh : IsFresh (ListOf.Term n) Scheme.Nnn 1 l) where
  abbrev bounded : Leaf
  bounded = record l { greatest = m.greatest }

  same_leaf : bounded ≡ leaf_at m w
  same_leaf =
      (λ j. record { source = fresh.source j; scheme = fresh.scheme j; factor = fresh.factor j; cursor = l.cursor; need_wdf = fresh.need_wdf j; need = fresh.need j; greatest = m.greatest })
      ∙ ap (leaf_at m) (sym is)

  same_side : side t (leaf bounded) no_sides ≡ side (top_at m) (leaf (leaf_at m w)) no_sides
  same_side = λ j. side (sym at j) (leaf (same_leaf j)) no_sides

  bounded_sums : (terms : List (List ℕ)) (before after : ℕ) → OpensSums i (side t (leaf l) no_sides) terms before after → OpensSums i (side t (leaf bounded) no_sides) terms before after
  bounded_sums terms before after opens =
      let top = opens.sound.top in
      let on = opens.sound.sound in
      let much : m.greatest ≡ t.greatest = ap (λ (u : Top). u.greatest) at in
      record {
        sound = record {
          top = record { head = top.head; bound = top.bound; summed = λ lt. omega (arith, much); closed = top.closed };
          sound = record {
            there = on.there;
            factor = on.factor;
            on = on.on;
            runs = on.runs;
            light = on.light;
            bound = subst (λ g. AtMost g (leaf_rest i l)) (sym much) top.bound;
            live = on.live;
          };
          others = tt;
        };
        gives = opens.gives;
        ceiling = opens.ceiling;
        nests = opens.nests;
        account = opens.account;
      }

  pub wdfs_sums : (terms : List (List ℕ)) (before after : ℕ) → OpensSums i (side t (leaf l) no_sides) terms before after → OpensSums i (merged (m ∷ []) (w ∷ [])) terms before after
  wdfs_sums terms before after opens = subst (λ (ss : Sides). OpensSums i ss terms before after) same_side (bounded_sums terms before after opens)

  pub wdfs_unread : unread_in i (merged (m ∷ []) (w ∷ [])) ≡ unread_in i (side t (leaf l) no_sides)
  wdfs_unread = sym (ap (unread_in i) same_side)

pub mark_small : (i : Indexed) (t : Top) (l : Leaf) (term : List ℕ) (before after : ℕ) → OpensSums i (side t (leaf l) no_sides) (term ∷ []) before after → t.greatest < 2 ^ 32
mark_small i t l term before after opens = omega (arith, opens.ceiling)

-- the list of one term
pub list_sums : (i : Indexed) (l : Leaf) (t : Top) (n before after : ℕ) → All IsLight i.live.documents → AreSorted i.live.documents
    → Yields i t (leaf l) (weighed 1 Scheme.Nnn (list_in i (ListOf.Term n))) (leaf_greatest 1 Scheme.Nnn (list_in i (ListOf.Term n)))
    → OpensList i t (leaf l) (list_in i (ListOf.Term n)) (leaf_greatest 1 Scheme.Nnn (list_in i (ListOf.Term n))) before after
    → OpensSums i (side t (leaf l) no_sides) (term_at i.terms n ∷ []) before after
list_sums i l t n before after light sorted yields list =
    let term = term_at i.terms n in
    let docs = i.live.documents in
    record {
      sound = record { top = yields.top; sound = yields.sound; others = tt };
      gives = λ id. either-end (leaf_rest i l id) ∙ yields.gives id ∙ weighed-term 1 Scheme.Nnn term docs sorted id ∙ one_score Scheme.Nnn 1 term (document_at id docs);
      ceiling = let own = subst (λ g. t.greatest ≤ g) (greatest-term 1 Scheme.Nnn term docs) yields.ceiling in omega (arith, own, term_small Scheme.Nnn 1 term docs light);
      nests = (list.nest Form.Or, tt);
      account = λ point. let p = (term_nest i Form.Or (leaf l) n before after (list.nest Form.Or) list.entered).account point in omega (arith, p);
    }

-- ---- of no term, and of more behind others

pub none_sums : (i : Indexed) (spent : ℕ) → OpensSums i no_sides [] spent spent
none_sums i spent = record { sound = tt; gives = λ id. none (document_at id i.live.documents); ceiling = omega arith; nests = tt; account = λ point. omega arith }
  where
    none : (o : Option Document) → None ≡ score_of (Trees.synonym []) Scheme.Nnn 1 o
    none None = refl
    none (Some d) = refl

module _ (i : Indexed) (us ss rs : Sides) (zs xs ys : List (List ℕ)) (is : us ≡ followed_by ss rs) (named : zs ≡ xs ++ ys) where
  pub sums_both : (s0 s1 s2 : ℕ) → OpensSums i ss xs s0 s1 → OpensSums i rs ys s1 s2 → OpensSums i us zs s0 s2
  sums_both s0 s1 s2 one two =
      subst (λ (vs : Sides). OpensSums i vs zs s0 s2) (sym is) (subst (λ (ts : List (List ℕ)). OpensSums i (followed_by ss rs) ts s0 s2) (sym named) (record {
        sound = sound_behind i ss rs one.sound two.sound;
        gives = λ id. ap sum_of_any (rests_behind i ss rs id) ∙ sum_of_any-append (rests i ss id) (rests i rs id) ∙ (λ j. either (one.gives id j) (two.gives id j)) ∙ sym (wdfs-split xs ys (document_at id i.live.documents));
        ceiling = omega (arith, greatest_behind ss rs, one.ceiling, two.ceiling, length-append xs ys);
        nests = nests_behind ss rs one.nests two.nests;
        account = λ point.
            let p = one.account point in
            let q = two.account point in
            omega (arith, p, q, rooms_behind i point ss rs, entered-append xs ys point i.live.documents);
      }))

  pub pays_both : (s0 s1 s2 m0 m1 m2 : ℕ) → Pays s0 s1 m0 m1 (unread_in i ss) (lengths_of xs i.live.documents) → Pays s1 s2 m1 m2 (unread_in i rs) (lengths_of ys i.live.documents)
      → Pays s0 s2 m0 m2 (unread_in i us) (lengths_of zs i.live.documents)
  pays_both s0 s1 s2 m0 m1 m2 one two =
      let unread = ap (unread_in i) is ∙ unread_behind i ss rs in
      let long = ap (λ ts. lengths_of ts i.live.documents) named ∙ lengths_of-append xs ys i.live.documents in
      record { paid = omega (arith, one.paid, two.paid, unread); within = omega (arith, one.within, two.within, long); room = two.room }

pub counts_both : (s0 s1 s2 t0 t1 t2 m1 m2 : ℕ) → CountsReadings s0 s1 t0 t1 m1 → CountsReadings s1 s2 t1 t2 m2 → CountsReadings s0 s2 t0 t2 m2
counts_both s0 s1 s2 t0 t1 t2 m1 m2 one two = record { counted = omega (arith, one.counted, two.counted); later = omega (arith, one.later, two.later); small = two.small }

-- ---- of one term before all others

module _ (f : ℕ → List ℕ) (d : ℕ) where
  moved_lengths : (docs : Docs) (ns : List ℕ) (w : ℕ) → w < length ns → lengths_of (map f ns) docs ≡ lengths_of (f (get_or ns w d) ∷ map f (remove ns w)) docs
  moved_lengths docs [] w lt = absurd (omega (arith, lt))
  moved_lengths docs (n ∷ ns) zero lt = refl
  moved_lengths docs (n ∷ ns) (suc w) lt = let rest = moved_lengths docs ns w (omega (arith, lt)) in omega (arith, rest)

  moved_entered : (id : ℕ) (docs : Docs) (ns : List ℕ) (w : ℕ) → w < length ns → entered (map f ns) id docs ≡ entered (f (get_or ns w d) ∷ map f (remove ns w)) id docs
  moved_entered id docs [] w lt = absurd (omega (arith, lt))
  moved_entered id docs (n ∷ ns) zero lt = refl
  moved_entered id docs (n ∷ ns) (suc w) lt = let rest = moved_entered id docs ns w (omega (arith, lt)) in omega (arith, rest)

  moved_wdfs : (o : Option Document) (ns : List ℕ) (w : ℕ) → w < length ns
      → score_of (Trees.synonym (f (get_or ns w d) ∷ map f (remove ns w))) Scheme.Nnn 1 o ≡ score_of (Trees.synonym (map f ns)) Scheme.Nnn 1 o
  moved_wdfs o [] w lt = absurd (omega (arith, lt))
  moved_wdfs o (n ∷ ns) zero lt = refl
  moved_wdfs o (n ∷ ns) (suc w) lt =
      let x = f (get_or ns w d) in
      let ts = map f (remove ns w) in
      wdfs-split (x ∷ []) (f n ∷ ts) o ∙ ap (either (score x)) (wdfs-split (f n ∷ []) ts o) ∙ sym (either-apart (score x) (score (f n)) (scores ts)) ∙ ap (λ s. either s (scores ts)) (either-turned (score x) (score (f n)))
      ∙ either-apart (score (f n)) (score x) (scores ts) ∙ ap (either (score (f n))) (sym (wdfs-split (x ∷ []) ts o) ∙ moved_wdfs o ns w (omega (arith, lt))) ∙ sym (wdfs-split (f n ∷ []) (map f ns) o)
    where
      scores : List (List ℕ) → Option ℕ
      scores ts = score_of (Trees.synonym ts) Scheme.Nnn 1 o

      score : List ℕ → Option ℕ
      score t = scores (t ∷ [])

module _ (i : Indexed) (t : Top) (l : Leaf) (ss : Sides) (ns : List ℕ) (w d : ℕ) (lt : w < length ns) where
  abbrev named : List ℕ → List (List ℕ)
  named ms = map (term_at i.terms) ms

  abbrev first : List (List ℕ)
  first = term_at i.terms (get_or ns w d) ∷ []

  pub sums_all : (s0 s1 s2 : ℕ) → OpensSums i (side t (leaf l) no_sides) first s0 s1 → OpensSums i ss (named (remove ns w)) s1 s2 → OpensSums i (side t (leaf l) ss) (named ns) s0 s2
  sums_all s0 s1 s2 one others =
      let both = sums_both i (side t (leaf l) ss) (side t (leaf l) no_sides) ss (first ++ named (remove ns w)) first (named (remove ns w)) refl refl s0 s1 s2 one others in
      record {
        sound = both.sound;
        gives = λ id. both.gives id ∙ moved_wdfs (term_at i.terms) d (document_at id i.live.documents) ns w lt;
        ceiling = omega (arith, both.ceiling, length-map ns (term_at i.terms), length-map (remove ns w) (term_at i.terms), length-remove ns w lt);
        nests = both.nests;
        account = λ point. let p = both.account point in omega (arith, p, moved_entered (term_at i.terms) d point i.live.documents ns w lt);
      }

  pub pays_all : (s0 s1 s2 m0 m1 m2 : ℕ) → Pays s0 s1 m0 m1 (unread_in i (side t (leaf l) no_sides)) (lengths_of first i.live.documents)
      → Pays s1 s2 m1 m2 (unread_in i ss) (lengths_of (named (remove ns w)) i.live.documents) → Pays s0 s2 m0 m2 (unread_in i (side t (leaf l) ss)) (lengths_of (named ns) i.live.documents)
  pays_all s0 s1 s2 m0 m1 m2 one others =
      let both = pays_both i (side t (leaf l) ss) (side t (leaf l) no_sides) ss (first ++ named (remove ns w)) first (named (remove ns w)) refl refl s0 s1 s2 m0 m1 m2 one others in
      record { paid = both.paid; within = omega (arith, both.within, moved_lengths (term_at i.terms) d i.live.documents ns w lt); room = both.room }

-- ---- the node of all lists

pub merge_opened : (i : Indexed) (t u : Top) (s : Shape) (ss : Sides) (ns : List ℕ) (before after : ℕ) → s ≡ or_many ss → u.head ≡ t.head → u.weight ≡ t.weight → u.greatest ≡ min t.greatest (2 ^ 29 - 1)
    → are_different (map (term_at i.terms) ns) ≡ true → All IsLight i.live.documents → greatest_sum ss < 2 ^ 127 → IsTop i t (or_many ss) → OpensSums i ss (map (term_at i.terms) ns) before after
    → Opens i u s (wdfs_of i ns) (2 ^ 29 - 1)
merge_opened i t u s ss ns before after is e f h apart light fits top opens =
    subst (λ (r : Shape). Opens i u r (wdfs_of i ns) (2 ^ 29 - 1)) (sym is)
    (sums_capped i t u (or_many ss) ns e f h apart light top (record { sides = opens.sound; fits = fits }) opens.gives)

pub merge_nest : (i : Indexed) (s : Shape) (ss : Sides) (lists : List (List ℕ)) (before after : ℕ) → s ≡ or_many ss → OpensSums i ss lists before after → OpensNest i Form.Or s lists before after
merge_nest i s ss lists before after is opens = subst (λ (r : Shape). OpensNest i Form.Or r lists before after) (sym is) (record { nest = (refl, opens.nests); account = opens.account })
