-- How nests over terms are opened.
use Rattle.std.proofs.Common.{◌≡◌, ◌≤◌, ◌<◌, ◌+◌, ◌-◌, ◌⊎◌, ◌++◌, ◌||◌, ℕ, min, cond, Bool, true, false, not, List, [], ◌∷◌, length, map, sum_by, slice_index_or, bytes_eq, is_some, Option, None, Some, inl, inr, refl, sym, subst, ap, ◌∙◌, arith}
use Rattle.std.specs.Option.{option_map}
use Rattle.std.specs.List.{list_any, AllByRecursion}
use Rattle.std.proofs.lemmas.Bool.{cases_lt, and_parts}
use Rattle.std.proofs.lemmas.List.Elements.{recursion_from_All}
use Rattle.std.proofs.lemmas.List.Sums.{sum_by-cons}
use Rattle.sk_base.specs.Documents.{begins_with}
use Rattle.sk_base.specs.Numbers.{Docs, length_of, some_has, terms_with}
use Rattle.sk_lists.specs.Seeks.{count_to}
use Rattle.sk_query.specs.declared.form.Form.{Form}
use Rattle.sk_query.specs.Trees as Trees
use Rattle.sk_model.specs.Sharp.{up, ups, terms_in, flat_lists}
use Rattle.sk_dict.specs.Terms.{term_at, number_of}
use Rattle.sk_model.proofs.HeldLaws.{is_in, member, without, taken, still}
use Rattle.sk_query.specs.Fits.{are_different}
use Rattle.sk_index.specs.Indexed.{Indexed, postings, AreAllWith}
use Rattle.sk_index.proofs.NumberLemmas.{length-postings, none_listed, count_to-postings}
use Rattle.sk_tree.proofs.SynonymLaws.{wild_apart, only_one}
use Rattle.sk_nodes.specs.declared.top.Top.{Top}
use Rattle.sk_nodes.specs.declared.leaf.ListOf.{ListOf}
use Rattle.sk_nodes.specs.Leaves.{list_in}
use Rattle.sk_nodes.specs.Shapes.{Shape, ended, leaf, pair, or_many, synonym, Sides, no_sides, side}
use Rattle.sk_nodes.specs.Left.{rest}
use Rattle.sk_tree.specs.Opened.{numbered, is_nest, others_of}
use Rattle.sk_base.specs.declared.find.Scheme.{Scheme}
use Rattle.sk_nodes.specs.Moved.{flat_to, plain_to, nest_behind, Accounts}
use Rattle.sk_nodes.specs.Flat.{room_to, IsFlat, AreFlat, IsPlain, IsNest, AreNests}
use Rattle.sk_tree.specs.Nests.{IsJoint, entered, PairsNest, OpensAsOne, OpensNest, OpensFlat, SplitsTerms}
use Rattle.sk_tree.proofs.OpenLaws.{joined, is_xor}
use Rattle.sk_nodes.proofs.StopLaws.{flat-mono}

-- ---- nests are flat or plain

mutual
  pub nest_flat : (s : Shape) → IsNest Form.Or s → IsFlat 0 s
  nest_flat ended h = tt
  nest_flat (leaf l) h = tt
  nest_flat (pair form ta a tb b) h =
      subst (λ (f : Form). IsFlat 0 (pair f ta a tb b)) (sym h.0) (tt, (flat-mono a 0 (0 - tb.greatest) (omega arith) (nest_flat a h.1.0), flat-mono b 0 (0 - ta.greatest) (omega arith) (nest_flat b h.1.1)))
  nest_flat (or_many ss) h = nests_flat ss h.1
  nest_flat (synonym scheme factor t s) h = absurd h
  nest_flat _ h = h

  pub nests_flat : (ss : Sides) → AreNests Form.Or ss → AreFlat ss
  nests_flat no_sides h = tt
  nests_flat (side t s ss) h = (nest_flat s h.0, nests_flat ss h.1)

pub nest_plain : (s : Shape) → IsNest Form.Max s → IsPlain s
nest_plain ended h = tt
nest_plain (leaf l) h = tt
nest_plain (pair form ta a tb b) h = subst (λ (f : Form). IsPlain (pair f ta a tb b)) (sym h.0) (nest_plain a h.1.0, nest_plain b h.1.1)
nest_plain (or_many ss) h = absurd (other h.0)
  where
    other : Form.Max ≡ Form.Or → ⊥
    other e = cc
nest_plain _ h = h

pub plain_nest : (s : Shape) → IsPlain s → IsNest Form.Max s
plain_nest ended h = tt
plain_nest (leaf l) h = tt
plain_nest (pair Form.Max ta a tb b) h = (refl, (plain_nest a h.0, plain_nest b h.1))
plain_nest _ h = absurd h

-- ---- two nests become one

module _ (i : Indexed) (form : Form) (before after : ℕ) (ta : Top) (a : Shape) (tb : Top) (b s : Shape) (accounts : Accounts i 0 0 before after (pair form ta a tb b) s) (first : IsNest form a) (second : IsNest form b) where
  by_or : form ≡ Form.Or → PairsNest i form a b s before after
  by_or e =
      let whole : IsNest Form.Or (pair form ta a tb b) = (e, (subst (λ (f : Form). IsNest f a) e first, subst (λ (f : Form). IsNest f b) e second)) in
      record {
        nest = subst (λ (f : Form). IsNest f s) (sym e) ((accounts.keeps (nest_behind 0 0)).kind (refl, whole)).1;
        account = λ point. (accounts.keeps (flat_to point)).paid (nest_flat (pair form ta a tb b) whole) (inr (inl (refl, omega arith)));
      }

  by_max : form ≡ Form.Max → PairsNest i form a b s before after
  by_max e =
      let plain : IsPlain (pair form ta a tb b) = nest_plain (pair form ta a tb b) (e, (subst (λ (f : Form). IsNest f a) e first, subst (λ (f : Form). IsNest f b) e second)) in
      record {
        nest = subst (λ (f : Form). IsNest f s) (sym e) (plain_nest s ((accounts.keeps (plain_to 0)).kind plain));
        account = λ point. (accounts.keeps (plain_to point)).paid plain (omega arith);
      }

  pub paired_nest : IsJoint form → PairsNest i form a b s before after
  paired_nest (inl e) = by_or e
  paired_nest (inr e) = by_max e

-- ---- over lists

pub entered-append : (xs ys : List (List ℕ)) (id : ℕ) (docs : Docs) → entered (xs ++ ys) id docs ≡ entered xs id docs + entered ys id docs
entered-append [] ys id docs = omega arith
entered-append (x ∷ xs) ys id docs = let rest = entered-append xs ys id docs in omega (arith, rest)

pub entered_le : (xs : List (List ℕ)) (id : ℕ) (docs : Docs) → entered xs id docs ≤ ups xs id docs
entered_le [] id docs = omega arith
entered_le (x ∷ xs) id docs = let rest = entered_le xs id docs in omega (arith, rest)

pub split_entered : (lists first second : List (List ℕ)) (id : ℕ) (docs : Docs) → (lists ≡ first ++ second) ⊎ (lists ≡ second ++ first) → entered lists id docs ≡ entered first id docs + entered second id docs
split_entered lists first second id docs (inl e) = ap (λ ts. entered ts id docs) e ∙ entered-append first second id docs
split_entered lists first second id docs (inr e) = let whole = ap (λ ts. entered ts id docs) e ∙ entered-append second first id docs in omega (arith, whole)

-- what two nests were opened for
pub joined_nest : (i : Indexed) (form : Form) (a b s : Shape) (lists first second : List (List ℕ)) (s0 s1 s2 s3 : ℕ) → OpensNest i form a first s0 s1 → OpensNest i form b second s1 s2
    → PairsNest i form a b s s2 s3 → (lists ≡ first ++ second) ⊎ (lists ≡ second ++ first) → OpensNest i form s lists s0 s3
joined_nest i form a b s lists first second s0 s1 s2 s3 one two both whole = record {
  nest = both.nest;
  account = λ point.
      let p = one.account point in
      let q = two.account point in
      let r = both.account point in
      omega (arith, p, q, r, split_entered lists first second point i.live.documents whole);
}

-- the same by the parts
pub split_nest : (i : Indexed) (form other : Form) (a b s : Shape) (lists : List (List ℕ)) (front back : Option (List (List ℕ))) (s0 s1 s2 s3 : ℕ) → IsJoint form → other ≡ form
    → ((xs : List (List ℕ)) → IsJoint form → front ≡ Some xs → OpensNest i form a xs s0 s1)
    → ((ys : List (List ℕ)) → IsJoint other → back ≡ Some ys → OpensNest i other b ys s1 s2)
    → (IsJoint form → IsNest form a → IsNest form b → PairsNest i form a b s s2 s3) → SplitsTerms lists front back → OpensNest i form s lists s0 s3
split_nest i form other a b s lists front back s0 s1 s2 s3 joint same one two both split =
    let first = one split.first joint split.front_is in
    let second = subst (λ (f : Form). OpensNest i f b split.second s1 s2) same (two split.second (subst (λ (f : Form). IsJoint f) (sym same) joint) split.back_is) in
    joined_nest i form a b s lists split.first split.second s0 s1 s2 s3 first second (both joint first.nest second.nest) split.whole

-- an opened nest is a node of terms alone
pub nest_opens : (i : Indexed) (form : Form) (s : Shape) (lists : List (List ℕ)) (before after : ℕ) → IsJoint form → OpensNest i form s lists before after → OpensFlat i s lists before after
nest_opens i form s lists before after joint opens = record {
  shape = by joint;
  account = λ point. let p = opens.account point in omega (arith, p, entered_le lists point i.live.documents);
}
  where
    by : IsJoint form → IsFlat 0 s ⊎ IsPlain s
    by (inl e) = inl (nest_flat s (subst (λ (f : Form). IsNest f s) e opens.nest))
    by (inr e) = inr (nest_plain s (subst (λ (f : Form). IsNest f s) e opens.nest))

-- a term that no document has
pub none_nest : (i : Indexed) (form : Form) (s : Shape) (lists : List (List ℕ)) (spent : ℕ) → s ≡ ended → OpensNest i form s lists spent spent
none_nest i form s lists spent e = record {
  nest = subst (λ (s : Shape). IsNest form s) (sym e) tt;
  account = λ point. let none : room_to i point s ≡ 0 = ap (room_to i point) e in omega (arith, none);
}

-- the leaf of a term
pub term_nest : (i : Indexed) (form : Form) (s : Shape) (number before after : ℕ) → IsNest form s
    → ((point : ℕ) → after + room_to i point s ≤ before + (min 1 (length (list_in i (ListOf.Term number))) + count_to point (list_in i (ListOf.Term number))))
    → OpensNest i form s (term_at i.terms number ∷ []) before after
term_nest i form s number before after nest begins = record {
  nest = nest;
  account = λ point.
      let b = begins point in
      omega (arith, b, length-postings (term_at i.terms number) i.live.documents, count_to-postings (term_at i.terms number) point i.live.documents);
}

-- ---- the terms of parts

-- the terms of parts that stand one behind the other
pub record InOrder (lists : List (List ℕ)) (front back : Option (List (List ℕ))) : Type 0 where
  pub first : List (List ℕ)
  pub second : List (List ℕ)
  pub front_is : front ≡ Some first
  pub back_is : back ≡ Some second
  pub whole : lists ≡ first ++ second

pub in_order : (ts us : Trees.Trees) (lists : List (List ℕ)) → terms_in (joined ts us) ≡ Some lists → InOrder lists (terms_in ts) (terms_in us)
in_order Trees.no_trees us lists e = record { first = []; second = lists; front_is = refl; back_is = e; whole = refl }
in_order (Trees.tree (Trees.term t) ts) us lists e = by (terms_in (joined ts us)) refl e (in_order ts us)
  where
    more : (xs : List (List ℕ)) → lists ≡ t ∷ xs → InOrder xs (terms_in ts) (terms_in us) → InOrder lists (option_map (λ more. t ∷ more) (terms_in ts)) (terms_in us)
    more xs e split = record {
      first = t ∷ split.first;
      second = split.second;
      front_is = ap (λ (o : Option (List (List ℕ))). option_map (λ more. t ∷ more) o) split.front_is;
      back_is = split.back_is;
      whole = e ∙ ap (λ (ts : List (List ℕ)). t ∷ ts) split.whole;
    }

    some : (xs : List (List ℕ)) → ◌≡◌ {A = Option (List (List ℕ))} (Some (t ∷ xs)) (Some lists) → lists ≡ t ∷ xs
    some xs e = cc

    by : (o : Option (List (List ℕ))) → terms_in (joined ts us) ≡ o → option_map (λ more. t ∷ more) o ≡ Some lists → ((xs : List (List ℕ)) → terms_in (joined ts us) ≡ Some xs → InOrder xs (terms_in ts) (terms_in us))
        → InOrder lists (option_map (λ more. t ∷ more) (terms_in ts)) (terms_in us)
    by None e f rest = cc
    by (Some xs) e f rest = more xs (some xs f) (rest xs e)
in_order (Trees.tree _ ts) us lists e = cc

pub split_terms : (whole ts us : Trees.Trees) (lists : List (List ℕ)) → whole ≡ joined ts us → terms_in whole ≡ Some lists → SplitsTerms lists (terms_in ts) (terms_in us)
split_terms whole ts us lists is e =
    let o = in_order ts us lists (ap terms_in (sym is) ∙ e) in
    record { first = o.first; second = o.second; front_is = o.front_is; back_is = o.back_is; whole = inl o.whole }

-- the first piece being put behind the other
pub turned_terms : (whole ts us : Trees.Trees) (lists : List (List ℕ)) → whole ≡ joined ts us → terms_in whole ≡ Some lists → SplitsTerms lists (terms_in us) (terms_in ts)
turned_terms whole ts us lists is e =
    let o = in_order ts us lists (ap terms_in (sym is) ∙ e) in
    record { first = o.second; second = o.first; front_is = o.back_is; back_is = o.front_is; whole = inr o.whole }

-- of one part alone
pub one_term : (ts : Trees.Trees) (t : Trees.Tree) (lists : List (List ℕ)) (P : List (List ℕ) → Type 0) → ts ≡ Trees.tree t Trees.no_trees → terms_in ts ≡ Some lists
    → ((term : List ℕ) → t ≡ Trees.term term → P (term ∷ [])) → P lists
one_term ts t lists P alone e given = by t (ap terms_in (sym alone) ∙ e) given
  where
    some : (term : List ℕ) → ◌≡◌ {A = Option (List (List ℕ))} (Some (term ∷ [])) (Some lists) → term ∷ [] ≡ lists
    some term e = cc

    by : (t : Trees.Tree) → terms_in (Trees.tree t Trees.no_trees) ≡ Some lists → ((term : List ℕ) → t ≡ Trees.term term → P (term ∷ [])) → P lists
    by (Trees.term term) e given = subst P (some term e) (given term refl)
    by _ e given = cc

-- ---- flat queries

-- of several parts
pub parts_flat : (query : Trees.Tree) (form : Form) (ts : Trees.Trees) (lists : List (List ℕ)) (docs : Docs) → query ≡ Trees.parts form ts → flat_lists query docs ≡ Some lists → IsJoint form × (terms_in ts ≡ Some lists)
parts_flat query form ts lists docs is e = by form (ap (λ q. flat_lists q docs) (sym is) ∙ e)
  where
    by : (form : Form) → flat_lists (Trees.parts form ts) docs ≡ Some lists → IsJoint form × (terms_in ts ≡ Some lists)
    by Form.Or e = (inl refl, e)
    by Form.Max e = (inr refl, e)
    by _ e = cc

-- an xor of several parts is not joint
pub xor_joint : (form : Form) (n : ℕ) → is_nest form n ≡ false → IsJoint form → ⊥
xor_joint form n e joint = by (is_xor form n e) joint
  where
    by : form ≡ Form.Xor → IsJoint form → ⊥
    by e (inl f) = cc
    by e (inr f) = cc

-- ---- terms that have numbers, and those that begin so

entered_step : (b : Bool) (t : List ℕ) (us : List (List ℕ)) (id : ℕ) (docs : Docs) (n : ℕ) → entered us id docs ≤ n → entered (cond b (t ∷ us) us) id docs ≤ (min 1 (length_of t docs) + up t id docs) + n
entered_step true t us id docs n le = omega (arith, le)
entered_step false t us id docs n le = omega (arith, le)

-- those that have a number
pub entered-numbered : (i : Indexed) (ts : List (List ℕ)) (id : ℕ) (docs : Docs) → entered (numbered i ts) id docs ≤ entered ts id docs
entered-numbered i [] id docs = omega arith
entered-numbered i (t ∷ ts) id docs = entered_step (is_some (number_of t i.terms)) t (numbered i ts) id docs (entered ts id docs) (entered-numbered i ts id docs)

entered-sum : (ts : List (List ℕ)) (id : ℕ) (docs : Docs) → entered ts id docs ≡ sum_by (λ t. min 1 (length_of t docs) + up t id docs) ts
entered-sum [] id docs = refl
entered-sum (t ∷ ts) id docs = ap (λ n. (min 1 (length_of t docs) + up t id docs) + n) (entered-sum ts id docs) ∙ sym (sum_by-cons (λ t. min 1 (length_of t docs) + up t id docs) t ts)

-- each of these that counts is among those
abbrev AreAmong : (List ℕ → ℕ) → List (List ℕ) → List (List ℕ) → Type 0
AreAmong f [] us = Unit {0}
AreAmong f (t ∷ ts) us = (0 < f t → is_in t us ≡ true) × AreAmong f ts us

apart_from : (t j : List ℕ) (ts : List (List ℕ)) → not (bytes_eq t j || list_any (λ other. bytes_eq t other) ts) ≡ true → (bytes_eq t j ≡ false) × (not (list_any (λ other. bytes_eq t other) ts) ≡ true)
apart_from t j ts e = by (bytes_eq t j) (list_any (λ other. bytes_eq t other) ts) e
  where
    by : (a b : Bool) → not (a || b) ≡ true → (a ≡ false) × (not b ≡ true)
    by true b e = cc
    by false b e = (refl, e)

still_among : (f : List ℕ → ℕ) (t : List ℕ) (ts us : List (List ℕ)) → not (list_any (λ other. bytes_eq t other) ts) ≡ true → AreAmong f ts us → AreAmong f ts (without t us)
still_among f t [] us apart among = tt
still_among f t (j ∷ ts) us apart among =
    let here = apart_from t j ts apart in
    ((λ some. still t j us here.0 (among.0 some)), still_among f t ts us here.1 among.1)

sum_among : (f : List ℕ → ℕ) (ts us : List (List ℕ)) → are_different ts ≡ true → AreAmong f ts us → sum_by f ts ≤ sum_by f us
sum_among f [] us apart among = omega arith
sum_among f (t ∷ ts) us apart among =
    let here = and_parts (not (list_any (λ other. bytes_eq t other) ts)) (are_different ts) apart in
    elim (cases_lt 0 (f t)) as (λ _. sum_by f (t ∷ ts) ≤ sum_by f us) [
      | inl some ↦
          let more = sum_among f ts (without t us) here.1 (still_among f t ts us here.0 among.1) in
          omega (arith, sum_by-cons f t ts, taken f t us (among.0 some), more)
      | inr none ↦
          let more = sum_among f ts us here.1 among.1 in
          omega (arith, sum_by-cons f t ts, none, more)
    ]

-- a term that no document has
none_entered : (t : List ℕ) (id : ℕ) (docs : Docs) → some_has t docs ≡ false → min 1 (length_of t docs) + up t id docs ≡ 0
none_entered t id docs h =
    let none = none_listed t docs h in
    omega (arith, ap length none, ap (count_to id) none, length-postings t docs, count_to-postings t id docs)

module _ (i : Indexed) (prefix : List ℕ) (ns : List ℕ) (are : AreAllWith prefix i.terms i.live.documents ns) (id : ℕ) where
  counted_in : (t : List ℕ) → begins_with t prefix ≡ true → 0 < min 1 (length_of t i.live.documents) + up t id i.live.documents → is_in t (terms_with prefix i.live.documents) ≡ true
  counted_in t begins some = by (some_has t i.live.documents) refl
    where
      by : (b : Bool) → some_has t i.live.documents ≡ b → is_in t (terms_with prefix i.live.documents) ≡ true
      by true e = member prefix t begins i.live.documents e
      by false e = absurd (omega (arith, some, none_entered t id i.live.documents e))

  wild_among : (ms : List ℕ) → AllByRecursion (λ n. begins_with (term_at i.terms n) prefix ≡ true) ms
      → AreAmong (λ t. min 1 (length_of t i.live.documents) + up t id i.live.documents) (map (term_at i.terms) ms) (terms_with prefix i.live.documents)
  wild_among [] all = tt
  wild_among (m ∷ ms) all = ((λ some. counted_in (term_at i.terms m) all.0 some), wild_among ms all.1)

  pub entered-wild : entered (map (term_at i.terms) ns) id i.live.documents ≤ entered (terms_with prefix i.live.documents) id i.live.documents
  entered-wild =
      let sum = sum_among (λ t. min 1 (length_of t i.live.documents) + up t id i.live.documents) (map (term_at i.terms) ns) (terms_with prefix i.live.documents) (wild_apart (term_at i.terms) ns are.rising)
      (wild_among ns (recursion_from_All (λ n. begins_with (term_at i.terms n) prefix ≡ true) ns are.begins)) in
      omega (arith, sum, entered-sum (map (term_at i.terms) ns) id i.live.documents, entered-sum (terms_with prefix i.live.documents) id i.live.documents)

-- ---- terms that count as one

-- one alone
pub one_as_one : (i : Indexed) (s : Shape) (lists : List (List ℕ)) (before after : ℕ) → OpensNest i Form.Or s lists before after → OpensAsOne i s lists before after
one_as_one i s lists before after opens = record { flat = nest_flat s opens.nest; account = opens.account }

-- a nest of them, whose sums of wdfs are weighed
pub sums_as_one : (i : Indexed) (scheme : Scheme) (factor : ℕ) (t : Top) (s whole : Shape) (lists : List (List ℕ)) (before after : ℕ) → whole ≡ synonym scheme factor t s → OpensNest i Form.Or s lists before after → OpensAsOne i whole lists before after
sums_as_one i scheme factor t s whole lists before after is opens = subst (λ (w : Shape). OpensAsOne i w lists before after) (sym is) (record {
  flat = λ wdf enough. flat-mono s 0 wdf (omega arith) (nest_flat s opens.nest);
  account = opens.account;
})

-- what was opened for other terms
pub other_opens : (i : Indexed) (s : Shape) (lists others : List (List ℕ)) (before after : ℕ) → ((point : ℕ) → entered lists point i.live.documents ≤ entered others point i.live.documents)
    → OpensAsOne i s lists before after → OpensFlat i s others before after
other_opens i s lists others before after less opens = record {
  shape = inl opens.flat;
  account = λ point. let p = opens.account point in let q = less point in omega (arith, p, q, entered_le others point i.live.documents);
}

-- ---- by their names

pub named_nest : (i : Indexed) (form : Form) (s : Shape) (t u : List ℕ) (before after : ℕ) → t ≡ u → OpensNest i form s (t ∷ []) before after → OpensNest i form s (u ∷ []) before after
named_nest i form s t u before after e opens = subst (λ (t : List ℕ). OpensNest i form s (t ∷ []) before after) e opens

pub one_nest : (i : Indexed) (form : Form) (s : Shape) (ns : List ℕ) (n before after : ℕ) → length ns ≡ 1 → n ≡ slice_index_or ns 0 n → OpensNest i form s (term_at i.terms n ∷ []) before after
    → OpensNest i form s (map (term_at i.terms) ns) before after
one_nest i form s ns n before after e f opens = subst (λ (ms : List ℕ). OpensNest i form s (map (term_at i.terms) ms) before after) (sym (only_one ns n e f)) opens

pub joint_others : (form : Form) → IsJoint form → others_of form ≡ form
joint_others form (inl e) = ap others_of e ∙ sym e
joint_others form (inr e) = ap others_of e ∙ sym e

-- the two halves of terms that count as one
pub halves_nest : (i : Indexed) (a b s : Shape) (lists first second : List (List ℕ)) (s0 s1 s2 s3 : ℕ) → OpensNest i Form.Or a first s0 s1 → OpensNest i Form.Or b second s1 s2
    → (IsJoint Form.Or → IsNest Form.Or a → IsNest Form.Or b → PairsNest i Form.Or a b s s2 s3) → lists ≡ first ++ second → OpensNest i Form.Or s lists s0 s3
halves_nest i a b s lists first second s0 s1 s2 s3 one two both whole = joined_nest i Form.Or a b s lists first second s0 s1 s2 s3 one two (both (inl refl) one.nest two.nest) (inl whole)

pub numbered_entered : (i : Indexed) (ts us : List (List ℕ)) (point : ℕ) → ts ≡ numbered i us → entered ts point i.live.documents ≤ entered us point i.live.documents
numbered_entered i ts us point e = subst (λ (vs : List (List ℕ)). entered vs point i.live.documents ≤ entered us point i.live.documents) (sym e) (entered-numbered i us point i.live.documents)

pub wild_entered : (i : Indexed) (prefix ns ms : List ℕ) → AreAllWith prefix i.terms i.live.documents ns → (point : ℕ) → ms ≡ ns
    → entered (map (term_at i.terms) ms) point i.live.documents ≤ entered (terms_with prefix i.live.documents) point i.live.documents
wild_entered i prefix ns ms are point e =
    subst (λ (ks : List ℕ). entered (map (term_at i.terms) ks) point i.live.documents ≤ entered (terms_with prefix i.live.documents) point i.live.documents) (sym e) (entered-wild i prefix ns are point)

-- ---- a query of one term

pub term_opens : (i : Indexed) (form : Form) (s : Shape) (query : Trees.Tree) (t u : List ℕ) (before after : ℕ) → query ≡ Trees.term t → query ≡ Trees.term u → OpensNest i form s (t ∷ []) before after → OpensNest i form s (u ∷ []) before after
term_opens i form s query t u before after e f opens = named_nest i form s t u before after (same (sym e ∙ f)) opens
  where
    same : Trees.term t ≡ Trees.term u → t ≡ u
    same e = cc

pub term_flat : (i : Indexed) (s : Shape) (query : Trees.Tree) (t : List ℕ) (lists : List (List ℕ)) (before after : ℕ) → query ≡ Trees.term t → flat_lists query i.live.documents ≡ Some lists → OpensNest i Form.Or s (t ∷ []) before after
    → OpensFlat i s lists before after
term_flat i s query t lists before after e f opens =
    subst (λ (ts : List (List ℕ)). OpensFlat i s ts before after) (same (sym (ap (λ q. flat_lists q i.live.documents) e) ∙ f)) (nest_opens i Form.Or s (t ∷ []) before after (inl refl) opens)
  where
    same : ◌≡◌ {A = Option (List (List ℕ))} (Some (t ∷ [])) (Some lists) → t ∷ [] ≡ lists
    same e = cc
