-- How an or of many sides is opened over terms.
use Rattle.std.proofs.Common.{◌≡◌, ◌≤◌, ◌⊎◌, ◌++◌, ℕ, List, [], ◌∷◌, Some, inl, inr, refl, sym, subst, arith}
use Rattle.sk_query.specs.declared.form.Form.{Form}
use Rattle.sk_query.specs.Trees as Trees
use Rattle.sk_model.specs.Sharp.{terms_in}
use Rattle.sk_index.specs.Indexed.{Indexed}
use Rattle.sk_nodes.specs.declared.top.Top.{Top}
use Rattle.sk_nodes.specs.Shapes.{Shape, or_many, Sides, no_sides, side}
use Rattle.sk_nodes.specs.Many.{followed_by}
use Rattle.sk_tree.specs.Opened.{part_count}
use Rattle.sk_nodes.specs.Flat.{IsNest}
use Rattle.sk_tree.specs.Nests.{OpensNest, OpensTerms}
use Rattle.sk_nodes.specs.Moved.{flat_to, nest_behind, Accounts}
use Rattle.sk_tree.specs.OpenedLed.{CanLead, OpensFollowing}
use Rattle.sk_tree.proofs.NestLaws.{nests_flat, split_entered}
use Rattle.sk_tree.proofs.LedLaws.{terms_count, split_rare}
use Rattle.sk_nodes.proofs.OrManyLaws.{rooms_behind, nests_behind, follow_behind}

-- one side
pub one_opens : (i : Indexed) (t : Top) (s : Shape) (ss : Sides) (lists : List (List ℕ)) (before after : ℕ) → ss ≡ side t s no_sides → OpensNest i Form.Or s lists before after → OpensFollowing i s lists before after → OpensTerms i ss lists before after
one_opens i t s ss lists before after is opens following = subst (λ (rs : Sides). OpensTerms i rs lists before after) (sym is) (record {
  nests = (opens.nest, tt);
  account = λ point. let p = opens.account point in omega (arith, p);
  follows = λ head unread m within begun. let p = following.account head unread m within begun in omega (arith, p);
})

-- some sides, and others behind them
pub opens_both : (i : Indexed) (us ss rs : Sides) (lists first second : List (List ℕ)) (s0 s1 s2 : ℕ) → us ≡ followed_by ss rs → (lists ≡ first ++ second) ⊎ (lists ≡ second ++ first)
    → OpensTerms i ss first s0 s1 → OpensTerms i rs second s1 s2 → OpensTerms i us lists s0 s2
opens_both i us ss rs lists first second s0 s1 s2 is whole one two = subst (λ (vs : Sides). OpensTerms i vs lists s0 s2) (sym is) (record {
  nests = nests_behind ss rs one.nests two.nests;
  account = λ point.
      let p = one.account point in
      let q = two.account point in
      omega (arith, p, q, rooms_behind i point ss rs, split_entered lists first second point i.live.documents whole);
  follows = λ head unread m within begun.
      let p = one.follows head unread m within begun in
      let q = two.follows head unread m within begun in
      omega (arith, p, q, follow_behind i head unread ss rs, split_rare lists first second m i.live.documents whole);
})

-- the node of these sides
pub terms_nest : (i : Indexed) (form : Form) (ss : Sides) (s : Shape) (lists : List (List ℕ)) (s0 s1 s2 : ℕ) → form ≡ Form.Or → OpensTerms i ss lists s0 s1 → Accounts i 0 0 s1 s2 (or_many ss) s → OpensNest i form s lists s0 s2
terms_nest i form ss s lists s0 s1 s2 is opens accounts = record {
  nest = subst (λ (f : Form). IsNest f s) (sym is) ((accounts.keeps (nest_behind 0 0)).kind (refl, (refl, opens.nests))).1;
  account = λ point.
      let p = opens.account point in
      let q = (accounts.keeps (flat_to point)).paid (nests_flat ss opens.nests) (inr (inl (refl, omega arith))) in
      omega (arith, p, q);
}

-- the same, as one that follows a list
pub terms_follow : (i : Indexed) (ts : Trees.Trees) (ss : Sides) (s : Shape) (lists : List (List ℕ)) (s0 s1 s2 : ℕ) → 3 ≤ part_count ts → terms_in ts ≡ Some lists → OpensTerms i ss lists s0 s1 → Accounts i 0 0 s1 s2 (or_many ss) s → OpensFollowing i s lists s0 s2
terms_follow i ts ss s lists s0 s1 s2 many e opens accounts = record {
  nest = ((accounts.keeps (nest_behind 0 0)).kind (refl, (refl, opens.nests))).1;
  lone = λ one. let n = terms_count ts lists e in absurd (omega (arith, n.0, many, one));
  account = λ head unread m within begun.
      let p = opens.follows head unread m within begun in
      let q = (accounts.keeps (nest_behind head unread)).paid (refl, (refl, opens.nests)) (inr refl) in
      omega (arith, p, q);
}

-- two terms are not three
pub many_not_two : (ts : Trees.Trees) (x y : List ℕ) → 3 ≤ part_count ts → terms_in ts ≡ Some (x ∷ y ∷ []) → ⊥
many_not_two ts x y many e = let n = terms_count ts (x ∷ y ∷ []) e in omega (arith, n.0, many)

-- nothing leads in an or
pub or_leads_not : (form : Form) (lists : List (List ℕ)) → form ≡ Form.Or → CanLead form lists → ⊥
or_leads_not form lists e can = subst (λ (f : Form). CanLead f lists) e can
