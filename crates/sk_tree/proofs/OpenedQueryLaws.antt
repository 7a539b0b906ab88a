-- What the accounts of a query's node begin with.
use Rattle.std.proofs.Common.{◌≡◌, ◌≤◌, ◌<◌, ◌^◌, ◌∙◌, ℕ, false, List, [], ◌∷◌, Option, Some, inl, inr, refl, sym, subst, ap, arith}
use Rattle.sk_base.specs.declared.find.Scheme.{Scheme}
use Rattle.sk_base.specs.Numbers.{terms_with}
use Rattle.sk_query.specs.declared.form.Form.{Form}
use Rattle.sk_query.specs.Trees as Trees
use Rattle.sk_model.specs.Edits.{document_at}
use Rattle.sk_model.specs.Combining.{combined}
use Rattle.sk_model.specs.Bounds.{sum_in, ceil, ceils, ceil_of, term_ceil}
use Rattle.sk_tree.specs.Parts.{Splits, AreSides}
use Rattle.sk_decay.specs.Sides.{paired, greatest_under}
use Rattle.sk_nodes.specs.Left.{rest}
use Rattle.sk_nodes.proofs.NodeLaws.{greatest_under-mono}
use Rattle.sk_model.specs.Sharp.{terms_in}
use Rattle.sk_index.specs.Indexed.{Indexed}
use Rattle.sk_nodes.specs.declared.top.Top.{Top}
use Rattle.sk_nodes.specs.Shapes.{Shape, ended, pair, or_many, Sides, no_sides, side}
use Rattle.sk_tree.specs.Opened.{part_count, score_of, part_scores, joint_score_of, is_nest, others_of, OpensSides, Opens}
use Rattle.sk_nodes.specs.Begun.{Yields, Gathers}
use Rattle.sk_nodes.specs.Moved.{Accounts, SeekAccounts}
use Rattle.sk_tree.specs.Nests.{OpensTerms, IsJoint, OpensNest, OpensFlat, PairsNest, SplitsTerms}
use Rattle.sk_nodes.specs.Flat.{IsNest}
use Rattle.sk_tree.specs.OpenedLed.{CanLead, SplitsLed, OpensLed, OpensFollowing}
use Rattle.sk_tree.specs.OpenedAccounts.{OpensTerm, OpensQuery, OpensParts}
use Rattle.sk_tree.proofs.NestLaws.{parts_flat, nest_opens, split_nest, joint_others, one_term, term_flat}
use Rattle.sk_tree.proofs.LedLaws.{xor_follows, parts_rare, rare_opened, lone_leads, lone_following, split_leads, split_follows, none_lone}
use Rattle.sk_tree.proofs.OpenedFadingLaws.{split_decays, one_alone, one_not_two, many_not_one, xor_not_or, parts_or, none_alone}
use Rattle.sk_tree.proofs.OrManyOpenLaws.{terms_nest, terms_follow, many_not_two, or_leads_not}

-- ---- a term

-- nothing, where no document has it
pub none_term : (i : Indexed) (t : Top) (s : Shape) (term : List ℕ) (greatest spent : ℕ) → t.head ≡ 2 ^ 32 → s ≡ ended → OpensTerm i t s term greatest spent spent
none_term i t s term greatest spent end is = record { nest = λ form. nest form; lone = none_lone i t s _ spent end is; alone = none_alone i t s term greatest spent end is }
  where
    nest : (form : Form) → OpensNest i form s (term ∷ []) spent spent
    nest form = subst (λ (o : Shape). OpensNest i form o (term ∷ []) spent spent) (sym is) (record { nest = tt; account = λ point. omega arith })

-- ---- a query

-- nothing is said of it
abbrev pub IsOther : Trees.Tree → Type 0
IsOther (Trees.term t) = ⊥
IsOther (Trees.synonym ts) = ⊥
IsOther (Trees.wildcard prefix) = ⊥
IsOther (Trees.parts form ts) = ⊥
IsOther _ = Unit {0}

module _ (i : Indexed) (scheme : Scheme) (factor : ℕ) (t : Top) (s : Shape) (before after : ℕ) where
  other_by : (query : Trees.Tree) → IsOther query → OpensQuery i query scheme factor t s before after
  other_by (Trees.term t) h = absurd h
  other_by (Trees.synonym ts) h = absurd h
  other_by (Trees.wildcard prefix) h = absurd h
  other_by (Trees.parts form ts) h = absurd h
  other_by _ h = record { term = λ term e. cc; flat = λ lists e. cc; fading = λ ts x y e terms. cc; rare = λ lists m e. cc }

  pub other_query : (query q : Trees.Tree) → query ≡ q → IsOther q → OpensQuery i query scheme factor t s before after
  other_query query q e h = subst (λ (o : Trees.Tree). OpensQuery i o scheme factor t s before after) (sym e) (other_by q h)

  pub term_query : (query : Trees.Tree) (term : List ℕ) → query ≡ Trees.term term → OpensTerm i t s term (term_ceil scheme factor term i.live.documents) before after → OpensQuery i query scheme factor t s before after
  term_query query term e h = subst (λ (o : Trees.Tree). OpensQuery i o scheme factor t s before after) (sym e) (record {
    term = λ u is. subst (λ (x : List ℕ). OpensTerm i t s x (term_ceil scheme factor x i.live.documents) before after) (same u is) h;
    flat = λ lists is. term_flat i s (Trees.term term) term lists before after refl is (h.nest Form.Or);
    fading = λ ts x y is terms. cc;
    rare = λ lists m is. cc;
  })
    where
      same : (u : List ℕ) → Trees.term term ≡ Trees.term u → term ≡ u
      same u is = cc

  pub synonym_query : (query : Trees.Tree) (words : List (List ℕ)) → query ≡ Trees.synonym words → OpensFlat i s words before after → OpensQuery i query scheme factor t s before after
  synonym_query query words e h = subst (λ (o : Trees.Tree). OpensQuery i o scheme factor t s before after) (sym e) (record {
    term = λ u is. cc;
    flat = λ lists is. subst (λ (ls : List (List ℕ)). OpensFlat i s ls before after) (same lists is) h;
    fading = λ ts x y is terms. cc;
    rare = λ lists m is. cc;
  })
    where
      same : (lists : List (List ℕ)) → ◌≡◌ {A = Option (List (List ℕ))} (Some words) (Some lists) → words ≡ lists
      same lists is = cc

  pub wildcard_query : (query : Trees.Tree) (prefix : List ℕ) → query ≡ Trees.wildcard prefix → OpensFlat i s (terms_with prefix i.live.documents) before after → OpensQuery i query scheme factor t s before after
  wildcard_query query prefix e h = subst (λ (o : Trees.Tree). OpensQuery i o scheme factor t s before after) (sym e) (record {
    term = λ u is. cc;
    flat = λ lists is. subst (λ (ls : List (List ℕ)). OpensFlat i s ls before after) (same lists is) h;
    fading = λ ts x y is terms. cc;
    rare = λ lists m is. cc;
  })
    where
      same : (lists : List (List ℕ)) → ◌≡◌ {A = Option (List (List ℕ))} (Some (terms_with prefix i.live.documents)) (Some lists) → terms_with prefix i.live.documents ≡ lists
      same lists is = cc

  pub parts_query : (query : Trees.Tree) (form : Form) (ts : Trees.Trees) → query ≡ Trees.parts form ts → OpensParts i form ts scheme factor t s before after → OpensQuery i query scheme factor t s before after
  parts_query query form ts e h = record {
    term = λ u is. other u (sym e ∙ is);
    flat = λ lists is. let f = parts_flat query form ts lists i.live.documents e is in nest_opens i form s lists before after f.0 (h.nest lists f.0 f.1);
    fading = λ us x y is terms. let f = parts_or query form ts us e is in h.fading x y f.0 (ap terms_in f.1 ∙ terms);
    rare = λ lists m is. let f = parts_rare query form ts lists m i.live.documents e is in rare_opened i form t s lists m before after f.1.1 (h.led lists f.0 f.1.0);
  }
    where
      other : (u : List ℕ) → Trees.parts form ts ≡ Trees.term u → OpensTerm i t s u (term_ceil scheme factor u i.live.documents) before after
      other u is = cc

-- ---- the node of sides

pub sides_opened : (i : Indexed) (form joint : Form) (factor : ℕ) (ts : Trees.Trees) (scheme : Scheme) (ss : Sides) (t : Top) (s : Shape) → AreSides form joint factor ts ts → OpensSides i ss (part_scores ts scheme factor) (sum_in (ceils ts scheme factor i.live.documents))
    → Gathers i joint ss t s → Opens i t s (joint_score_of form ts scheme factor) (ceil_of form (ceils ts scheme factor i.live.documents))
sides_opened i form joint factor ts scheme ss t s sides opens gathers = record {
  top = gathers.top;
  sound = gathers.sound;
  gives = λ id. gathers.gives id ∙ ap (combined joint) (opens.gives id) ∙ sym (sides.scores scheme (document_at id i.live.documents));
  ceiling = omega (arith, gathers.ceiling, opens.ceiling, sides.ceiling scheme i.live.documents);
}

-- one side alone
pub one_side_opened : (i : Indexed) (ts : Trees.Trees) (query : Trees.Tree) (scheme : Scheme) (factor : ℕ) (ss : Sides) (t : Top) (s : Shape) → ts ≡ Trees.tree query Trees.no_trees → ss ≡ side t s no_sides
    → Opens i t s (score_of query scheme factor) (ceil query scheme factor i.live.documents) → OpensSides i ss (part_scores ts scheme factor) (sum_in (ceils ts scheme factor i.live.documents))
one_side_opened i ts query scheme factor ss t s alone is opens =
    subst (λ (us : Trees.Trees). OpensSides i ss (part_scores us scheme factor) (sum_in (ceils us scheme factor i.live.documents))) (sym alone)
    (subst (λ (rs : Sides). OpensSides i rs (part_scores (Trees.tree query Trees.no_trees) scheme factor) (sum_in (ceils (Trees.tree query Trees.no_trees) scheme factor i.live.documents))) (sym is) (record {
      sound = record { top = opens.top; sound = opens.sound; others = tt };
      gives = λ id. (λ j. opens.gives id j ∷ []);
      ceiling = omega (arith, opens.ceiling);
    }))

-- the node of two
pub pair_opened : (i : Indexed) (form other : Form) (factor : ℕ) (ts fs bs : Trees.Trees) (scheme : Scheme) (ta : Top) (a : Shape) (tb : Top) (b : Shape) (t : Top) (s : Shape) → other ≡ others_of form → Splits form factor ts fs bs
    → Opens i ta a (joint_score_of form fs scheme factor) (ceil_of form (ceils fs scheme factor i.live.documents)) → Opens i tb b (joint_score_of other bs scheme factor) (ceil_of other (ceils bs scheme factor i.live.documents))
    → Yields i t s (λ id. paired form (rest i a id) (rest i b id)) (greatest_under form ta.greatest tb.greatest)
    → Opens i t s (joint_score_of form ts scheme factor) (ceil_of form (ceils ts scheme factor i.live.documents))
pair_opened i form other factor ts fs bs scheme ta a tb b t s is splits one two h =
    let docs = i.live.documents in
    let second = subst (λ (f : Form). Opens i tb b (joint_score_of f bs scheme factor) (ceil_of f (ceils bs scheme factor docs))) is two in
    let most = greatest_under-mono form (ceil_of form (ceils fs scheme factor docs)) (ceil_of (others_of form) (ceils bs scheme factor docs)) ta.greatest tb.greatest one.ceiling second.ceiling in
    record {
      top = h.top;
      sound = h.sound;
      gives = λ id. h.gives id ∙ (λ j. paired form (one.gives id j) (second.gives id j)) ∙ sym (splits.scores scheme (document_at id docs));
      ceiling = omega (arith, h.ceiling, most, splits.ceiling scheme docs);
    }

-- ---- parts

-- one part alone
pub only_query : (i : Indexed) (form : Form) (ts : Trees.Trees) (query : Trees.Tree) (scheme : Scheme) (factor : ℕ) (t : Top) (s : Shape) (before after : ℕ) → ts ≡ Trees.tree query Trees.no_trees → OpensQuery i query scheme factor t s before after
    → OpensParts i form ts scheme factor t s before after
only_query i form ts query scheme factor t s before after alone h = record {
  nest = λ lists joint e. one_term ts query lists (λ ls. OpensNest i form s ls before after) alone e (λ term is. (h.term term is).nest form);
  led = λ lists can e. one_term ts query lists (λ ls. CanLead form ls → OpensLed i form t s ls before after) alone e (λ term is can. lone_leads i form t s term before after can (h.term term is).lone) can;
  follows = λ lists so e. one_term ts query lists (λ ls. OpensFollowing i s ls before after) alone e (λ term is. lone_following i t s term before after (h.term term is).lone);
  alone = λ term e. (h.term term (one_alone ts query term alone e)).alone;
  fading = λ x y is e. absurd (one_not_two ts query x y alone e);
}

-- the sides of an xor
pub xor_parts_query : (i : Indexed) (form : Form) (ts : Trees.Trees) (scheme : Scheme) (factor : ℕ) (t : Top) (s : Shape) (before after : ℕ) → is_nest form (part_count ts) ≡ false → 2 ≤ part_count ts → OpensParts i form ts scheme factor t s before after
xor_parts_query i form ts scheme factor t s before after wide many = record {
  nest = λ lists joint e. absurd (joint_not form joint wide);
  led = λ lists can e. absurd (leads_not form lists can wide);
  follows = λ lists so e. absurd (xor_follows form ts lists wide so e);
  alone = λ term e. absurd (many_not_one ts term many e);
  fading = λ x y is e. absurd (xor_not_or form (part_count ts) wide is);
}
  where
    joint_not : (form : Form) → IsJoint form → is_nest form (part_count ts) ≡ false → ⊥
    joint_not form (inl e) wide = xor_not_or form (part_count ts) wide e
    joint_not form (inr e) wide = by (ap (λ f. is_nest f (part_count ts)) (sym e) ∙ wide)
      where
        by : is_nest Form.Max (part_count ts) ≡ false → ⊥
        by f = cc

    leads_not : (form : Form) (lists : List (List ℕ)) → CanLead form lists → is_nest form (part_count ts) ≡ false → ⊥
    leads_not Form.Xor lists can wide = can
    leads_not Form.Or lists can wide = can
    leads_not Form.Max lists can wide = can
    leads_not Form.And lists can wide = cc
    leads_not Form.AndNot lists can wide = cc
    leads_not Form.Filter lists can wide = cc
    leads_not Form.AndMaybe lists can wide = cc

-- the sides of an or
pub or_parts_query : (i : Indexed) (form : Form) (ts : Trees.Trees) (ss : Sides) (scheme : Scheme) (factor : ℕ) (t : Top) (s : Shape) (before between after : ℕ) → form ≡ Form.Or → 3 ≤ part_count ts
    → ((lists : List (List ℕ)) → terms_in ts ≡ Some lists → OpensTerms i ss lists before between) → Accounts i 0 0 between after (or_many ss) s → OpensParts i form ts scheme factor t s before after
or_parts_query i form ts ss scheme factor t s before between after is many opens accounts = record {
  nest = λ lists joint e. terms_nest i form ss s lists before between after is (opens lists e) accounts;
  led = λ lists can e. absurd (or_leads_not form lists is can);
  follows = λ lists so e. terms_follow i ts ss s lists before between after many e (opens lists e) accounts;
  alone = λ term e. absurd (many_not_one ts term (omega (arith, many)) e);
  fading = λ x y or e. absurd (many_not_two ts x y many e);
}

-- two nodes
pub pair_parts_query : (i : Indexed) (form other : Form) (ts fs bs : Trees.Trees) (scheme : Scheme) (factor : ℕ) (ta : Top) (a : Shape) (tb : Top) (b : Shape) (t : Top) (s : Shape) (s0 s1 s2 s3 : ℕ) → other ≡ others_of form → 2 ≤ part_count ts → 0 < part_count fs → 0 < part_count bs
    → ((lists : List (List ℕ)) → terms_in ts ≡ Some lists → SplitsTerms lists (terms_in fs) (terms_in bs))
    → ((lists : List (List ℕ)) → CanLead form lists → terms_in ts ≡ Some lists → SplitsLed form lists i.live.documents (terms_in fs) (terms_in bs))
    → OpensParts i form fs scheme factor ta a s0 s1 → OpensParts i other bs scheme factor tb b s1 s2
    → (IsJoint form → IsNest form a → IsNest form b → PairsNest i form a b s s2 s3) → SeekAccounts i 0 0 s2 s3 (pair form ta a tb b) s t → OpensParts i form ts scheme factor t s s0 s3
pair_parts_query i form other ts fs bs scheme factor ta a tb b t s s0 s1 s2 s3 is many some more splits led one two pairs accounts = record {
  nest = λ lists joint e. split_nest i form other a b s lists (terms_in fs) (terms_in bs) s0 s1 s2 s3 joint (is ∙ joint_others form joint) one.nest two.nest pairs (splits lists e);
  led = λ lists can e. split_leads i form other ta a tb b t s lists (terms_in fs) (terms_in bs) s0 s1 s2 s3 can is one.led two.follows accounts.all accounts.at (led lists can e);
  follows = λ lists so e. split_follows i form other ta a tb b s fs bs lists s0 s1 s2 s3 so is some more one.follows two.follows accounts.all (splits lists e);
  alone = λ term e. absurd (many_not_one ts term many e);
  fading = λ x y or e. split_decays i scheme factor form other ta a tb b s fs bs x y s0 s1 s2 s3 or some more one.alone two.alone accounts.fades (splits (x ∷ y ∷ []) e);
}
