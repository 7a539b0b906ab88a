-- The sides of one half behind those of the other.
use Rattle.std.proofs.Common.{IfOk, ◌≡◌, ◌+◌, ℕ, List, refl, sym, subst, ap, ◌∙◌, arith, [], ◌∷◌}
use Rattle.sk_query.specs.declared.form.Form.{Form}
use Rattle.sk_model.specs.Bounds.{ceil, ceils, ceil_of, lengths_of}
use Rattle.sk_model.specs.Allowance.{leaf_readings, leaves_readings}
use Rattle.sk_nodes.specs.Shapes.{shape_of, sides_on}
use Rattle.sk_nodes.specs.Left.{unread_of, unread_in}
use Rattle.sk_nodes.specs.Proximity.{entries_unread, AreInOrder}
use Rattle.sk_tree.specs.Readings.{Pays}
use Rattle.sk_tree.specs.Opened.{proximity_query, score_of, part_scores, joint_score_of, parts_size, AreParts, Opens}
use Rattle.sk_nodes.proofs.ManyLaws.{unread_behind}
use Rattle.sk_tree.proofs.MergeOpenLaws.{counts_both}
use Rattle.sk_tree.proofs.SideLaws.{opens_behind}
use Rattle.sk_nodes.proofs.NodeLaws.{shape_of-Nothing}
use Rattle.sk_tree.proofs.TermLaws.{nothing_opened}
use Rattle.sk_tree.proofs.ProximityOpenLaws.{missing_none, fewer_numbers, all_numbered, terms_are, terms_size, terms_ceils, terms_readings, entries_all, test_unread, test_opened, proximity_opened}
use Rattle.std.proofs.lemmas.Result.{IfOk-weaker}
use Rattle.sk_query.specs.Trees as Trees
use Rattle.sk_query.specs.Trees.{query_view, queries_view}
use Rattle.sk_query.proofs.ViewLaws.{view-Nothing, view-All, view-Term, view-Wildcard, view-Near, view-Phrase, view-Synonym, view-Scale, view-Range}
use Rattle.sk_tree.proofs.NestLaws.{one_term, paired_nest}
use Rattle.sk_tree.proofs.LedLaws.{lone_following}
use Rattle.sk_model.specs.Edits.{document_at}
use Rattle.sk_tree.proofs.PartsLaws.{of_parts, only_part, xor_sides, or_sides}
use Rattle.sk_tree.proofs.FormLaws.{none_left}
use Rattle.sk_tree.proofs.EqualLaws.{other_parts}
use Rattle.sk_tree.proofs.CountLaws.{counted}
use Rattle.sk_tree.proofs.OpenedQueryLaws.{other_query, term_query, synonym_query, wildcard_query, parts_query, only_query, xor_parts_query, or_parts_query, pair_parts_query, sides_opened, pair_opened, one_side_opened}
use Rattle.sk_tree.specs.Nests.{OpensTerms}
use Rattle.sk_tree.proofs.OrManyOpenLaws.{one_opens, opens_both}
use Rattle.sk_tree.proofs.opening.+open_node.Goals as goal

pub open_sides-returns-clause-opens : goal.open_sides-returns-clause-opens
open_sides-returns-clause-opens g t c =
    let i = c.args.index.now in
    let halves = c.side_halves.ensures c.args.factor c.requires.parts in
    opens_behind i (sides_on c.in_ok-some_tops.some_tops.items c.in_ok-some_tops.some_nodes.items) (sides_on c.in_ok-more_tops.more_tops.items c.in_ok-more_tops.more_nodes.items) (sides_on c.in_ok-tops-2.tops.items c.in_ok-tops-2.nodes.items)
    (part_scores (queries_view c.side_halves.result.0.now) c.args.scheme c.args.factor) (part_scores (queries_view c.side_halves.result.1.now) c.args.scheme c.args.factor) (part_scores (queries_view c.args.parts.now) c.args.scheme c.args.factor)
    _ _ _ c.in_ok-tops-2.ensures.sides (halves.scores c.args.scheme) (halves.ceiling c.args.scheme i.live.documents) c.in_ok-some_tops.ensures.opens c.in_ok-more_tops.ensures.opens

pub open_sides-returns-clause-pays : goal.open_sides-returns-clause-pays
open_sides-returns-clause-pays g t c =
    let i = c.args.index.now in
    let whole : unread_in i (sides_on c.in_ok-tops-2.tops.items c.in_ok-tops-2.nodes.items) ≡ unread_in i (sides_on c.in_ok-some_tops.some_tops.items c.in_ok-some_tops.some_nodes.items) + unread_in i (sides_on c.in_ok-more_tops.more_tops.items c.in_ok-more_tops.more_nodes.items)
    = ap (unread_in i) c.in_ok-tops-2.ensures.sides ∙ unread_behind i (sides_on c.in_ok-some_tops.some_tops.items c.in_ok-some_tops.some_nodes.items) (sides_on c.in_ok-more_tops.more_tops.items c.in_ok-more_tops.more_nodes.items) in
    let first = c.in_ok-some_tops.ensures.pays in
    let others = c.in_ok-more_tops.ensures.pays in
    record {
      paid = omega (arith, whole, first.paid, others.paid);
      within = omega (arith, first.within, others.within, (c.side_halves.ensures c.args.factor c.requires.parts).readings i.live.documents);
      room = others.room;
    }

pub open_proximity-returns-then-len-words-clause-opens : goal.open_proximity-returns-then-len-words-clause-opens
open_proximity-returns-then-len-words-clause-opens g t c =
    let i = c.args.index.now in
    nothing_opened i c.ended.result _ (score_of (proximity_query c.args.kind c.args.window c.args.words.now) c.args.scheme c.args.factor) _ c.ended.ensures shape_of-Nothing
    (λ id. missing_none i c.args.kind c.args.window c.args.words.now c.args.scheme c.args.factor id c.in_ok-numbers.ensures.complete
    (fewer_numbers i c.in_ok-numbers.numbers.items c.args.words.now c.in_ok-numbers.ensures.terms (omega (arith, c.if-len-words.true, c.len.ensures))))

pub open_proximity-open_parts-requires : goal.open_proximity-open_parts-requires
open_proximity-open_parts-requires g t c κs within =
    let view = ap queries_view c.as_slice.ensures.value ∙ c.in_ok-terms.ensures in (
      omega (arith, c.decreases, ap parts_size view, terms_size c.args.words.now),
      (within, (c.requires.can, subst (λ ts. AreParts Form.And c.args.factor ts) (sym view) (terms_are c.args.factor c.args.window c.args.words.now c.requires.sound c.requires.leaves))),
    )

pub open_proximity-returns-clause-opens : goal.open_proximity-returns-clause-opens
open_proximity-returns-clause-opens g t c =
    let i = c.args.index.now in
    let view = ap queries_view c.as_slice.ensures.value ∙ c.in_ok-terms.ensures in
    let named = all_numbered i c.in_ok-numbers.numbers.items c.args.words.now c.in_ok-numbers.ensures.terms (omega (arith, c.if-len-words.false, c.len.ensures)) in
    proximity_opened i c.args.kind c.args.window c.in_ok-numbers.numbers.items c.in-Ok-new.test c.in-Ok-new.ensures c.args.words.now c.args.scheme c.args.factor _ named c.in_ok-below.below c.in_ok-top.top (shape_of c.in_ok-below.node) (shape_of c.in_ok-top.node)
    (subst (λ ts. Opens i c.in_ok-below.below (shape_of c.in_ok-below.node) (joint_score_of Form.And ts c.args.scheme c.args.factor) (ceil_of Form.And (ceils ts c.args.scheme c.args.factor i.live.documents))) view c.in_ok-below.ensures.opens)
    (terms_ceils c.args.words.now c.args.scheme c.args.factor i.live.documents)
    c.in_ok-top.ensures.yields

pub open_proximity-returns-clause-pays : goal.open_proximity-returns-clause-pays
open_proximity-returns-clause-pays g t c =
    let i = c.args.index.now in
    let view = ap queries_view c.as_slice.ensures.value ∙ c.in_ok-terms.ensures in
    let named = all_numbered i c.in_ok-numbers.numbers.items c.args.words.now c.in_ok-numbers.ensures.terms (omega (arith, c.if-len-words.false, c.len.ensures)) in
    let first = ap (λ ts. leaves_readings ts i.live.documents) view ∙ terms_readings c.args.words.now i.live.documents in
    let second = ap (λ (ns : List ℕ). entries_unread i 0 ns) c.as_slice-2.ensures.value ∙ entries_all i c.in_ok-numbers.numbers.items ∙ ap (λ ts. lengths_of ts i.live.documents) named in
    let pays = c.in_ok-below.ensures.pays in
    let unread = test_unread i c.args.kind c.args.window c.in_ok-numbers.numbers.items c.in-Ok-new.test c.in-Ok-new.ensures in
    let listed = ap (λ (ns : List ℕ). entries_unread i 0 ns) c.as_slice-2.ensures.value in
    record {
      paid = omega (arith, listed, unread, pays.paid, c.in_ok-top.ensures.paid, c.in-Ok.ensures.sum);
      within = omega (arith, first, second, pays.within, c.in-Ok.ensures.sum);
      room = omega (arith, listed, unread, pays.paid, c.in_ok-top.ensures.paid, c.in-Ok.ensures.sum, c.requires.can.read.room);
    }

pub open_proximity-positional_of-requires-clause-room : goal.open_proximity-positional_of-requires-clause-room
open_proximity-positional_of-requires-clause-room g t c =
    let i = c.args.index.now in
    let unread = test_unread i c.args.kind c.args.window c.in_ok-numbers.numbers.items c.in-Ok-new.test c.in-Ok-new.ensures in
    let listed = ap (λ (ns : List ℕ). entries_unread i 0 ns) c.as_slice-2.ensures.value in
    omega (arith, listed, unread, c.in_ok-below.ensures.pays.paid, c.in-Ok.ensures.sum, c.in-Ok.ensures.small, c.requires.can.read.room)

pub open_proximity-positional_of-requires-clause-positional : goal.open_proximity-positional_of-requires-clause-positional
open_proximity-positional_of-requires-clause-positional g t c =
    let i = c.args.index.now in
    let view = ap queries_view c.as_slice.ensures.value ∙ c.in_ok-terms.ensures in
    let named = all_numbered i c.in_ok-numbers.numbers.items c.args.words.now c.in_ok-numbers.ensures.terms (omega (arith, c.if-len-words.false, c.len.ensures)) in
    test_opened i c.args.kind c.args.window c.in_ok-numbers.numbers.items c.in-Ok-new.test c.in-Ok-new.ensures c.args.words.now c.args.scheme c.args.factor _ named c.in_ok-below.below (shape_of c.in_ok-below.node) c.requires.sound
    c.in_ok-numbers.ensures.there (subst (λ (ns : List ℕ). AreInOrder i ns) c.as_slice-2.ensures.value c.in-Ok.ensures.sorted) c.requires.can.read.documents
    (subst (λ ts. Opens i c.in_ok-below.below (shape_of c.in_ok-below.node) (joint_score_of Form.And ts c.args.scheme c.args.factor) (ceil_of Form.And (ceils ts c.args.scheme c.args.factor i.live.documents))) view c.in_ok-below.ensures.opens)

-- ---- what the accounts of a node begin with

pub open_node-returns-in-Some-clause-accounts : goal.open_node-returns-in-Some-clause-accounts
open_node-returns-in-Some-clause-accounts g t c =
    IfOk-weaker c.open_parts.result _ _ (λ p h. parts_query c.args.index.now c.args.scheme c.args.factor p.0 (shape_of p.1) c.args.spent.now c.open_parts.new.spent (query_view c.args.query.now) c.in-Some.form (queries_view c.in-Some.parts.now) c.in-Some.ensures.is h) c.open_parts.ensures.accounts

pub open_node-returns-in-Term-clause-accounts : goal.open_node-returns-in-Term-clause-accounts
open_node-returns-in-Term-clause-accounts g t c =
    IfOk-weaker c.open_term.result _ _ (λ p h. term_query c.args.index.now c.args.scheme c.args.factor p.0 (shape_of p.1) c.args.spent.now c.open_term.new.spent (query_view c.args.query.now) _ (ap query_view c.in-Term.is ∙ view-Term _) h) c.open_term.ensures.term

pub open_node-returns-in-Synonym-clause-accounts : goal.open_node-returns-in-Synonym-clause-accounts
open_node-returns-in-Synonym-clause-accounts g t c =
    IfOk-weaker c.open_synonym.result _ _ (λ p h. synonym_query c.args.index.now c.args.scheme c.args.factor p.0 (shape_of p.1) c.args.spent.now c.open_synonym.new.spent (query_view c.args.query.now) _ (ap query_view c.in-Synonym.is ∙ view-Synonym _ ∙ ap Trees.synonym (sym c.as_slice.ensures)) h) c.open_synonym.ensures.flat

pub open_node-returns-in-Wildcard-clause-accounts : goal.open_node-returns-in-Wildcard-clause-accounts
open_node-returns-in-Wildcard-clause-accounts g t c =
    IfOk-weaker c.open_wildcard.result _ _ (λ p h. wildcard_query c.args.index.now c.args.scheme c.args.factor p.0 (shape_of p.1) c.args.spent.now c.open_wildcard.new.spent (query_view c.args.query.now) _ (ap query_view c.in-Wildcard.is ∙ view-Wildcard _) h) c.open_wildcard.ensures.flat

pub open_node-returns-in-All-clause-accounts : goal.open_node-returns-in-All-clause-accounts
open_node-returns-in-All-clause-accounts g t c =
    IfOk-weaker c.open_all.result _ _ (λ p h. other_query c.args.index.now c.args.scheme c.args.factor p.0 (shape_of p.1) c.args.spent.now c.open_all.new.spent (query_view c.args.query.now) _ (ap query_view c.in-All.is ∙ view-All) tt) c.open_all.ensures.opens

pub open_node-returns-in-Scale-clause-accounts : goal.open_node-returns-in-Scale-clause-accounts
open_node-returns-in-Scale-clause-accounts g t c =
    IfOk-weaker c.open_node.result _ _ (λ p h. other_query c.args.index.now c.args.scheme c.args.factor p.0 (shape_of p.1) c.args.spent.now c.open_node.new.spent (query_view c.args.query.now) _ (ap query_view c.in-Scale.is ∙ view-Scale _ _) tt) c.open_node.ensures.opens

pub open_node-returns-in-Near-clause-accounts : goal.open_node-returns-in-Near-clause-accounts
open_node-returns-in-Near-clause-accounts g t c =
    IfOk-weaker c.open_proximity.result _ _ (λ p h. other_query c.args.index.now c.args.scheme c.args.factor p.0 (shape_of p.1) c.args.spent.now c.open_proximity.new.spent (query_view c.args.query.now) _ (ap query_view c.in-Near.is ∙ view-Near _ _) tt) c.open_proximity.ensures.opens

pub open_node-returns-in-Phrase-clause-accounts : goal.open_node-returns-in-Phrase-clause-accounts
open_node-returns-in-Phrase-clause-accounts g t c =
    IfOk-weaker c.open_proximity-in-Phrase.result _ _ (λ p h. other_query c.args.index.now c.args.scheme c.args.factor p.0 (shape_of p.1) c.args.spent.now c.open_proximity-in-Phrase.new.spent (query_view c.args.query.now) _ (ap query_view c.in-Phrase.is ∙ view-Phrase _ _) tt) c.open_proximity-in-Phrase.ensures.opens

pub open_node-returns-in-Range-clause-accounts : goal.open_node-returns-in-Range-clause-accounts
open_node-returns-in-Range-clause-accounts g t c =
    IfOk-weaker c.open_range.result _ _ (λ p h. other_query c.args.index.now c.args.scheme c.args.factor p.0 (shape_of p.1) c.args.spent.now c.open_range.new.spent (query_view c.args.query.now) _ (ap query_view c.in-Range.is ∙ view-Range _ _ _) tt) c.open_range.ensures.opens

pub open_node-returns-in-Nothing-clause-accounts : goal.open_node-returns-in-Nothing-clause-accounts
open_node-returns-in-Nothing-clause-accounts g t c =
    other_query c.args.index.now c.args.scheme c.args.factor _ _ c.args.spent.now c.args.spent.now (query_view c.args.query.now) _ (ap query_view c.in-Nothing.is ∙ view-Nothing) tt

pub open_parts-returns-in-Some-clause-accounts : goal.open_parts-returns-in-Some-clause-accounts
open_parts-returns-in-Some-clause-accounts g t c =
    IfOk-weaker c.open_node.result _ _
    (λ p h. only_query c.args.index.now c.args.form (queries_view c.args.parts.now) (query_view c.in-Some.part.now) c.args.scheme c.args.factor p.0 (shape_of p.1) c.args.spent.now c.open_node.new.spent c.in-Some.ensures.alone h) c.open_node.ensures.accounts

pub open_parts-returns-then-not-is_nest-clause-accounts : goal.open_parts-returns-then-not-is_nest-clause-accounts
open_parts-returns-then-not-is_nest-clause-accounts g t c =
    xor_parts_query c.args.index.now c.args.form (queries_view c.args.parts.now) c.args.scheme c.args.factor _ _ _ _ (sym c.is_nest.ensures ∙ c.if-not-is_nest.true) (omega (arith, counted c.args.parts.now, c.in_default.ensures.many))

pub open_parts-returns-then-not-is_nest-clause-opens : goal.open_parts-returns-then-not-is_nest-clause-opens
open_parts-returns-then-not-is_nest-clause-opens g t c =
    sides_opened c.args.index.now c.args.form Form.Xor c.args.factor (queries_view c.args.parts.now) c.args.scheme (sides_on c.in_ok-tops.tops.items c.in_ok-tops.nodes.items) _ _
    (xor_sides c.args.form c.args.factor (queries_view c.args.parts.now) _ (sym c.is_nest.ensures ∙ c.if-not-is_nest.true) c.requires.parts c.requires.can.bounded) c.in_ok-tops.ensures.opens c.xor_many_of-node.ensures.gathers

pub open_parts-open_sides-requires : goal.open_parts-open_sides-requires
open_parts-open_sides-requires g t c κs within = (omega (arith, c.decreases), (within, (c.requires.can, (xor_sides c.args.form c.args.factor (queries_view c.args.parts.now) _ (sym c.is_nest.ensures ∙ c.if-not-is_nest.true) c.requires.parts c.requires.can.bounded).parts)))

pub open_parts-xor_many_of-node-requires-clause-fits : goal.open_parts-xor_many_of-node-requires-clause-fits
open_parts-xor_many_of-node-requires-clause-fits g t c = omega (arith, (xor_sides c.args.form c.args.factor (queries_view c.args.parts.now) _ (sym c.is_nest.ensures ∙ c.if-not-is_nest.true) c.requires.parts c.requires.can.bounded).fits c.args.scheme c.args.index.now.live.documents c.requires.can.light, c.in_ok-tops.ensures.opens.ceiling)

pub open_parts-returns-then-is_many-clause-accounts : goal.open_parts-returns-then-is_many-clause-accounts
open_parts-returns-then-is_many-clause-accounts g t c =
    or_parts_query c.args.index.now c.args.form (queries_view c.args.parts.now) (sides_on c.in_ok-all_tops.all_tops.items c.in_ok-all_tops.all_nodes.items) c.args.scheme c.args.factor _ _ _ _ _ (c.is_many.ensures.form c.if-is_many.true)
    (omega (arith, counted c.args.parts.now, c.is_many.ensures.many c.if-is_many.true)) c.in_ok-all_tops.ensures.terms c.or_many_of-node.ensures.accounts

pub open_parts-returns-then-is_many-clause-opens : goal.open_parts-returns-then-is_many-clause-opens
open_parts-returns-then-is_many-clause-opens g t c =
    sides_opened c.args.index.now c.args.form Form.Or c.args.factor (queries_view c.args.parts.now) c.args.scheme (sides_on c.in_ok-all_tops.all_tops.items c.in_ok-all_tops.all_nodes.items) _ _
    (or_sides c.args.form c.args.factor (queries_view c.args.parts.now) (c.is_many.ensures.form c.if-is_many.true) c.requires.parts c.requires.can.bounded) c.in_ok-all_tops.ensures.opens c.or_many_of-node.ensures.gathers

pub open_parts-open_sides-requires-then-is_many : goal.open_parts-open_sides-requires-then-is_many
open_parts-open_sides-requires-then-is_many g t c κs within = (omega (arith, c.decreases), (within, (c.requires.can, (or_sides c.args.form c.args.factor (queries_view c.args.parts.now) (c.is_many.ensures.form c.if-is_many.true) c.requires.parts c.requires.can.bounded).parts)))

pub open_parts-or_many_of-node-requires-clause-fits : goal.open_parts-or_many_of-node-requires-clause-fits
open_parts-or_many_of-node-requires-clause-fits g t c = omega (arith, (or_sides c.args.form c.args.factor (queries_view c.args.parts.now) (c.is_many.ensures.form c.if-is_many.true) c.requires.parts c.requires.can.bounded).fits c.args.scheme c.args.index.now.live.documents c.requires.can.light, c.in_ok-all_tops.ensures.opens.ceiling)

pub open_parts-returns-clause-accounts : goal.open_parts-returns-clause-accounts
open_parts-returns-clause-accounts g t c =
    IfOk-weaker c.pair_of.result _ _
    (λ p h. pair_parts_query c.args.index.now c.args.form c.others_of-others.result (queries_view c.args.parts.now) (queries_view c.split_parts.result.0.now) (queries_view c.split_parts.result.1.now) c.args.scheme c.args.factor
    c.in_ok-ta.ta (shape_of c.in_ok-ta.a) c.in-Ok.tb (shape_of c.in-Ok.b) p.0 (shape_of p.1) _ _ _ _ c.others_of-others.ensures (omega (arith, counted c.args.parts.now, c.in_default.ensures.many)) (c.split_parts.ensures.splits c.args.factor c.requires.can.bounded c.requires.parts).front.some (c.split_parts.ensures.splits c.args.factor c.requires.can.bounded c.requires.parts).back.some
    (c.split_parts.ensures.splits c.args.factor c.requires.can.bounded c.requires.parts).terms c.split_parts.ensures.led c.in_ok-ta.ensures.accounts c.in-Ok.ensures.accounts (λ joint first second. paired_nest c.args.index.now c.args.form _ _ c.in_ok-ta.ta (shape_of c.in_ok-ta.a) c.in-Ok.tb (shape_of c.in-Ok.b) (shape_of p.1) h.all first second joint) h) c.pair_of.ensures.accounts

-- ---- the sides of one node

pub open_sides-returns-in-Some-clause-terms : goal.open_sides-returns-in-Some-clause-terms
open_sides-returns-in-Some-clause-terms g t c lists e =
    let i = c.args.index.now in
    one_term (queries_view c.args.parts.now) (query_view c.in-Some.part.now) lists (λ ts. OpensTerms i (sides_on c.in_ok-tops.tops.items c.in_ok-tops.nodes.items) ts c.args.spent.now c.open_node.new.spent) c.in-Some.ensures.alone e
    (λ term is. one_opens i c.in_ok-top.top (shape_of c.in_ok-top.node) _ (term ∷ []) c.args.spent.now c.open_node.new.spent c.in_ok-tops.ensures.sides ((c.in_ok-top.ensures.accounts.term term is).nest Form.Or)
    (lone_following i c.in_ok-top.top (shape_of c.in_ok-top.node) term c.args.spent.now c.open_node.new.spent (c.in_ok-top.ensures.accounts.term term is).lone))

pub open_sides-returns-clause-terms : goal.open_sides-returns-clause-terms
open_sides-returns-clause-terms g t c lists e =
    let i = c.args.index.now in
    let split = (c.side_halves.ensures c.args.factor c.requires.parts).terms lists e in
    opens_both i (sides_on c.in_ok-tops-2.tops.items c.in_ok-tops-2.nodes.items) (sides_on c.in_ok-some_tops.some_tops.items c.in_ok-some_tops.some_nodes.items) (sides_on c.in_ok-more_tops.more_tops.items c.in_ok-more_tops.more_nodes.items)
    lists split.first split.second _ _ _ c.in_ok-tops-2.ensures.sides split.whole (c.in_ok-some_tops.ensures.terms split.first split.front_is) (c.in_ok-more_tops.ensures.terms split.second split.back_is)

-- ---- where nothing is weighed

pub open_node-returns-in-All-clause-opens : goal.open_node-returns-in-All-clause-opens
open_node-returns-in-All-clause-opens g t c =
    IfOk-weaker c.open_all.result _ _
    (λ p h. subst (λ q. Opens c.args.index.now p.0 (shape_of p.1) (score_of q c.args.scheme c.args.factor) (ceil q c.args.scheme c.args.factor c.args.index.now.live.documents)) (sym (ap query_view c.in-All.is ∙ view-All)) (h c.args.factor)) c.open_all.ensures.opens

pub open_node-returns-in-Range-clause-opens : goal.open_node-returns-in-Range-clause-opens
open_node-returns-in-Range-clause-opens g t c =
    IfOk-weaker c.open_range.result _ _
    (λ p h. subst (λ q. Opens c.args.index.now p.0 (shape_of p.1) (score_of q c.args.scheme c.args.factor) (ceil q c.args.scheme c.args.factor c.args.index.now.live.documents)) (sym (ap query_view c.in-Range.is ∙ view-Range _ _ _)) (h c.args.scheme c.args.factor)) c.open_range.ensures.opens

-- ---- queries and parts

pub open_node-unreachable-requires : goal.open_node-unreachable-requires
open_node-unreachable-requires g t c =
    let other = c.in_default-query in
    none_left c.args.query.now c.in_default.ensures.none other.not-Nothing other.not-All other.not-Term other.not-Wildcard other.not-Near other.not-Phrase other.not-Synonym other.not-Scale other.not-Range

pub open_node-open_parts-requires : goal.open_node-open_parts-requires
open_node-open_parts-requires g t c κs within =
    let of = of_parts c.args.factor (query_view c.args.query.now) c.in-Some.form (queries_view c.in-Some.parts.now) c.in-Some.ensures.is c.requires.part in
    (omega (arith, c.decreases, of.size), (within, (c.requires.can, of.parts)))

pub open_node-returns-in-Some-clause-opens : goal.open_node-returns-in-Some-clause-opens
open_node-returns-in-Some-clause-opens g t c =
    let docs = c.args.index.now.live.documents in
    let of = of_parts c.args.factor (query_view c.args.query.now) c.in-Some.form (queries_view c.in-Some.parts.now) c.in-Some.ensures.is c.requires.part in
    IfOk-weaker c.open_parts.result _ _
    (λ p h. record { top = h.top; sound = h.sound; gives = λ id. h.gives id ∙ sym (of.scores c.args.scheme (document_at id docs)); ceiling = omega (arith, h.ceiling, of.ceiling c.args.scheme docs) }) c.open_parts.ensures.opens

pub open_node-returns-in-Some-clause-pays : goal.open_node-returns-in-Some-clause-pays
open_node-returns-in-Some-clause-pays g t c =
    let of = of_parts c.args.factor (query_view c.args.query.now) c.in-Some.form (queries_view c.in-Some.parts.now) c.in-Some.ensures.is c.requires.part in
    IfOk-weaker c.open_parts.result _ _ (λ p h. record { paid = h.paid; within = omega (arith, h.within, of.readings c.args.index.now.live.documents); room = h.room }) c.open_parts.ensures.pays

pub open_parts-open_node-requires : goal.open_parts-open_node-requires
open_parts-open_node-requires g t c κs within =
    let only = only_part c.args.form c.args.factor (queries_view c.args.parts.now) (query_view c.in-Some.part.now) c.in-Some.ensures.alone c.requires.parts in
    (omega (arith, c.decreases, only.size), (within, (c.requires.can, only.part)))

pub open_parts-returns-in-Some-clause-opens : goal.open_parts-returns-in-Some-clause-opens
open_parts-returns-in-Some-clause-opens g t c =
    let docs = c.args.index.now.live.documents in
    let only = only_part c.args.form c.args.factor (queries_view c.args.parts.now) (query_view c.in-Some.part.now) c.in-Some.ensures.alone c.requires.parts in
    IfOk-weaker c.open_node.result _ _
    (λ p h. record { top = h.top; sound = h.sound; gives = λ id. h.gives id ∙ sym (only.scores c.args.scheme (document_at id docs)); ceiling = omega (arith, h.ceiling, only.ceiling c.args.scheme docs) }) c.open_node.ensures.opens

pub open_parts-returns-in-Some-clause-pays : goal.open_parts-returns-in-Some-clause-pays
open_parts-returns-in-Some-clause-pays g t c =
    let only = only_part c.args.form c.args.factor (queries_view c.args.parts.now) (query_view c.in-Some.part.now) c.in-Some.ensures.alone c.requires.parts in
    IfOk-weaker c.open_node.result _ _ (λ p h. record { paid = h.paid; within = omega (arith, h.within, only.readings c.args.index.now.live.documents); room = h.room }) c.open_node.ensures.pays

-- ---- parts as one

pub open_parts-open_node-requires-in-Some-as_one : goal.open_parts-open_node-requires-in-Some-as_one
open_parts-open_node-requires-in-Some-as_one g t c κs within =
    let one = c.in-Some-as_one.ensures.one c.requires.parts in
    (omega (arith, c.decreases, one.size), (within, (record { read = c.requires.can.read; bounded = c.in-Some-as_one.ensures.bounded; light = c.requires.can.light }, one.part)))

pub open_parts-returns-in-Some-as_one-clause-opens : goal.open_parts-returns-in-Some-as_one-clause-opens
open_parts-returns-in-Some-as_one-clause-opens g t c =
    let docs = c.args.index.now.live.documents in
    let one = c.in-Some-as_one.ensures.one c.requires.parts in
    IfOk-weaker c.open_node-in-Some-as_one.result _ _
    (λ p h. record { top = h.top; sound = h.sound; gives = λ id. h.gives id ∙ sym (one.scores c.args.scheme (document_at id docs)); ceiling = omega (arith, h.ceiling, one.ceiling c.args.scheme docs) }) c.open_node-in-Some-as_one.ensures.opens

pub open_parts-returns-in-Some-as_one-clause-pays : goal.open_parts-returns-in-Some-as_one-clause-pays
open_parts-returns-in-Some-as_one-clause-pays g t c =
    let one = c.in-Some-as_one.ensures.one c.requires.parts in
    IfOk-weaker c.open_node-in-Some-as_one.result _ _ (λ p h. record { paid = h.paid; within = omega (arith, h.within, one.readings c.args.index.now.live.documents); room = h.room }) c.open_node-in-Some-as_one.ensures.pays

pub open_parts-returns-in-Some-as_one-clause-accounts : goal.open_parts-returns-in-Some-as_one-clause-accounts
open_parts-returns-in-Some-as_one-clause-accounts g t c =
    let one = c.in-Some-as_one.ensures.one c.requires.parts in
    IfOk-weaker c.open_node-in-Some-as_one.result _ _ (λ p h. other_parts c.args.index.now c.args.form (queries_view c.args.parts.now) c.args.scheme c.args.factor p.0 (shape_of p.1) c.args.spent.now c.open_node-in-Some-as_one.new.spent one.others) c.open_node-in-Some-as_one.ensures.accounts

pub open_sides-open_node-requires : goal.open_sides-open_node-requires
open_sides-open_node-requires g t c κs within =
    let only = only_part Form.Xor c.args.factor (queries_view c.args.parts.now) (query_view c.in-Some.part.now) c.in-Some.ensures.alone c.requires.parts in
    (omega (arith, c.decreases, only.size), (within, (c.requires.can, only.part)))

pub open_sides-open_sides-requires : goal.open_sides-open_sides-requires
open_sides-open_sides-requires g t c κs within =
    let halves = c.side_halves.ensures c.args.factor c.requires.parts in
    (omega (arith, c.decreases, halves.front_size), (within, (c.requires.can, halves.front)))

pub open_sides-open_sides-requires-2 : goal.open_sides-open_sides-requires-2
open_sides-open_sides-requires-2 g t c κs within =
    let halves = c.side_halves.ensures c.args.factor c.requires.parts in (
      omega (arith, c.decreases, halves.back_size),
      (
        within,
        (
          record {
            read = record { documents = c.requires.can.read.documents; room = c.in_ok-some_tops.ensures.pays.room; small = c.open_sides.ensures.counts.small };
            bounded = c.requires.can.bounded;
            light = c.requires.can.light;
          },
          halves.back,
        ),
      ),
    )

pub open_parts-open_parts-requires : goal.open_parts-open_parts-requires
open_parts-open_parts-requires g t c κs within =
    let splits = c.split_parts.ensures.splits c.args.factor c.requires.can.bounded c.requires.parts in
    (omega (arith, c.decreases, splits.front_size), (within, (c.requires.can, splits.front)))

pub open_parts-open_parts-requires-2 : goal.open_parts-open_parts-requires-2
open_parts-open_parts-requires-2 g t c κs within =
    let splits = c.split_parts.ensures.splits c.args.factor c.requires.can.bounded c.requires.parts in (
      omega (arith, c.decreases, splits.back_size),
      (
        within,
        (
          record {
            read = record { documents = c.requires.can.read.documents; room = c.in_ok-ta.ensures.pays.room; small = c.open_parts.ensures.counts.small };
            bounded = c.requires.can.bounded;
            light = c.requires.can.light;
          },
          subst (λ (f : Form). AreParts f c.args.factor (queries_view c.split_parts.result.1.now)) (sym c.others_of-others.ensures) splits.back,
        ),
      ),
    )

pub open_parts-pair_of-requires-clause-pair : goal.open_parts-pair_of-requires-clause-pair
open_parts-pair_of-requires-clause-pair g t c =
    let splits = c.split_parts.ensures.splits c.args.factor c.requires.can.bounded c.requires.parts in
    let docs = c.args.index.now.live.documents in
    let back = ap (λ f. ceil_of f (ceils (queries_view c.split_parts.result.1.now) c.args.scheme c.args.factor docs)) c.others_of-others.ensures in
    let a = c.in_ok-ta.ensures.opens in
    let b = c.in-Ok.ensures.opens in
    record { first = a.top; second = b.top; first_sound = a.sound; second_sound = b.sound; fits = omega (arith, splits.fits c.args.scheme docs c.requires.can.light, a.ceiling, b.ceiling, back) }

pub open_parts-returns-clause-opens : goal.open_parts-returns-clause-opens
open_parts-returns-clause-opens g t c =
    IfOk-weaker c.pair_of.result _ _
    (λ p h. pair_opened c.args.index.now c.args.form c.others_of-others.result c.args.factor (queries_view c.args.parts.now) (queries_view c.split_parts.result.0.now) (queries_view c.split_parts.result.1.now) c.args.scheme
    c.in_ok-ta.ta (shape_of c.in_ok-ta.a) c.in-Ok.tb (shape_of c.in-Ok.b) p.0 (shape_of p.1) c.others_of-others.ensures (c.split_parts.ensures.splits c.args.factor c.requires.can.bounded c.requires.parts) c.in_ok-ta.ensures.opens c.in-Ok.ensures.opens h)
    c.pair_of.ensures.yields

pub open_parts-returns-clause-pays : goal.open_parts-returns-clause-pays
open_parts-returns-clause-pays g t c =
    let read = (c.split_parts.ensures.splits c.args.factor c.requires.can.bounded c.requires.parts).readings c.args.index.now.live.documents in
    IfOk-weaker c.pair_of.result _ _
    (λ p paid. record {
      paid = omega (arith, paid, c.in_ok-ta.ensures.pays.paid, c.in-Ok.ensures.pays.paid);
      within = omega (arith, read, c.in_ok-ta.ensures.pays.within, c.in-Ok.ensures.pays.within);
      room = omega (arith, paid, c.in_ok-ta.ensures.pays.paid, c.in-Ok.ensures.pays.paid, c.requires.can.read.room);
    }) c.pair_of.ensures.paid

pub open_sides-returns-in-Some-clause-opens : goal.open_sides-returns-in-Some-clause-opens
open_sides-returns-in-Some-clause-opens g t c =
    one_side_opened c.args.index.now (queries_view c.args.parts.now) (query_view c.in-Some.part.now) c.args.scheme c.args.factor _ c.in_ok-top.top (shape_of c.in_ok-top.node) c.in-Some.ensures.alone c.in_ok-tops.ensures.sides c.in_ok-top.ensures.opens

pub open_sides-returns-in-Some-clause-pays : goal.open_sides-returns-in-Some-clause-pays
open_sides-returns-in-Some-clause-pays g t c =
    let i = c.args.index.now in
    let only = only_part Form.Xor c.args.factor (queries_view c.args.parts.now) (query_view c.in-Some.part.now) c.in-Some.ensures.alone c.requires.parts in
    let pays = c.in_ok-top.ensures.pays in
    let unread = ap (unread_in i) c.in_ok-tops.ensures.sides in
    record { paid = omega (arith, unread, pays.paid); within = omega (arith, only.readings i.live.documents, pays.within); room = pays.room }

pub open_node-returns-in-Some-clause-counts : goal.open_node-returns-in-Some-clause-counts
open_node-returns-in-Some-clause-counts g t c = c.open_parts.ensures.counts

pub open_node-open_term-requires-clause-factor : goal.open_node-open_term-requires-clause-factor
open_node-open_term-requires-clause-factor g t c = c.requires.can.bounded

pub open_node-open_term-requires-clause-can : goal.open_node-open_term-requires-clause-can
open_node-open_term-requires-clause-can g t c = c.requires.can.read

pub open_node-open_synonym-requires-clause-can : goal.open_node-open_synonym-requires-clause-can
open_node-open_synonym-requires-clause-can g t c = c.requires.can

pub open_node-open_synonym-requires-clause-part : goal.open_node-open_synonym-requires-clause-part
open_node-open_synonym-requires-clause-part g t c = c.requires.part

pub open_node-open_wildcard-requires-clause-can : goal.open_node-open_wildcard-requires-clause-can
open_node-open_wildcard-requires-clause-can g t c = c.requires.can

pub open_node-open_wildcard-requires-clause-part : goal.open_node-open_wildcard-requires-clause-part
open_node-open_wildcard-requires-clause-part g t c = c.requires.part

pub open_node-returns-in-All-clause-pays : goal.open_node-returns-in-All-clause-pays
open_node-returns-in-All-clause-pays g t c =
    subst (λ q. IfOk c.open_all.result (λ p. Pays c.args.spent.now c.open_all.new.spent c.args.most.now c.open_all.new.most (unread_of c.args.index.now (shape_of p.1)) (leaf_readings q c.args.index.now.live.documents))) (sym (ap query_view c.in-All.is ∙ view-All)) c.open_all.ensures.pays

pub open_node-returns-in-All-clause-counts : goal.open_node-returns-in-All-clause-counts
open_node-returns-in-All-clause-counts g t c = c.open_all.ensures.counts

pub open_node-returns-in-Term-clause-opens : goal.open_node-returns-in-Term-clause-opens
open_node-returns-in-Term-clause-opens g t c =
    subst (λ q. IfOk c.open_term.result (λ p. Opens c.args.index.now p.0 (shape_of p.1) (score_of q c.args.scheme c.args.factor) (ceil q c.args.scheme c.args.factor c.args.index.now.live.documents))) (sym (ap query_view c.in-Term.is ∙ view-Term _)) c.open_term.ensures.opens

pub open_node-returns-in-Term-clause-pays : goal.open_node-returns-in-Term-clause-pays
open_node-returns-in-Term-clause-pays g t c =
    subst (λ q. IfOk c.open_term.result (λ p. Pays c.args.spent.now c.open_term.new.spent c.args.most.now c.open_term.new.most (unread_of c.args.index.now (shape_of p.1)) (leaf_readings q c.args.index.now.live.documents))) (sym (ap query_view c.in-Term.is ∙ view-Term _)) c.open_term.ensures.pays

pub open_node-returns-in-Term-clause-counts : goal.open_node-returns-in-Term-clause-counts
open_node-returns-in-Term-clause-counts g t c = c.open_term.ensures.counts

pub open_node-returns-in-Scale-clause-counts : goal.open_node-returns-in-Scale-clause-counts
open_node-returns-in-Scale-clause-counts g t c = c.open_node.ensures.counts

pub open_node-returns-in-Synonym-clause-opens : goal.open_node-returns-in-Synonym-clause-opens
open_node-returns-in-Synonym-clause-opens g t c = c.open_synonym.ensures.opens

pub open_node-returns-in-Synonym-clause-counts : goal.open_node-returns-in-Synonym-clause-counts
open_node-returns-in-Synonym-clause-counts g t c = c.open_synonym.ensures.counts

pub open_node-returns-in-Near-clause-counts : goal.open_node-returns-in-Near-clause-counts
open_node-returns-in-Near-clause-counts g t c = c.open_proximity.ensures.counts

pub open_node-returns-in-Phrase-clause-counts : goal.open_node-returns-in-Phrase-clause-counts
open_node-returns-in-Phrase-clause-counts g t c = c.open_proximity-in-Phrase.ensures.counts

pub open_node-returns-in-Wildcard-clause-opens : goal.open_node-returns-in-Wildcard-clause-opens
open_node-returns-in-Wildcard-clause-opens g t c = c.open_wildcard.ensures.opens

pub open_node-returns-in-Wildcard-clause-pays : goal.open_node-returns-in-Wildcard-clause-pays
open_node-returns-in-Wildcard-clause-pays g t c =
    subst (λ q. IfOk c.open_wildcard.result (λ p. Pays c.args.spent.now c.open_wildcard.new.spent c.args.most.now c.open_wildcard.new.most (unread_of c.args.index.now (shape_of p.1)) (leaf_readings q c.args.index.now.live.documents))) (sym (ap query_view c.in-Wildcard.is ∙ view-Wildcard _)) c.open_wildcard.ensures.pays

pub open_node-returns-in-Wildcard-clause-counts : goal.open_node-returns-in-Wildcard-clause-counts
open_node-returns-in-Wildcard-clause-counts g t c = c.open_wildcard.ensures.counts

pub open_node-returns-in-Range-clause-pays : goal.open_node-returns-in-Range-clause-pays
open_node-returns-in-Range-clause-pays g t c =
    subst (λ q. IfOk c.open_range.result (λ p. Pays c.args.spent.now c.open_range.new.spent c.args.most.now c.open_range.new.most (unread_of c.args.index.now (shape_of p.1)) (leaf_readings q c.args.index.now.live.documents))) (sym (ap query_view c.in-Range.is ∙ view-Range _ _ _)) c.open_range.ensures.pays

pub open_node-returns-in-Range-clause-counts : goal.open_node-returns-in-Range-clause-counts
open_node-returns-in-Range-clause-counts g t c = c.open_range.ensures.counts

pub open_parts-returns-in-Some-clause-counts : goal.open_parts-returns-in-Some-clause-counts
open_parts-returns-in-Some-clause-counts g t c = c.open_node.ensures.counts

pub open_parts-returns-in-Some-as_one-clause-counts : goal.open_parts-returns-in-Some-as_one-clause-counts
open_parts-returns-in-Some-as_one-clause-counts g t c = c.open_node-in-Some-as_one.ensures.counts

pub open_parts-returns-in_err-tops-clause-counts : goal.open_parts-returns-in_err-tops-clause-counts
open_parts-returns-in_err-tops-clause-counts g t c = c.open_sides.ensures.counts

pub open_parts-returns-in_err-ta-clause-counts : goal.open_parts-returns-in_err-ta-clause-counts
open_parts-returns-in_err-ta-clause-counts g t c = c.open_parts.ensures.counts

pub open_parts-returns-in_default-open_parts-clause-counts : goal.open_parts-returns-in_default-open_parts-clause-counts
open_parts-returns-in_default-open_parts-clause-counts g t c =
    counts_both _ _ _ _ _ _ _ _ c.open_parts.ensures.counts c.open_parts-2.ensures.counts

pub open_parts-pair_of-requires-clause-room : goal.open_parts-pair_of-requires-clause-room
open_parts-pair_of-requires-clause-room g t c =
    omega (arith, c.in_ok-ta.ensures.pays.paid, c.in-Ok.ensures.pays.paid, c.open_parts-2.ensures.counts.small, c.requires.can.read.room)

pub open_proximity-returns-in_err-below-clause-counts : goal.open_proximity-returns-in_err-below-clause-counts
open_proximity-returns-in_err-below-clause-counts g t c = c.open_parts.ensures.counts

pub open_sides-returns-in_err-top-clause-counts : goal.open_sides-returns-in_err-top-clause-counts
open_sides-returns-in_err-top-clause-counts g t c = c.open_node.ensures.counts

pub open_sides-returns-in_err-tops-clause-counts : goal.open_sides-returns-in_err-tops-clause-counts
open_sides-returns-in_err-tops-clause-counts g t c = c.open_node.ensures.counts

pub open_sides-returns-in-Some-clause-even : goal.open_sides-returns-in-Some-clause-even
open_sides-returns-in-Some-clause-even g t c = c.in_ok-tops.ensures.even

pub open_sides-returns-in-Some-clause-counts : goal.open_sides-returns-in-Some-clause-counts
open_sides-returns-in-Some-clause-counts g t c = c.open_node.ensures.counts

pub open_sides-returns-in_err-some_tops-clause-counts : goal.open_sides-returns-in_err-some_tops-clause-counts
open_sides-returns-in_err-some_tops-clause-counts g t c = c.open_sides.ensures.counts

pub open_sides-returns-in_err-more_tops-clause-counts : goal.open_sides-returns-in_err-more_tops-clause-counts
open_sides-returns-in_err-more_tops-clause-counts g t c =
    counts_both _ _ _ _ _ _ _ _ c.open_sides.ensures.counts c.open_sides-2.ensures.counts

pub open_sides-with_more-requires-clause-even : goal.open_sides-with_more-requires-clause-even
open_sides-with_more-requires-clause-even g t c = c.in_ok-some_tops.ensures.even

pub open_sides-with_more-requires-clause-more_even : goal.open_sides-with_more-requires-clause-more_even
open_sides-with_more-requires-clause-more_even g t c = c.in_ok-more_tops.ensures.even

pub open_sides-returns-in_err-tops-2-clause-counts : goal.open_sides-returns-in_err-tops-2-clause-counts
open_sides-returns-in_err-tops-2-clause-counts g t c =
    counts_both _ _ _ _ _ _ _ _ c.open_sides.ensures.counts c.open_sides-2.ensures.counts

pub open_sides-returns-clause-even : goal.open_sides-returns-clause-even
open_sides-returns-clause-even g t c = c.in_ok-tops-2.ensures.even

pub open_sides-returns-clause-counts : goal.open_sides-returns-clause-counts
open_sides-returns-clause-counts g t c =
    counts_both _ _ _ _ _ _ _ _ c.open_sides.ensures.counts c.open_sides-2.ensures.counts
