-- How the node of a range is opened.
use Rattle.std.proofs.Common.{◌≡◌, ◌≤◌, ℕ, Bool, true, false, not, if◌then◌else◌, ◌&&◌, nat_lt, List, length, Option, Some, None, option_map, refl, sym, subst, ap, ◌∙◌, arith, true≢false}
use Rattle.std.specs.Cmp.Lexicographic.{slice_cmp}
use Rattle.std.specs.Ordering.{nat_cmp, is_le}
use Rattle.sk_base.specs.declared.find.Scheme.{Scheme}
use Rattle.sk_base.specs.Documents.{value_in}
use Rattle.sk_base.specs.Numbers.{Docs}
use Rattle.sk_sorted.specs.Entries.{AreSorted}
use Rattle.sk_values.specs.RangeCursor.{in_range}
use Rattle.sk_query.specs.Trees as Query
use Rattle.sk_model.specs.Ranges.{end_of, is_from, is_within, is_crossed}
use Rattle.sk_model.specs.Documents.{Document}
use Rattle.sk_model.specs.Edits.{document_at}
use Rattle.sk_model.specs.Weights.{weigh_by}
use Rattle.sk_model.specs.Scores.{weight_if}
use Rattle.sk_model.proofs.StaticLaws.{from_through}
use Rattle.sk_index.specs.Indexed.{Indexed, slot_values}
use Rattle.sk_nodes.specs.declared.top.Top.{Top}
use Rattle.sk_nodes.specs.declared.range_node.RangeNode.{RangeNode}
use Rattle.sk_nodes.specs.Leaves.{weighed}
use Rattle.sk_nodes.specs.Shapes.{Shape, range}
use Rattle.sk_nodes.specs.Sound.{IsTop}
use Rattle.sk_nodes.specs.RangeNode.{unweighed, range_rest, IsRangeOn}
use Rattle.sk_tree.specs.Opened.{score_of, Opens}
use Rattle.sk_nodes.proofs.RangeLaws.{range_at, range_found, no_weight}

-- the entries in the range give what the documents score
pub range_scores : (lo hi : Query.Limit) (slot : ℕ) (scheme : Scheme) (factor id : ℕ) (docs : Docs) → AreSorted docs
    → weighed 0 Scheme.Bool (unweighed (in_range (end_of lo) (end_of hi) (slot_values slot docs))) id ≡ score_of (Query.range slot lo hi) scheme factor (document_at id docs)
range_scores lo hi slot scheme factor id docs sorted =
    ap (option_map (weigh_by 0 Scheme.Bool)) (range_found (end_of lo) (end_of hi) slot 0 id docs sorted.rise) ∙ by (document_at id docs)
  where
    if_so : (b : Bool) → option_map (weigh_by 0 Scheme.Bool) (if b then Some 0 else None) ≡ weight_if b 0
    if_so true = ap Some (no_weight 0)
    if_so false = refl

    by : (o : Option Document) → option_map (weigh_by 0 Scheme.Bool) (range_at (end_of lo) (end_of hi) slot o) ≡ score_of (Query.range slot lo hi) scheme factor o
    by None = refl
    by (Some d) = if_so (is_within (end_of lo) (end_of hi) (value_in slot d.values))

-- ---- ends that are crossed

crossed_none : (lo hi : Option (List ℕ)) (v : List ℕ) → is_crossed lo hi ≡ true → is_within lo hi v ≡ false
crossed_none lo None v e = absurd (true≢false (sym e))
crossed_none lo (Some hi) v e = by (is_within lo (Some hi) v) refl
  where
    parts : (a b c : Bool) → (a && (b && c)) ≡ true → (b ≡ true) × (c ≡ true)
    parts true true c g = (refl, g)
    parts true false c g = cc
    parts false b c g = cc

    by : (w : Bool) → is_within lo (Some hi) v ≡ w → w ≡ false
    by false g = refl
    by true g =
        let both = parts (nat_lt 0 (length v)) (is_from lo v) (is_le (slice_cmp nat_cmp v hi)) g in
        absurd (true≢false (sym e ∙ ap not (from_through lo v hi both.0 both.1)))

pub crossed_scores : (lo hi : Query.Limit) (slot : ℕ) (scheme : Scheme) (factor : ℕ) (o : Option Document) → is_crossed (end_of lo) (end_of hi) ≡ true → None ≡ score_of (Query.range slot lo hi) scheme factor o
crossed_scores lo hi slot scheme factor None e = refl
crossed_scores lo hi slot scheme factor (Some d) e = sym (ap (λ b. weight_if b 0) (crossed_none (end_of lo) (end_of hi) (value_in slot d.values) e))

-- a range node that gives the entries in the range gives what the documents score
pub range_opens : (i : Indexed) (t : Top) (r : RangeNode) (s : Shape) (lo hi : Query.Limit) (slot : ℕ) (scheme : Scheme) (factor : ℕ) → s ≡ range r → IsTop i t (range r) → IsRangeOn i r → t.greatest ≤ 0 → AreSorted i.live.documents
    → ((id : ℕ) → range_rest i r id ≡ weighed 0 Scheme.Bool (unweighed (in_range (end_of lo) (end_of hi) (slot_values slot i.live.documents))) id)
    → Opens i t s (score_of (Query.range slot lo hi) scheme factor) 0
range_opens i t r s lo hi slot scheme factor shape top on greatest documents gives =
    subst (λ (u : Shape). Opens i t u (score_of (Query.range slot lo hi) scheme factor) 0) (sym shape)
    (record {
      top = top;
      sound = on;
      gives = λ id. gives id ∙ range_scores lo hi slot scheme factor id i.live.documents documents;
      ceiling = omega (arith, greatest);
    })
