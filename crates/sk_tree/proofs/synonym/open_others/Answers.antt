-- One list more, and none where the one stands that is left out.
use Rattle.std.proofs.Common.{map, ap, sym, subst, List, [], ◌∷◌, ℕ, arith}
use Rattle.std.proofs.lemmas.Bool.Decides.{nat_tests}
use Rattle.sk_dict.specs.Terms.{term_at}
use Rattle.sk_nodes.specs.Shapes.{merged}
use Rattle.sk_model.specs.Bounds.{lengths_of}
use Rattle.sk_nodes.specs.Left.{unread_in}
use Rattle.sk_tree.specs.Readings.{Pays}
use Rattle.sk_tree.specs.Sums.{OpensSums}
use Rattle.sk_tree.proofs.MergeOpenLaws.{there_at, others_next, others_same, others_all, merged_next, even_next, few_next, sums_both, pays_both, counts_both}
use Rattle.sk_tree.proofs.synonym.open_others.Goals as goal

pub open_wdfs-requires-clause-there : goal.open_wdfs-requires-clause-there
open_wdfs-requires-clause-there g c = there_at c.args.index.now c.args.numbers.now c.numbers.which 0 (omega (arith, c.numbers-test.true)) c.requires.there

pub open_wdfs-requires-clause-can : goal.open_wdfs-requires-clause-can
open_wdfs-requires-clause-can g c =
    record { read = record { documents = c.requires.can.read.documents; room = c.numbers.invariant.pays.room; small = c.numbers.invariant.counts.small }; bounded = c.requires.can.bounded; light = c.requires.can.light }

pub numbers-preserved-then-which-apart : goal.numbers-preserved-then-which-apart
numbers-preserved-then-which-apart g c =
    let i = c.args.index.now in
    let inv = c.numbers.invariant in
    let same = sym (others_same c.args.numbers.now c.numbers.which 0 c.args.apart (omega (arith, c.numbers-test.true)) c.if-which-apart.true) in
    record {
      even = inv.even;
      few = omega (arith, inv.few);
      opens = subst (λ (ns : List ℕ). OpensSums i (merged c.numbers.marks.items c.numbers.leaves.items) (map (term_at i.terms) ns) c.args.spent.now c.numbers.spent) same inv.opens;
      pays = subst (λ (ns : List ℕ). Pays c.args.spent.now c.numbers.spent c.args.most.now c.numbers.most (unread_in i (merged c.numbers.marks.items c.numbers.leaves.items)) (lengths_of (map (term_at i.terms) ns) i.live.documents)) same inv.pays;
      counts = inv.counts;
    }

pub numbers-preserved : goal.numbers-preserved
numbers-preserved g c =
    let i = c.args.index.now in
    let inv = c.numbers.invariant in
    let one = c.in_ok-mark.ensures in
    let is = merged_next c.numbers.marks.items _ c.numbers.leaves.items _ c.in_ok-mark.mark c.in_ok-mark.wdfs inv.even c.in_ok-push.ensures.items c.in_ok-push-2.ensures.items in
    let named = others_next c.args.numbers.now c.numbers.which 0 c.args.apart (omega (arith, c.numbers-test.true)) (term_at i.terms) (λ e. grind (arith, nat_tests)) in
    record {
      even = even_next c.numbers.marks.items _ c.numbers.leaves.items _ c.in_ok-mark.mark c.in_ok-mark.wdfs inv.even c.in_ok-push.ensures.items c.in_ok-push-2.ensures.items;
      few = few_next c.numbers.marks.items _ c.in_ok-mark.mark c.numbers.which inv.few c.in_ok-push.ensures.items;
      opens = sums_both i _ (merged c.numbers.marks.items c.numbers.leaves.items) (merged (c.in_ok-mark.mark ∷ []) (c.in_ok-mark.wdfs ∷ [])) _ _ _ is named _ _ _ inv.opens one.opens;
      pays = pays_both i _ (merged c.numbers.marks.items c.numbers.leaves.items) (merged (c.in_ok-mark.mark ∷ []) (c.in_ok-mark.wdfs ∷ [])) _ _ _ is named _ _ _ _ _ _ inv.pays one.pays;
      counts = counts_both _ _ _ _ _ _ _ _ inv.counts one.counts;
    }

pub returns-in_err-mark-clause-counts : goal.returns-in_err-mark-clause-counts
returns-in_err-mark-clause-counts g c =
    counts_both _ _ _ _ _ _ _ _ c.numbers.invariant.counts c.open_wdfs.ensures.counts

pub returns-in_err-push-clause-counts : goal.returns-in_err-push-clause-counts
returns-in_err-push-clause-counts g c =
    counts_both _ _ _ _ _ _ _ _ c.numbers.invariant.counts c.open_wdfs.ensures.counts

pub returns-in_err-push-2-clause-counts : goal.returns-in_err-push-2-clause-counts
returns-in_err-push-2-clause-counts g c =
    counts_both _ _ _ _ _ _ _ _ c.numbers.invariant.counts c.open_wdfs.ensures.counts

pub returns-clause-opens : goal.returns-clause-opens
returns-clause-opens g c =
    let i = c.args.index.now in
    let all = others_all c.args.numbers.now c.numbers.which c.args.apart (omega (arith, c.numbers-test.false)) in
    subst (λ (ns : List ℕ). OpensSums i (merged c.numbers.marks.items c.numbers.leaves.items) (map (term_at i.terms) ns) c.args.spent.now c.numbers.spent) all c.numbers.invariant.opens

pub returns-clause-pays : goal.returns-clause-pays
returns-clause-pays g c =
    let i = c.args.index.now in
    let all = others_all c.args.numbers.now c.numbers.which c.args.apart (omega (arith, c.numbers-test.false)) in
    let pays = c.numbers.invariant.pays in
    record { paid = pays.paid; within = omega (arith, pays.within, ap (λ (ns : List ℕ). lengths_of (map (term_at i.terms) ns) i.live.documents) all); room = pays.room }

pub returns-clause-counts : goal.returns-clause-counts
returns-clause-counts g c = c.numbers.invariant.counts
