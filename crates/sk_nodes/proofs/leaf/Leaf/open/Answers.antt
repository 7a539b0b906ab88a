-- A leaf begins with all of its list.
use Rattle.std.proofs.Common.{◌≡◌, subst, sym, refl, ap, ◌∙◌, inl, drop, length, arith}
use Rattle.sk_chunks.specs.Postings.{Postings}
use Rattle.sk_sorted.specs.Runs.{flat, AreRuns}
use Rattle.sk_lists.specs.Lists.{Runs}
use Rattle.sk_lists.specs.Cursor.{left, unread, IsOn}
use Rattle.sk_nodes.specs.declared.leaf.Leaf.{Leaf}
use Rattle.sk_nodes.specs.Leaves.{list_in, weighed, leaf_greatest}
use Rattle.sk_nodes.proofs.ListLaws.{leaf_opened}
use Rattle.sk_nodes.proofs.BegunLaws.{begun_lone, leaf_begins}
use Rattle.sk_nodes.proofs.leaf.Leaf.open.Goals as goal

pub returns-clause-yields : goal.returns-clause-yields
returns-clause-yields g c =
    let i = c.args.index.now in
    let is = c.list_of-list.ensures.runs in
    let entries = subst (λ (rs : Runs). left c.open.result rs ≡ flat rs) is c.open.ensures.left ∙ ap flat (sym is) ∙ c.list_of-list.ensures.entries in
    let greatest = c.greatest_of.ensures ∙ ap (leaf_greatest c.args.factor c.args.scheme) c.list_of-list.ensures.entries in
    let leaf : Leaf = record { source = c.args.source; scheme = c.args.scheme; factor = c.args.factor; need = 0; need_wdf = 0; greatest = c.greatest_of.result; cursor = c.open.result } in
    let on = leaf_opened i leaf c.requires.there c.requires.factor
    (subst (λ (rs : Runs). IsOn c.open.result rs) is c.open.ensures.on)
    (subst (λ (rs : Runs). AreRuns rs) is c.length-length.ensures.runs) refl entries greatest c.requires.documents in
    record {
      top = c.show.ensures.top i on;
      sound = on;
      gives = λ id. ap (λ (es : Postings). weighed c.args.factor c.args.scheme es id) entries;
      ceiling = omega (arith, c.show.ensures.falls, greatest);
    }

pub returns-clause-lone : goal.returns-clause-lone
returns-clause-lone g c =
    let is = c.list_of-list.ensures.runs in
    let list = ap flat (sym is) ∙ c.list_of-list.ensures.entries in
    let entries = subst (λ (rs : Runs). left c.open.result rs ≡ flat rs) is c.open.ensures.left ∙ list in
    let behind = subst (λ (rs : Runs). unread c.open.result rs ≡ drop 1 (flat rs)) is c.open.ensures.unread ∙ ap (drop 1) list in
    let begun = begun_lone (list_in c.args.index.now c.args.source) _ _ entries behind in
    let long = c.length-length.ensures.value ∙ ap length c.list_of-list.ensures.entries in
    record {
      lone = tt;
      at = inl (c.show.ensures.at c.args.index.now (returns-clause-yields g c).sound);
      few = omega (arith, c.from.ensures, c.min.ensures);
      paid = omega (arith, c.from.ensures, c.min.ensures, long, begun.0);
      within = omega (arith, begun.0);
      begun = begun.1;
    }

pub returns-clause-begun : goal.returns-clause-begun
returns-clause-begun g c =
    let is = c.list_of-list.ensures.runs in
    let entries = subst (λ (rs : Runs). left c.open.result rs ≡ flat rs) is c.open.ensures.left ∙ ap flat (sym is) ∙ c.list_of-list.ensures.entries in
    leaf_begins c.args.index.now _ _ (list_in c.args.index.now c.args.source) (leaf_greatest c.args.factor c.args.scheme (list_in c.args.index.now c.args.source)) (c.show.ensures.at c.args.index.now (returns-clause-yields g c).sound) entries
    (c.greatest_of.ensures ∙ ap (leaf_greatest c.args.factor c.args.scheme) c.list_of-list.ensures.entries)
