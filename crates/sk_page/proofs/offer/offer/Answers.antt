use Rattle.std.proofs.Common.{◌≢◌, All, sym, ap, subst}
use Rattle.sk_heap.specs.declared.hit.Hit.{Hit}
use Rattle.sk_heap.specs.Held.{Held}
use Rattle.sk_page.proofs.OfferLaws.{differ_without}
use Rattle.sk_page.proofs.offer.offer.Goals as goal

pub put-requires-in-KeepFor-clause-differs : goal.put-requires-in-KeepFor-clause-differs
put-requires-in-KeepFor-clause-differs g =
    subst (All (λ (h : Hit). h.rank.id ≢ g.args.hit.rank.id)) (sym (ap (λ (h : Held). h.hits) g.remove.ensures.held))
    (differ_without g.in-KeepFor.id g.args.hit.rank.id g.args.heap.now.hits g.requires.differs)
