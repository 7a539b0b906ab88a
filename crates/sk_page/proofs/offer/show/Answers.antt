use Rattle.std.proofs.Common.{rules}
use Rattle.sk_page.proofs.OfferLaws.{kept_out}
use Rattle.sk_page.proofs.offer.show.Goals as goal

pub returns-then-is_kept_out-clause-offers : goal.returns-then-is_kept_out-clause-offers
returns-then-is_kept_out-clause-offers c =
    kept_out c.args.heap.now c.args.collapser.now (record { rank = record { weight = c.args.weight; value = c.args.value.now; id = c.args.id }; key = c.args.key.now }) (search rules) c.len-ordered.ensures.few c.len-ordered.ensures.sorted (search rules) c.requires.under
