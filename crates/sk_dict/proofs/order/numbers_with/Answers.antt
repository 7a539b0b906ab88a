use Rattle.std.proofs.Common.{◌≡◌, true, subst, sym, ap, ◌∙◌}
use Rattle.sk_dict.specs.Terms.{term_at, begins_with}
use Rattle.sk_dict.specs.Order.{Each, IsKnown}
use Rattle.sk_dict.proofs.WalkLemmas.{walk_on}
use Rattle.sk_dict.proofs.order.numbers_with.Goals as goal

-- one number more
pub walk-preserved : goal.walk-preserved
walk-preserved c =
    let known = subst (Each (IsKnown c.args.terms.now)) c.in-Some.ensures.rest c.walk.invariant.known in
    let begins : begins_with (term_at c.args.terms.now c.in-Some.number) c.args.prefix.now ≡ true =
    ap (λ t. begins_with t c.args.prefix.now) (sym c.get.ensures) ∙ sym c.starts_with.ensures.value ∙ c.if-not-starts_with.false in
    record {
      there = c.in-Some.ensures.there;
      known = known.1;
      whole = walk_on c.args.terms.now c.args.blocks.now c.args.prefix.now c.walk.place.block c.walk.place.offset c.in-Some.number c.in-Some.behind.block c.in-Some.behind.offset
          c.walk.found.items c.push.new.self.items _ c.in-Some.ensures begins c.in_ok-push.ensures.items c.walk.invariant.whole;
    }
