-- What was found, with what is found from the place on, is what is found from the start on.
use Rattle.std.proofs.Common.{◌≡◌, ◌<◌, ◌++◌, length}
use Rattle.std.specs.List.{take_while}
use Rattle.sk_dict.specs.Terms.{term_at, begins_with}
use Rattle.sk_dict.specs.Order.{Each, IsKnown}
use Rattle.sk_dict.specs.Blocks.{rest_from}
use Rattle.sk_dict.proofs.order.numbers_with.Given as goal

abbrev pub invariant-walk : goal.invariant-walk
invariant-walk l = record {
  there : l.place.block < length l.blocks;
  known : Each (IsKnown l.terms) (rest_from l.blocks l.place.block l.place.offset);
  whole : l.found.items ++ take_while (λ n. begins_with (term_at l.terms n) l.prefix) (rest_from l.blocks l.place.block l.place.offset)
      ≡ take_while (λ n. begins_with (term_at l.terms n) l.prefix) (rest_from l.blocks l.fn.start.block l.fn.start.offset);
}

abbrev pub decreases-walk : goal.decreases-walk
decreases-walk l = length (rest_from l.blocks l.place.block l.place.offset)
