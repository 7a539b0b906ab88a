-- What holds of parts holds of the pieces.
use Rattle.std.proofs.Common.{arith}
use Rattle.sk_tree.proofs.CountLaws.{counted}
use Rattle.sk_tree.proofs.OpenLaws.{parts_joined}
use Rattle.sk_tree.proofs.PartsLaws.{splits}
use Rattle.sk_tree.proofs.parts.split_before.Goals as goal

pub returns : goal.returns
returns c factor small are =
    splits c.args.form factor _ _ _ (parts_joined c.args.parts.now c.split_at.result.0.now c.split_at.result.1.now c.args.place c.split_at.ensures.front c.split_at.ensures.back) are
    (omega (arith, counted c.split_at.result.0.now, c.split_at.ensures.front_len, c.requires.begun))
    (omega (arith, counted c.split_at.result.1.now, c.split_at.ensures.back_len, c.split_at.ensures.front_len, c.requires.within)) small c.requires.nest
