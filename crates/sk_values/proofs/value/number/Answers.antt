use Rattle.std.proofs.Common.{◌∙◌}
use Rattle.sk_values.proofs.NumberLaws.{eight_spell}
use Rattle.sk_values.proofs.value.number.Goals as goal

pub returns : goal.returns
returns c = record {
  eight = c.told-bytes;
  bytes = c.fits-bytes;
  spells = c.from_be_bytes.ensures ∙ eight_spell c.args.bytes.now c.told-bytes;
  fits = c.from_be_bytes.type_inv;
}
