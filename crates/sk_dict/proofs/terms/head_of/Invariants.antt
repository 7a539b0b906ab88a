use Rattle.std.proofs.Common.{◌≡◌, ◌<◌, ◌^◌, ◌-◌, drop}
use Rattle.sk_dict.specs.Heads.{with_bytes, head_of}
use Rattle.sk_dict.proofs.terms.head_of.Given as goal

abbrev pub invariant-bytes : goal.invariant-bytes
invariant-bytes l = record {
  is : with_bytes l.head (8 - l.i) (drop l.i l.bytes) ≡ head_of l.bytes;
  small : l.head < 256 ^ l.i;
}
