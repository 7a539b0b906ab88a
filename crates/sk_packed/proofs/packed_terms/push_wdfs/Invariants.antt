-- What was put and the wdfs that are left are all.
use Rattle.std.proofs.Common.{◌≡◌, ◌++◌, drop}
use Rattle.sk_packed.specs.Packed.{wdfs_of}
use Rattle.sk_packed.proofs.packed_terms.push_wdfs.Given as goal

abbrev pub invariant-terms : goal.invariant-terms
invariant-terms l = l.words.items ++ wdfs_of (drop l.one-index l.terms) ≡ l.initial.words.items ++ wdfs_of l.terms
