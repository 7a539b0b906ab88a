-- One chunk more.
use Rattle.std.proofs.Common.{◌≡◌, ◌++◌, [], get_or, length, ◌∙◌, ap, arith}
use Rattle.sk_sorted.specs.Entries.{ids_of}
use Rattle.sk_lists.specs.Lists.{Runs}
use Rattle.sk_lists.proofs.DirectoryLemmas.{ids_more}
use Rattle.sk_lists.proofs.directory.Directory.put_ids.Goals as goal

pub chunks-preserved : goal.chunks-preserved
chunks-preserved c =
    let size : length c.self.inside.chunks.items ≡ length c.args.self.now = ap (λ (s : Runs). length s) c.self.view_is in
    record {
      same = c.in_ok-ids.ensures.same ∙ c.chunks.invariant.same;
      ids = ids_more c.args.self.now c.chunks.at c.args.ids.items c.chunks.ids.items c.in_ok-ids.ids.items (omega (arith, size)) c.chunks.invariant.ids
          (c.in_ok-ids.ensures.ids ∙ ap (λ (s : Runs). c.chunks.ids.items ++ ids_of (get_or s c.chunks.at [])) c.chunks.invariant.same);
    }
