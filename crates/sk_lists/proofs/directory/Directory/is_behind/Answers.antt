-- The last ids rise, so what is behind the last chunk is behind all.
use Rattle.std.proofs.Common.{rules, ◌∙◌, ◌≡◌, ◌≤◌, ◌<◌, ◌-◌, ℕ, [], length, get_or, ap, subst, arith}
use Rattle.std.proofs.lemmas.Bool.{ltb-true}
use Rattle.sk_sorted.specs.Entries.{top_id}
use Rattle.sk_sorted.specs.Runs.{RunsRise}
use Rattle.sk_lists.specs.Lists.{Runs}
use Rattle.sk_sorted.proofs.RunEditLaws.{run_read}
use Rattle.sk_sorted.proofs.RunLaws.{tops_rise}
use Rattle.sk_lists.proofs.directory.Directory.is_behind.Goals as goal

pub returns-else-count-eq0 : goal.returns-else-count-eq0
returns-else-count-eq0 c less k there =
    let rs : Runs = c.args.self.now in
    let at : ℕ = c.len-count.result - 1 in
    let up : RunsRise 0 rs = subst (RunsRise 0) c.self.view_is c.self.invariant.sound.rise in
    let long : length c.self.inside.chunks.items ≡ length rs = ap length c.self.view_is in
    let count : c.len-count.result ≡ length rs = omega (arith, c.len-count.ensures, long, c.self.inside.chunks.ok.0) in
    let within : at < length rs = omega (arith, count, there) in
    let last : c.index.result.now ≡ get_or rs at [] = run_read c.self.inside.chunks.items rs at c.index.result.now c.self.view_is c.index.ensures within in
    let top : c.last.result ≡ top_id 0 (get_or rs at []) = c.last.ensures ∙ ap (top_id 0) last in
    let below = ltb-true c.last.result c.args.id less in
    let rises = tops_rise 0 rs k at [] up (omega (arith, count, there)) within in
    omega (arith, top, below, rises)
