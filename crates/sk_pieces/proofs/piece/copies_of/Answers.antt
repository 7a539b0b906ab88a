-- Each copy goes behind those of the entries before.
use Rattle.std.proofs.Common.{◌≡◌, ℕ, take, sym, ap, ◌∙◌}
use Rattle.sk_sorted.specs.Entries.{put}
use Rattle.sk_pieces.proofs.CopyLemmas.{entry-above, put_next}
use Rattle.sk_pieces.proofs.piece.copies_of.Goals as goal

pub put-requires : goal.put-requires
put-requires g c = entry-above 0 c.args.entries.now c.entries.entry-index c.entry-item.result c.requires.rise c.entries-test.true c.entry-item.is

pub entries-preserved : goal.entries-preserved
entries-preserved g c =
    c.in_ok-put.ensures.ok
    ∙ ap (put c.entry-item.result.0 c.in_ok-x.x) c.entries.invariant
    ∙ ap (λ x. put c.entry-item.result.0 x (take c.entries.entry-index c.args.entries.now)) c.in_ok-x.ensures
    ∙ put_next 0 c.args.entries.now c.entries.entry-index c.entry-item.result c.requires.rise c.entries-test.true c.entry-item.is
