use Rattle.std.proofs.Common.{rules, arith, ◌≡◌, ◌≤◌, ◌+◌, ◌-◌, ◌∙◌, ap, sym, length, min, drop, take}
use Rattle.sk_io.proofs.Pieces.{gives_front, ends_there}
use Rattle.sk_io.proofs.memory.MemorySourceSource.take.Goals as goal

pub returns-clause-bytes : goal.returns-clause-bytes
returns-clause-bytes c =
    let s = c.self.inside in
    let long : c.len.result ≡ length s.bytes.items = search (rules, c.len.ensures, s.bytes.ok.0) in
    let n : c.min-n.result ≡ min (min (length c.args.buf.now) s.most) (length s.bytes.items - s.at) = rw (c.min-n.ensures, c.min.ensures, long) in
    let inside : s.at + c.min-n.result ≤ length s.bytes.items = omega arith in
    let copied = c.copy_from_slice.ensures.after ∙ ap (λ w. take (s.at + c.min-n.result - s.at) (drop s.at w)) c.deref-2.ensures.value in (
      ap (λ f. f.left) (sym c.self.view_is) ∙ gives_front s.bytes.items c.args.buf.now c.copy_from_slice.new.self s.at c.min-n.result inside copied,
      λ none wide. ends_there s.bytes.items s.at (length c.args.buf.now) s.most c.min-n.result c.self.invariant.1 c.requires n none,
    )
