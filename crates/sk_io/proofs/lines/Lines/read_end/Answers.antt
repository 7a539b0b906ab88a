use Rattle.std.proofs.Common.{◌≡◌, ◌≤◌, ◌∙◌, true, length, arith, ap, sym}
use Rattle.std.proofs.lemmas.Result.{err_from_is_err_and}
use Rattle.sk_io.specs.LineText.{NoLineEnd}
use Rattle.sk_io.proofs.LineEnds.{no_end_same}
use Rattle.sk_io.proofs.Stream.{search_more, search_halts, search_ends, search_seen}
use Rattle.sk_io.proofs.lines.Lines.read_end.Goals as goal

pub returns-in_err-n-clause-err : goal.returns-in_err-n-clause-err
returns-in_err-n-clause-err g c =
    let none : NoLineEnd c.search.self.held = no_end_same _ _ c.held.ensures c.in_default.ensures in
    let p = err_from_is_err_and c.from_residual.result c.from_residual.ensures.1 in
    rw (p.1, p.2) (search_halts _ _ c.search.self _ _ _ c.search.seen _ c.search.invariant.so_far none c.in_err-n.ensures.err)

pub returns-then-n-eq0-clause-ok : goal.returns-then-n-eq0-clause-ok
returns-then-n-eq0-clause-ok g c =
    let none : NoLineEnd c.search.self.held = no_end_same _ _ c.held.ensures c.in_default.ensures in
    let short : length c.search.self.held ≤ 1048576 = omega (arith, ap length c.held-seen.ensures) in
    search_ends _ _ c.search.self _ _ _ c.search.seen c.in_ok-n.n c.search.invariant.so_far none short c.in_ok-n.ensures.ok c.if-n-eq0.true

pub search-preserved : goal.search-preserved
search-preserved g c =
    let none : NoLineEnd c.search.self.held = no_end_same _ _ c.held.ensures c.in_default.ensures in
    record {
      so_far = search_seen _ _ _ _ _ _ (ap length (sym c.held-seen.ensures)) (search_more _ _ c.search.self _ _ _ c.search.seen c.in_ok-n.n c.search.invariant.so_far none c.in_ok-n.ensures.ok);
      later = omega (arith, c.search.invariant.later, c.fill.ensures.cause.later);
      prompt = λ h. absurd (h (no_end_same c.search.self.held c.args.self.now.held (ap (λ r. r.held) (c.search.invariant.prompt h).0) none));
      ended = λ e.
          let was : c.search.self.ended ≡ true = ap (λ r. r.ended) (c.search.invariant.ended e).0 ∙ e in
          let got = (c.in_ok-n.ensures.ended was).2 in
          let none_taken : c.in_ok-n.n ≡ 0 = cc in
          absurd (c.if-n-eq0.false none_taken);
    }
