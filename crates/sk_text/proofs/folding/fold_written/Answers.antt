use Rattle.std.proofs.Common.{◌++◌, map, encode_utf8, encode_utf8_all, sym, ap, ◌∙◌}
use Rattle.std.proofs.lemmas.List.{map-id}
use Rattle.std.proofs.lemmas.Iterator.{YieldsList-from_chars}
use Rattle.std.proofs.lemmas.Iterator.Consumers.{YieldsList-end}
use Rattle.sk_text.specs.Characters.{written}
use Rattle.sk_text.proofs.AsciiLaws.{written_bytes-ascii}
use Rattle.sk_text.proofs.TermLemmas.{written_bytes-same}
use Rattle.sk_text.proofs.LayoutLemmas.{encodes-snoc}
use Rattle.sk_text.proofs.folding.fold_written.Goals as goal

pub returns-then-is_ascii : goal.returns-then-is_ascii
returns-then-is_ascii c =
    rw (written_bytes-ascii c.args.word.now c.if-is_ascii.ensures.cases) (c.fold_ascii.ensures c.if-is_ascii.ensures.cases)

pub returns-then-stands_as_written : goal.returns-then-stands_as_written
returns-then-stands_as_written c =
    rw (written_bytes-same c.args.word.now c.utf8.word (sym c.stands_as_written.ensures ∙ c.if-stands_as_written.true)) c.fold_by_tables.ensures

pub word-preserved : goal.word-preserved
word-preserved c =
    c.in_ok-push.ensures.bytes ∙ ap (λ bs. bs ++ encode_utf8 c.written.result) c.word.invariant
    ∙ ap (λ w. encode_utf8_all (map written c.word.yielded) ++ encode_utf8 w) c.written.ensures ∙ sym (encodes-snoc c.word.yielded c.in-Some.c)

pub returns : goal.returns
returns c =
    let all = YieldsList-end (YieldsList-from_chars c.args.word.now c.utf8.word cc) c.word.yielded _ c.word.yielded_by _ _ c.in-None.is c.next.ensures.steps in
    let bytes = c.as_str.ensures.value ∙ c.word.invariant ∙ ap (λ cs. encode_utf8_all (map written cs)) (sym (map-id c.word.yielded) ∙ all.0) in
    rw (sym bytes) c.fold.ensures
