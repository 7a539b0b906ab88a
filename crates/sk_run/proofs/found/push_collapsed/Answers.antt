use Rattle.std.proofs.Common.{string_bytes}
use Rattle.sk_run.proofs.FoundLemmas.{none_collapsed, some_collapsed}
use Rattle.sk_run.proofs.found.push_collapsed.Goals as goal

pub returns-then-collapsed-eq0 : goal.returns-then-collapsed-eq0
returns-then-collapsed-eq0 c =
    none_collapsed (string_bytes c.args.text.now) (string_bytes c.push_str.new.self) c.args.collapsed c.if-collapsed-eq0.true c.in_ok-push_str.ensures.bytes

pub returns : goal.returns
returns c =
    some_collapsed (string_bytes c.args.text.now) (string_bytes c.push_number.new.text) (string_bytes c.push_str-2.new.self) c.args.collapsed c.in_ok-push_number.ensures c.in_ok-push_str-2.ensures.bytes
