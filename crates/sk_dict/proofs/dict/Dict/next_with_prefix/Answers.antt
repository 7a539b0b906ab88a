use Rattle.std.proofs.Common.{◌≡◌, true, false, sym, ap, ◌∙◌}
use Rattle.sk_dict.specs.Terms.{begins_with, term_at}
use Rattle.sk_dict.proofs.PrefixLemmas.{none_follows, first_follows, first_is_past}
use Rattle.sk_dict.proofs.dict.Dict.next_with_prefix.Goals as goal

-- all terms are passed
pub returns-in_err-number : goal.returns-in_err-number
returns-in_err-number c = rw c.from_residual.ensures (none_follows c.args.self.now c.args.prefix.now c.args.after c.in_err-number.ensures)

-- the first that is not begins with the prefix
pub returns-then-starts_with : goal.returns-then-starts_with
returns-then-starts_with c =
    let begins : begins_with (term_at c.args.self.now c.in_ok-number.number) c.args.prefix.now ≡ true =
    ap (λ t. begins_with t c.args.prefix.now) (sym c.term.ensures) ∙ sym c.starts_with.ensures.value ∙ c.if-starts_with.true in
    first_follows c.args.self.now c.args.prefix.now c.args.after c.in_ok-number.number c.in_ok-number.ensures begins

-- it does not
pub returns-else-starts_with : goal.returns-else-starts_with
returns-else-starts_with c =
    let begins : begins_with (term_at c.args.self.now c.in_ok-number.number) c.args.prefix.now ≡ false =
    ap (λ t. begins_with t c.args.prefix.now) (sym c.term.ensures) ∙ sym c.starts_with.ensures.value ∙ c.if-starts_with.false in
    first_is_past c.args.self.now c.args.prefix.now c.args.after c.in_ok-number.number c.requires.begins c.in_ok-number.ensures begins
