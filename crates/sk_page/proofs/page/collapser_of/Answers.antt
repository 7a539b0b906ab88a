use Rattle.std.proofs.Common.{[], Some, sym, subst}
use Rattle.sk_page.specs.Pages.{CollapsesBy}
use Rattle.sk_page.proofs.page.collapser_of.Goals as goal

pub returns-in-Some : goal.returns-in-Some
returns-in-Some c key =
    subst (λ o. CollapsesBy o c.args.order key [] (Some c.new.result)) (sym c.in-Some.is) (c.new.ensures.value.0, c.new.ensures.value.1, c.new.ensures.knows key)
