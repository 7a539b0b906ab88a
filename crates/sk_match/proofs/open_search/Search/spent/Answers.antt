use Rattle.std.proofs.Common.{arith, ℕ, length}
use Rattle.sk_model.specs.Bounds.{ceil}
use Rattle.sk_page.proofs.SharpLaws.{plain_free}
use Rattle.sk_page.proofs.SpentLaws.{spent_sharp}
use Rattle.sk_model.specs.Matches.{found_by}
use Rattle.sk_model.specs.Sharp.{ups}
use Rattle.sk_report.specs.Paces.{reached_by}
use Rattle.sk_tree.specs.Built.{gives}
use Rattle.sk_match.proofs.FinishLemmas.{lists_spent}
use Rattle.sk_match.proofs.open_search.Search.spent.Goals as goal

pub returns-clause-within : goal.returns-clause-within
returns-clause-within c i paging query hits stands =
    let s = c.args.self.now in
    let few = spent_sharp query paging i.live.documents (ceil query paging.options.scheme 1 i.live.documents) (gives i s.tree) s.need s.page stands.page c.spent.result
    (lists_spent i s paging query stands c.spent.result
    (record { within = c.spent.ensures.within i query paging.options.scheme stands.built; stops = c.spent.ensures.stops i; rare = c.spent.ensures.rare i; decays = c.spent.ensures.decays i })) hits in
    omega (arith, few, c.spent.ensures.value, c.saturating_add.ensures)

pub returns-clause-paced : goal.returns-clause-paced
returns-clause-paced c i paging query lists stands early flat =
    let s = c.args.self.now in
    let docs = i.live.documents in
    let reached : ℕ = reached_by s.page.seen (found_by query paging docs) in
    let more = early.2 in
    let low = stands.page.walk.few (omega (arith, more, stands.page.seen)) in
    let none = early.1 in
    let paid = c.spent.ensures.stops i reached (ups lists reached docs) (stands.accounts.pace lists flat (omega (arith, low, none)) reached (omega arith)) in
    let free = plain_free paging (length stands.page.saw) early.0 in
    omega (arith, paid, stands.page.read, free, c.spent.ensures.value, c.saturating_add.ensures)
