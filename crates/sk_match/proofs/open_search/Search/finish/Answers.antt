use Rattle.std.proofs.lemmas.Result.{IfOk-weaker}
use Rattle.sk_match.proofs.FinishLemmas.{may_report, finished}
use Rattle.sk_match.proofs.open_search.Search.finish.Goals as goal

pub report-requires : goal.report-requires
report-requires g c =
    let i = c.args.index.now in
    let on = c.requires.on in
    may_report i c.args.self on.0 on.1 on.2 c.ceiling-ceiling.result c.ceiling-ceiling.ensures.value (c.ceiling-ceiling.ensures.bound i on.2.built.tree) c.requires.done c.is_whole-is_whole.result
    (c.is_whole-is_whole.ensures i on.2.built.tree)

pub returns-clause-report : goal.returns-clause-report
returns-clause-report g c =
    let i = c.args.index.now in
    IfOk-weaker c.report.result _ _
    (λ report reports paging query stands.
    finished i c.args.self paging query stands c.ceiling-ceiling.result c.ceiling-ceiling.ensures.value (c.ceiling-ceiling.ensures.bound i stands.built.tree) c.requires.done c.is_whole-is_whole.result
    (c.is_whole-is_whole.ensures i stands.built.tree) c.spent-spent.result
    (record { within = c.spent-spent.ensures.within i query paging.options.scheme stands.built; stops = c.spent-spent.ensures.stops i; rare = c.spent-spent.ensures.rare i; decays = c.spent-spent.ensures.decays i })
    _ reports)
    c.report.ensures.report
