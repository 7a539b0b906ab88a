use Rattle.std.proofs.Common.{rules, ◌∙◌, ◌≡◌, length, is_none, ap, subst}
use Rattle.std.proofs.lemmas.Result.{IfOk-weaker}
use Rattle.sk_base.specs.declared.find.Paging.{Paging}
use Rattle.sk_base.specs.declared.report.Report.{Report}
use Rattle.sk_query.specs.Trees.{Tree}
use Rattle.sk_report.specs.Reports.{ReportsOver}
use Rattle.sk_page.specs.Needs.{is_whole}
use Rattle.sk_page.specs.Views.{Reports}
use Rattle.sk_shards.specs.Forests.{Stands, docs_of, ceiling_in, spent_in}
use Rattle.sk_shards.proofs.TurnLemmas.{most_there, first_there}
use Rattle.sk_shards.proofs.FinishLemmas.{done_told, whole_told, may_report, finished}
use Rattle.sk_shards.proofs.forest.Forest.finish.Goals as goal

pub report-requires : goal.report-requires
report-requires g c =
    let indexes = c.args.indexes.now in
    let f = c.args.self in
    let on = c.requires.over in
    let scheme = on.0.options.scheme in
    let slice = c.as_slice-trees.result.now in
    let ended : c.is_none-is_ended.result ≡ is_none c.first_of.result = search rules in
    let ceiling : c.ceiling_of.result ≡ ceiling_in f.trees.items = c.ceiling_of.ensures.value ∙ ap ceiling_in c.as_slice-trees.ensures.value in
    may_report indexes f on.0 on.1 c.requires.turns on.2
    (most_there indexes slice f.trees.items on.1 scheme c.ceiling_of.result c.as_slice-trees.ensures.value c.ceiling_of.ensures.value c.ceiling_of.ensures.bound on.2.built)
    (done_told indexes f on.0 on.1 c.requires.turns on.2 c.requires.done)
    c.is_whole-is_whole.result
    (c.is_whole-is_whole.ensures
    ∙ (λ j. is_whole f.page.options f.need (ended j) (ceiling j))
    ∙ whole_told indexes f on.0 on.1 c.requires.turns on.2 c.first_of.result (first_there indexes slice f.trees.items c.first_of.result on.1 scheme c.as_slice-trees.ensures.value c.requires.turns on.2.built c.first_of.ensures))

pub returns-clause-report : goal.returns-clause-report
returns-clause-report g c =
    let indexes = c.args.indexes.now in
    let f = c.args.self in
    let slice = c.as_slice-trees.result.now in
    let ended : c.is_none-is_ended.result ≡ is_none c.first_of.result = search rules in
    let ceiling : c.ceiling_of.result ≡ ceiling_in f.trees.items = c.ceiling_of.ensures.value ∙ ap ceiling_in c.as_slice-trees.ensures.value in
    let spent : c.in_ok-spent.spent ≡ spent_in f.trees.items = c.in_ok-spent.ensures ∙ ap spent_in c.as_slice-trees.ensures.value in
    IfOk-weaker c.report.result (Reports (docs_of indexes) f.page f.bounds c.is_whole-is_whole.result c.in_ok-spent.spent)
    (λ (report : Report). (paging : Paging) (query : Tree) → Stands f indexes paging query → ReportsOver (length indexes) query paging (docs_of indexes) report)
    (λ report r paging query stands.
    finished indexes f paging query c.requires.turns stands
    (most_there indexes slice f.trees.items query paging.options.scheme c.ceiling_of.result c.as_slice-trees.ensures.value c.ceiling_of.ensures.value c.ceiling_of.ensures.bound stands.built)
    (done_told indexes f paging query c.requires.turns stands c.requires.done)
    c.is_whole-is_whole.result
    (c.is_whole-is_whole.ensures
    ∙ (λ j. is_whole f.page.options f.need (ended j) (ceiling j))
    ∙ whole_told indexes f paging query c.requires.turns stands c.first_of.result (first_there indexes slice f.trees.items c.first_of.result query paging.options.scheme c.as_slice-trees.ensures.value c.requires.turns stands.built c.first_of.ensures))
    report (subst (λ n. Reports (docs_of indexes) f.page f.bounds c.is_whole-is_whole.result n report) spent r))
    c.report.ensures.report
