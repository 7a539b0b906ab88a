use Rattle.sk_plain.proofs.ReportLemmas.{exact_reports}
use Rattle.sk_plain.proofs.reports.plain_reports.Goals as goal

pub returns : goal.returns
returns c = exact_reports
