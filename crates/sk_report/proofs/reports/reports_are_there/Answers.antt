use Rattle.sk_report.proofs.ReportLaws.{report_there, exact_over, exact_over_is}
use Rattle.sk_report.proofs.reports.reports_are_there.Goals as goal

pub returns-clause-whole : goal.returns-clause-whole
returns-clause-whole c = report_there

pub returns-clause-parts : goal.returns-clause-parts
returns-clause-parts c n query paging above docs some rise e = (exact_over n query paging docs, exact_over_is n query paging docs above some rise e)
