use Rattle.report.proofs.ReportFacts as facts
use Rattle.report.proofs.report.reports_fit.Goals as goal

pub returns-clause-fit : goal.returns-clause-fit
returns-clause-fit c = facts.reports_fit
