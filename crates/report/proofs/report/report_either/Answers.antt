use Rattle.std.proofs.Common.{sym}
use Rattle.kinds.specs.Wholes.{paper, mobile}
use Rattle.report.specs.Reports.{report_as}
use Rattle.report.proofs.TellFacts as facts
use Rattle.report.proofs.report.report_either.Goals as goal

pub returns-then-names_pieces : goal.returns-then-names_pieces
returns-then-names_pieces c =
    let text = c.args.text.now in
    let p = facts.report_due text (report_as mobile text) c.args.out.now c.report_mobile.new.out c.report_mobile.result (facts.report_mobile text (sym c.if-names_pieces.ensures)) c.report_mobile.ensures in
    record { answer = p.0; room = p.1; refusal = p.2 }

pub returns-else-names_pieces : goal.returns-else-names_pieces
returns-else-names_pieces c =
    let text = c.args.text.now in
    let p = facts.report_due text (report_as paper text) c.args.out.now c.report_paper.new.out c.report_paper.result (facts.report_paper text (sym c.if-names_pieces.ensures)) c.report_paper.ensures in
    record { answer = p.0; room = p.1; refusal = p.2 }
