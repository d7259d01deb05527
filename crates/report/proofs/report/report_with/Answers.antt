use Rattle.report.proofs.TellFacts.{reported}
use Rattle.report.proofs.report.report_with.Goals as goal

pub returns : goal.returns
returns g c = reported g.K.Total.kind c.args.text.now c.args.out.now c.pulses_of-pulses.new.out c.tell.new.out c.pulses_of-pulses.result c.tell.result c.pulses_of-pulses.ensures.answer c.tell.ensures
