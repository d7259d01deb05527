use Rattle.std.proofs.Common.{length}
use Rattle.reading.proofs.RefusedFacts.{reads_judged}
use Rattle.reading.proofs.trace.read_judged.Goals as goal

pub returns : goal.returns
returns g c = record {
  answer = c.read_whole.ensures.answer;
  stage = c.read_whole.ensures.stage;
  law = reads_judged g.K.Total.kind g.K.Total.columns (length c.args.totals.now) c.args.text.now c.args.totals.now c.read_whole.new.totals c.read_whole.result c.read_whole.ensures.answer;
}
