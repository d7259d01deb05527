use Rattle.std.proofs.Common.{◌+◌, ◌∙◌, arith}
use Rattle.writing.proofs.RecordFacts.{length_of_day, pasted_day}
use Rattle.writing.proofs.record_text.put_days.Goals as goal

pub loop-i-preserved : goal.loop-i-preserved
loop-i-preserved g c =
    let more = length_of_day g.K.Total.kind g.K.Total.columns (c.loop-i.i + 1) c.args.totals.now c.loop-i.i c.index-totals-i.result (omega arith) c.index-totals-i.is in (
      pasted_day g.K.Total.kind g.K.Total.columns (c.loop-i.i + 1) c.args.totals.now c.loop-i.i c.index-totals-i.result c.loop-i.text.at c.put_day-text.result.at c.loop-i.out c.put_day-text.new.out (omega arith) c.index-totals-i.is (omega arith) c.put_day-text.ensures.end c.put_day-text.ensures.bytes
          ∙ c.loop-i.invariant.0,
      omega arith,
    )
