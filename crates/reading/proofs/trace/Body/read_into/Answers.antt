use Rattle.std.proofs.Common.{◌≡◌, suc, ◌+◌, ◌∷◌, length, arith}
use Rattle.std.proofs.lemmas.Result.{err_from_is_err_and}
use Rattle.reading.specs.Parts.{fields, lines}
use Rattle.reading.proofs.LinesFacts.{line_read, line_broke}
use Rattle.reading.proofs.trace.Body.read_into.Goals as goal

pub loop-next-preserved : goal.loop-next-preserved
loop-next-preserved g c =
    let cut : lines c.loop-next.left.now ≡ c.cut.result.0.now ∷ lines c.in-Some.next.now = rw c.in-Some.is at c.cut.ensures.in_parts in
    let all : length c.loop-next.left.now ≡ length c.cut.result.0.now + suc (length c.in-Some.next.now) = rw c.in-Some.is at c.cut.ensures.in_all in (
      line_read g.K.Total.kind g.K.Total.columns c.args.totals.now c.loop-next.totals c.keep.new.totals _ (fields c.args.self.now.names.now) c.loop-next.days c.loop-next.at c.loop-next.left.now c.cut.result.0.now c.in-Some.next.now c.read.result c.in_ok-total.total cut c.read.ensures.answer c.in_ok-total.was c.keep.ensures c.loop-next.invariant.0,
      omega arith,
      omega arith,
    )

pub returns-in_err-total : goal.returns-in_err-total
returns-in_err-total g c =
    let cut : lines c.loop-next.left.now ≡ c.cut.result.0.now ∷ lines c.in-Some.next.now = rw c.in-Some.is at c.cut.ensures.in_parts in
    let p = err_from_is_err_and c.from_residual.result c.from_residual.ensures.1 in
    rw (p.1, p.2) (record {
      answer = line_broke g.K.Total.kind g.K.Total.columns c.args.totals.now c.loop-next.totals _ (fields c.args.self.now.names.now) c.loop-next.days c.loop-next.at c.loop-next.left.now c.cut.result.0.now c.in-Some.next.now c.read.result c.in_err-total.field-0.0 cut c.read.ensures.answer c.in_err-total.was c.loop-next.invariant.0;
      place = c.in_err-total.ensures.place;
    })
