use Rattle.std.proofs.Common.{take, sym, refl, arith}
use Rattle.std.proofs.lemmas.List.{length-take-le}
use Rattle.std.proofs.lemmas.Result.{err_from_is_err_and}
use Rattle.sheets.specs.Takes.{state_of}
use Rattle.sheets.specs.Standing.{standing_total}
use Rattle.sheets.proofs.Asked.{days_none, write_more, rest_more, trace_stops}
use Rattle.sheets.proofs.questions.write_trace.Goals as goal

pub loop-day-init : goal.loop-day-init
loop-day-init g c = (sym (days_none g.K.Total.kind (standing_total g.K.Total.kind (state_of g.S.Shelf.slots g.S.Shelf.outside c.args.sheet.now))), refl)

pub loop-day-preserved : goal.loop-day-preserved
loop-day-preserved g c =
    let x = standing_total g.K.Total.kind (state_of g.S.Shelf.slots g.S.Shelf.outside c.args.sheet.now) in
    let before = take c.args.sheet.now.days c.args.totals.now in
    let m = c.loop-day.invariant in (
      write_more g.K.Total.kind g.K.Total.columns x c.loop-day.day before c.loop-day.total-items c.in_ok-total.field-0 (omega arith) c.in_ok-total.ensures m.0,
      rest_more g.K.Total.kind g.K.Total.columns x c.loop-day.day before c.loop-day.total-items c.in_ok-total.field-0 m.1,
    )

pub returns-in_err-total-clause-filled : goal.returns-in_err-total-clause-filled
returns-in_err-total-clause-filled g c =
    let p = err_from_is_err_and c.from_residual.result c.from_residual.ensures.1 in
    let h = c.loop-day-test.true in
    let n = c.loop-day.auto.total-items in
    let t = length-take-le c.args.sheet.now.days c.args.totals.now c.requires in
    rw p.1
    (trace_stops g.K.Total.kind g.K.Total.columns (state_of g.S.Shelf.slots g.S.Shelf.outside c.args.sheet.now) c.loop-day.day c.args.totals.now c.loop-day.total-items c.total-item.result p.0
    (omega arith) (omega arith) (omega arith) c.loop-day.invariant.0 c.loop-day.invariant.1)
