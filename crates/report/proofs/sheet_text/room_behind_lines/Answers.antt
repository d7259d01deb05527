use Rattle.std.proofs.Common.{◌≡◌, ◌+◌, ◌-◌, length, ap, arith}
use Rattle.std.proofs.lemmas.Result.{err_from_is_err_and}
use Rattle.sheets.specs.Takes.{state_of}
use Rattle.report.specs.PulseTexts.{row_lines}
use Rattle.report.proofs.TextFacts.{rows_next, rows_stop}
use Rattle.report.proofs.sheet_text.room_behind_lines.Goals as goal

pub returns-in_err-left : goal.returns-in_err-left
returns-in_err-left g c =
    let p = err_from_is_err_and c.from_residual.result c.from_residual.ensures.1 in
    rw (p.1, p.2)
    (rows_stop g.K.Total.kind (state_of g.S.Shelf.slots g.S.Shelf.outside c.args.sheet.now) c.loop-number.number c.args.room c.loop-number.left c.in_err-left.field-0.0
    (omega arith)
    (omega (arith, c.pulses-number-end.ensures, c.loop-number-test.true))
    c.loop-number.invariant.1
    c.in_err-left.ensures)

pub loop-number-preserved : goal.loop-number-preserved
loop-number-preserved g c =
    let s = state_of g.S.Shelf.slots g.S.Shelf.outside c.args.sheet.now in
    let e : c.loop-number.number + 1 - 1 ≡ c.loop-number.number = omega arith in
    let r = rows_next g.K.Total.kind s.slots c.loop-number.number (omega arith) in
    (omega (arith, c.pulses-number-end.ensures, c.loop-number-test.true), rw e (omega (arith, c.loop-number.invariant.1, c.in_ok-left.ensures)))

pub returns-in_ok-left : goal.returns-in_ok-left
returns-in_ok-left g c =
    let s = state_of g.S.Shelf.slots g.S.Shelf.outside c.args.sheet.now in
    let z : s.count ≡ c.loop-number.number = omega (arith, c.pulses-number-end.ensures, c.loop-number-test.true) in
    let q : length (row_lines g.K.Total.kind s.count s.slots) ≡ length (row_lines g.K.Total.kind c.loop-number.number s.slots) = ap (λ i. length (row_lines g.K.Total.kind i s.slots)) z in
    let r = rows_next g.K.Total.kind s.slots c.loop-number.number (omega arith) in
    omega (arith, c.loop-number.invariant.1, c.in_ok-left.ensures)
