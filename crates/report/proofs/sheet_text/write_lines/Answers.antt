use Rattle.std.proofs.Common.{◌≡◌, ◌+◌, ◌-◌, length, sym, ap, ◌∙◌, subst, arith}
use Rattle.std.proofs.lemmas.Result.{err_from_is_err_and}
use Rattle.sheets.specs.Takes.{state_of}
use Rattle.writer.specs.Written.{pasted}
use Rattle.writer.proofs.WrittenFacts.{pasted_none}
use Rattle.report.specs.PulseTexts.{row_lines}
use Rattle.report.proofs.TextFacts.{rows_none, rows_next, rows_within, write_more, lines_stop}
use Rattle.report.proofs.sheet_text.write_lines.Goals as goal

pub loop-number-init : goal.loop-number-init
loop-number-init g c =
    let e = rows_none g.K.Total.kind (state_of g.S.Shelf.slots g.S.Shelf.outside c.args.sheet.now).slots in
    (omega arith, (sym (ap (λ bs. pasted c.args.named.at bs c.args.out.now) e ∙ pasted_none c.args.named.at c.args.out.now), omega (arith, ap length e)))

pub write_line-requires : goal.write_line-requires
write_line-requires g c =
    let s = state_of g.S.Shelf.slots g.S.Shelf.outside c.args.sheet.now in
    let r = rows_next g.K.Total.kind s.slots c.loop-number.number (omega arith) in
    let w = rows_within g.K.Total.kind s.slots c.loop-number.number s.count (omega (arith, c.pulses-number-end.ensures, c.loop-number-test.true)) in
    (omega arith, (omega (arith, c.pulses-number-end.ensures, c.loop-number-test.true), omega (arith, c.loop-number.invariant.1.1)))

pub loop-number-preserved : goal.loop-number-preserved
loop-number-preserved g c =
    let e : c.loop-number.number + 1 - 1 ≡ c.loop-number.number = omega arith in (
      omega (arith, c.pulses-number-end.ensures, c.loop-number-test.true),
      rw e
          (write_more g.K.Total.kind (state_of g.S.Shelf.slots g.S.Shelf.outside c.args.sheet.now).slots c.loop-number.number c.args.named.at c.loop-number.text.at c.in_ok-text.text.at c.args.out.now c.loop-number.out c.write_line.new.out
          (omega arith)
          (omega arith)
          c.loop-number.invariant.1.0
          c.loop-number.invariant.1.1
          c.in_ok-text.ensures.answer.0
          c.in_ok-text.ensures.answer.1),
    )

pub returns-in_ok-text-clause-answer : goal.returns-in_ok-text-clause-answer
returns-in_ok-text-clause-answer g c =
    let s = state_of g.S.Shelf.slots g.S.Shelf.outside c.args.sheet.now in
    let z : c.loop-number.number ≡ s.count = omega (arith, c.pulses-number-end.ensures, c.loop-number-test.true) in
    subst (λ n. (c.write_line.new.out ≡ pasted c.args.named.at (row_lines g.K.Total.kind n s.slots) c.args.out.now) × (c.in_ok-text.text.at ≡ c.args.named.at + length (row_lines g.K.Total.kind n s.slots))) z
    (write_more g.K.Total.kind s.slots c.loop-number.number c.args.named.at c.loop-number.text.at c.in_ok-text.text.at c.args.out.now c.loop-number.out c.write_line.new.out
    (omega arith)
    (omega arith)
    c.loop-number.invariant.1.0
    c.loop-number.invariant.1.1
    c.in_ok-text.ensures.answer.0
    c.in_ok-text.ensures.answer.1)

pub returns-in_err-text-clause-stop : goal.returns-in_err-text-clause-stop
returns-in_err-text-clause-stop g c =
    let p = err_from_is_err_and c.from_residual.result c.from_residual.ensures.1 in
    rw (p.1, p.2)
    (lines_stop g.K.Total.kind (state_of g.S.Shelf.slots g.S.Shelf.outside c.args.sheet.now) c.loop-number.number c.args.named.at c.loop-number.text.at c.args.out.now c.loop-number.out c.write_line.new.out c.in_err-text.field-0.0
    (omega arith)
    (omega (arith, c.pulses-number-end.ensures, c.loop-number-test.true))
    (omega arith)
    c.loop-number.invariant.1.0
    c.loop-number.invariant.1.1
    c.in_err-text.ensures.answer
    c.in_err-text.ensures.stop).1
