use Rattle.std.proofs.Common.{length, refl, ap, ◌∙◌, arith}
use Rattle.std.proofs.lemmas.Result.{err_from_is_err_and}
use Rattle.refusals.specs.Faults.{line_found}
use Rattle.reading.specs.Traces.{within_room}
use Rattle.reading.proofs.LinesFacts.{counted_err, counted_long, read_good}
use Rattle.reading.proofs.trace.read_lines.Goals as goal

pub returns-in_err-days : goal.returns-in_err-days
returns-in_err-days g c =
    let p = err_from_is_err_and c.from_residual-in_err-days.result c.from_residual-in_err-days.ensures.1 in
    let room = length c.args.totals.now in
    let split = c.in_ok-body.ensures.answer.0 in
    rw (p.1, p.2) (record {
      answer = (ap (within_room room) split ∙ counted_err _ (line_found c.in_err-days.field-0.0) room c.in_err-days.ensures.answer, refl);
      stage = c.in_err-days.ensures.place;
    })

pub returns-then-totals-days : goal.returns-then-totals-days
returns-then-totals-days g c =
    let room = length c.args.totals.now in
    let split = c.in_ok-body.ensures.answer.0 in
    record {
      answer = (ap (within_room room) split ∙ counted_long _ c.in_ok-days.days room c.in_ok-days.ensures.answer c.if-totals-days.true, refl);
      stage = refl;
    }

pub returns : goal.returns
returns g c =
    record {
      answer = read_good g.K.Total.kind g.K.Total.columns c.args.totals.now c.read_into.new.totals _ _ c.in_ok-days.days c.in_ok-read_into.field-0 (length c.args.totals.now)
          c.in_ok-body.ensures.answer.0
          c.in_ok-days.ensures.answer
          c.if-totals-days.false
          (omega arith)
          c.in_ok-read_into.ensures.answer;
      stage = tt;
    }
