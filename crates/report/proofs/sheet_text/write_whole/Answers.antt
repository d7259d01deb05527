use Rattle.std.proofs.Common.{◌∙◌}
use Rattle.std.proofs.lemmas.Result.{err_from_is_err_and}
use Rattle.sheets.specs.Takes.{state_of}
use Rattle.figures.specs.Headings.{letters}
use Rattle.writing.specs.Texts.{pulse_names}
use Rattle.writer.specs.Values.{line}
use Rattle.report.specs.PulseTexts.{row_lines}
use Rattle.writer.proofs.WrittenFacts.{whole_written}
use Rattle.report.proofs.TextFacts.{whole_stop}
use Rattle.report.proofs.sheet_text.write_whole.Goals as goal

pub returns-clause-answer : goal.returns-clause-answer
returns-clause-answer g c =
    let s = state_of g.S.Shelf.slots g.S.Shelf.outside c.args.sheet.now in
    whole_written (line letters (pulse_names g.K.Total.kind)) (row_lines g.K.Total.kind s.count s.slots) c.args.out.now c.write_pulse_names.new.out c.write_lines.new.out c.begin.result.at c.in-Ok.named.at c.in_ok-text.text.at c.length.result
    c.begin.ensures
    c.in-Ok.ensures.0
    c.in-Ok.ensures.1
    c.in_ok-text.ensures.answer.0
    c.in_ok-text.ensures.answer.1
    (c.length.ensures ∙ c.end.ensures)

pub returns-in_err-text-clause-stop : goal.returns-in_err-text-clause-stop
returns-in_err-text-clause-stop g c =
    let p = err_from_is_err_and c.from_residual.result c.from_residual.ensures.1 in
    rw (p.1, p.2)
    (whole_stop g.K.Total.kind (state_of g.S.Shelf.slots g.S.Shelf.outside c.args.sheet.now) c.begin.result.at c.in-Ok.named.at c.args.out.now c.write_pulse_names.new.out c.write_lines.new.out c.in_err-text.field-0.0
    c.begin.ensures
    c.in-Ok.ensures.0
    c.in-Ok.ensures.1
    c.in_err-text.ensures.answer
    c.in_err-text.ensures.stop).1
