use Rattle.std.proofs.Common.{map, length, ap, ◌∙◌, arith}
use Rattle.std.proofs.lemmas.List.{length-append}
use Rattle.figures.specs.Headings.{letters}
use Rattle.writing.specs.Texts.{trace_headings, trace_lines}
use Rattle.writer.specs.Values.{line}
use Rattle.writer.proofs.WrittenFacts.{whole_written}
use Rattle.writing.proofs.RecordFacts.{went_on}
use Rattle.writing.proofs.record_text.put_record.Goals as goal

pub returns : goal.returns
returns g c =
    let first = line letters (trace_headings g.K.Total.kind) in
    let second = trace_lines g.K.Total.kind 1 (map g.K.Total.columns c.args.totals.now) in
    let names = c.as_slice-names.ensures ∙ c.trace_names-fields.ensures in
    let on = went_on (λ s. s.at) (λ e. e.state.at) c.begin.result.at _ c.args.out.now c.names.new.out c.names.result c.in_ok-named.named (rw names at c.names.ensures) c.in_ok-named.ensures.value in
    let written =
    whole_written first second c.args.out.now c.names.new.out c.put_days.new.out c.begin.result.at c.in_ok-named.named.at c.put_days.result.at c.length.result
    c.begin.ensures
    on.0
    on.1
    c.put_days.ensures.bytes
    c.put_days.ensures.end
    (c.length.ensures ∙ c.end.ensures) in
    (written.0, written.1, omega (arith, ap (λ hs. length (line letters hs)) names, length-append first second, written.1, c.in_ok-left.ensures, c.in_ok-room_behind_days.ensures))
