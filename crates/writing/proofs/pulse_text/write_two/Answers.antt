use Rattle.std.proofs.Common.{arith}
use Rattle.figures.specs.Headings.{letters}
use Rattle.writer.specs.Values.{line, shown}
use Rattle.writer.proofs.WrittenFacts.{behind_names}
use Rattle.writing.proofs.RecordFacts.{went_on}
use Rattle.writing.proofs.pulse_text.write_two.Goals as goal

pub returns : goal.returns
returns c =
    let on = went_on (λ s. s.at) (λ e. e.state.at) c.begin.result.at _ c.args.out.now c.names.new.out c.names.result c.in_ok-named.named c.names.ensures c.in_ok-named.ensures.value in
    behind_names (line letters c.args.names.now) (line shown c.args.values.now) c.args.out.now c.names.new.out c.one_line.new.out c.begin.result.at c.in_ok-named.named.at c.one_line.result
    c.begin.ensures
    on.0
    on.1
    (omega (arith, c.in_ok-left.ensures, c.in_ok-room_behind.ensures))
    (omega arith)
    c.one_line.ensures
