use Rattle.std.proofs.Common.{◌≡◌, map, length, take, ap, ◌∙◌, arith}
use Rattle.std.proofs.lemmas.List.{length-map}
use Rattle.shelves.specs.Slots.{shown, shown_rows}
use Rattle.sheets.specs.Takes.{State}
use Rattle.report.proofs.SplitFacts.{pulses_written}
use Rattle.report.proofs.report.pulses_of.Goals as goal

pub returns : goal.returns
returns g c =
    let xs = map g.K.Total.columns (take c.in_ok-days.days c.read_trace.new.totals) in
    let capacity : length (shown_rows g.K.Total.kind g.K.Total.columns c.new-sheet.result.shelf.rows.now) ≡ length c.args.lists.now.rows =
    ap (λ (s : State). length s.slots) c.new-sheet.ensures.answer ∙ (ap length c.over.ensures.slots ∙ length-map c.args.lists.now.rows (shown g.K.Total.kind g.K.Total.columns)) in
    let p =
    pulses_written g.K.Total.kind c.args.text.now (length c.args.lists.now.totals) xs (omega arith) c.in_ok-days.ensures.answer.0 (length c.args.lists.now.work)
    (length (shown_rows g.K.Total.kind g.K.Total.columns c.new-sheet.result.shelf.rows.now))
    (omega arith)
    (omega (arith, capacity))
    c.args.out.now c.split_and_write.new.out c.split_and_write.result c.split_and_write.ensures
    in
    record { answer = p.0; fault = p.1 }
