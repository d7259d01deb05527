use Rattle.std.proofs.Common.{rules}
use Rattle.sheets.specs.Takes.{state_of}
use Rattle.report.proofs.SplitFacts.{write_told}
use Rattle.report.proofs.report.write_sheet.Goals as goal

pub returns : goal.returns
returns g c =
    let h = c.map_err.ensures.cases in
    write_told g.K.Total.kind (state_of g.S.Shelf.slots g.S.Shelf.outside c.args.sheet.now) c.args.out.now c.write_pulses.new.out c.write_pulses.result c.map_err.result c.requires c.write_pulses.ensures.answer
    (λ n e. search rules)
    (λ stop e. search rules)
