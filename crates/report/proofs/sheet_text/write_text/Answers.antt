use Rattle.std.proofs.Common.{rules}
use Rattle.sheets.specs.Takes.{state_of}
use Rattle.report.proofs.TextFacts.{text_told}
use Rattle.report.proofs.sheet_text.write_text.Goals as goal

pub returns-clause-history : goal.returns-clause-history
returns-clause-history g c =
    text_told g.K.Total.kind (state_of g.S.Shelf.slots g.S.Shelf.outside c.args.sheet.now) c.args.out.now c.write_whole.new.out c.write_whole.result (search rules)

pub returns-in_err-room_behind_text-clause-history : goal.returns-in_err-room_behind_text-clause-history
returns-in_err-room_behind_text-clause-history g c =
    text_told g.K.Total.kind (state_of g.S.Shelf.slots g.S.Shelf.outside c.args.sheet.now) c.args.out.now c.args.out.now c.from_residual.result (search rules)
