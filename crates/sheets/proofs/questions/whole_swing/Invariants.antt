use Rattle.std.proofs.Common.{◌+◌, ◌-◌, ◌≤◌}
use Rattle.sheets.specs.Takes.{state_of}
use Rattle.sheets.proofs.Asked.{SoFar}
use Rattle.sheets.proofs.questions.whole_swing.Given as goal

abbrev pub invariant-loop-day : goal.invariant-loop-day
invariant-loop-day g l =
    (l.day ≤ l.sheet.days + 1) ×
    SoFar g.K.Total.kind (state_of g.S.Shelf.slots g.S.Shelf.outside l.sheet) (l.day - 1) (g.K.Total.columns l.sum) (g.K.Total.columns l.before)
