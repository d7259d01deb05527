use Rattle.std.proofs.Common.{◌≡◌, map, take, drop}
use Rattle.transform.specs.Windows.{days}
use Rattle.sheets.specs.Takes.{state_of}
use Rattle.sheets.specs.Standing.{standing_total}
use Rattle.sheets.proofs.questions.write_trace.Given as goal

abbrev pub invariant-loop-day : goal.invariant-loop-day
invariant-loop-day g l =
    (map g.K.Total.columns (take l.day l.total-items) ≡ days g.K.Total.kind l.day (standing_total g.K.Total.kind (state_of g.S.Shelf.slots g.S.Shelf.outside l.sheet))) ×
    (drop l.day l.total-items ≡ drop l.day l.initial.total-items)
