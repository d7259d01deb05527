use Rattle.std.proofs.Common.{map, length, take}
use Rattle.sheets.specs.Takes.{state_of}
use Rattle.sheets.specs.Promise.{Promise}
use Rattle.histories.specs.Steps.{calls_of, LeadWork}
use Rattle.histories.proofs.steps.perform_all.Given as goal

abbrev pub invariant-loop-step : goal.invariant-loop-step
invariant-loop-step g l =
    Promise g.K.Total.kind (calls_of g.K.Total.kind (map g.K.Total.columns l.totals) (length l.initial.work) (take l.step-index l.steps)) (state_of g.S.Shelf.slots g.S.Shelf.outside l.sheet) ×
    LeadWork g.K.Total.kind (calls_of g.K.Total.kind (map g.K.Total.columns l.totals) (length l.initial.work) (take l.step-index l.steps))
    (state_of g.S.Shelf.slots g.S.Shelf.outside l.initial.sheet)
    (state_of g.S.Shelf.slots g.S.Shelf.outside l.sheet)
    l.initial.work l.work
