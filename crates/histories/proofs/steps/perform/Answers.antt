use Rattle.std.proofs.Common.{◌≡◌, ◌≤◌, min, ◌++◌, map, length, take, drop, ap, ◌∙◌, arith}
use Rattle.std.proofs.lemmas.List.{length-take-le, take-append-drop}
use Rattle.std.proofs.lemmas.Slice.{drop-append-drop}
use Rattle.sheets.specs.Takes.{state_of}
use Rattle.sheets.specs.Calls.{removing, restoring, removing_one, restoring_one}
use Rattle.histories.proofs.Led.{marking_goes_on, take_goes_on, part_goes_on}
use Rattle.histories.proofs.steps.perform.Goals as goal

pub returns-in-Take : goal.returns-in-Take
returns-in-Take g c =
    let room = c.min-room.result in
    let work = c.args.work.now in
    let lent = take room work in
    let m = c.min-room.ensures in
    let h : room ≤ length work = omega arith in
    let e : length lent ≡ room = length-take-le room work h in
    rw c.in-Take.is
    (part_goes_on g.K.Total.kind g.K.Total.columns _ _ work (c.take.new.work ++ drop room work) c.args.totals.now c.part.result.now c.in-Take.skipped c.in-Take.days (length lent)
    (min c.in-Take.entries (length work))
    c.part.ensures
    (e ∙ m)
    (take_goes_on g.K.Total.kind _ _ (map g.K.Total.columns c.part.result.now) (length lent) work (c.take.new.work ++ drop room work) c.args.sheet.now c.take.new.self lent c.take.new.work c.take.result
    (ap (state_of g.S.Shelf.slots g.S.Shelf.outside))
    (λ q. ap (λ l. l ++ drop room work) q ∙ take-append-drop room work)
    (drop-append-drop room work c.take.new.work (length lent) (omega arith) (c.take.auto.work ∙ e))
    c.take.ensures.answer
    c.take.ensures.history
    c.take.ensures.promise))

pub returns-in-Remove : goal.returns-in-Remove
returns-in-Remove g c =
    rw c.in-Remove.is
    (marking_goes_on g.K.Total.kind (removing c.in-Remove.lowest c.in-Remove.highest) _ _ c.args.work.now c.args.sheet.now c.remove.new.self c.remove.result
    (λ a b. (a, b)) (ap (state_of g.S.Shelf.slots g.S.Shelf.outside)) c.remove.ensures.answer c.remove.ensures.history c.remove.ensures.promise)

pub returns-in-Restore : goal.returns-in-Restore
returns-in-Restore g c =
    rw c.in-Restore.is
    (marking_goes_on g.K.Total.kind (restoring c.in-Restore.lowest c.in-Restore.highest) _ _ c.args.work.now c.args.sheet.now c.restore.new.self c.restore.result
    (λ a b. (a, b)) (ap (state_of g.S.Shelf.slots g.S.Shelf.outside)) c.restore.ensures.answer c.restore.ensures.history c.restore.ensures.promise)

pub returns-in-RemoveOne : goal.returns-in-RemoveOne
returns-in-RemoveOne g c =
    rw c.in-RemoveOne.is
    (marking_goes_on g.K.Total.kind (removing_one c.in-RemoveOne.number) _ _ c.args.work.now c.args.sheet.now c.remove_one.new.self c.remove_one.result
    (λ a b. (a, b)) (ap (state_of g.S.Shelf.slots g.S.Shelf.outside)) c.remove_one.ensures.answer c.remove_one.ensures.history c.remove_one.ensures.promise)

pub returns-in-RestoreOne : goal.returns-in-RestoreOne
returns-in-RestoreOne g c =
    rw c.in-RestoreOne.is
    (marking_goes_on g.K.Total.kind (restoring_one c.in-RestoreOne.number) _ _ c.args.work.now c.args.sheet.now c.restore_one.new.self c.restore_one.result
    (λ a b. (a, b)) (ap (state_of g.S.Shelf.slots g.S.Shelf.outside)) c.restore_one.ensures.answer c.restore_one.ensures.history c.restore_one.ensures.promise)
