use Rattle.std.proofs.Common.{Some, sym, ap, ◌∙◌, subst}
use Rattle.std.proofs.lemmas.Result.{err_from_is_err_and}
use Rattle.kinds.specs.Columns.{plus}
use Rattle.kinds.specs.Kinds.{Gives}
use Rattle.transform.specs.Pulses.{standing}
use Rattle.sheets.specs.Standing.{stands_in, stand_in, standing_total}
use Rattle.sheets.specs.Inside.{entry_of}
use Rattle.sheets.specs.Takes.{State, state_of}
use Rattle.sheets.proofs.Adding.{stand_none, stand_more}
use Rattle.sheets.proofs.Asked.{ok_or_stops, row_stops, sum_stops}
use Rattle.sheets.proofs.standing.standing_on.Goals as goal

pub loop-slot-init : goal.loop-slot-init
loop-slot-init g c = c.zero-sum.ensures ∙ sym (stand_none g.K.Total.kind (g.S.Shelf.slots c.args.sheet.now.shelf) c.args.day)

pub loop-slot-preserved : goal.loop-slot-preserved
loop-slot-preserved g c =
    subst (Gives g.K.Total.kind g.K.Total.columns _) c.in_ok-sum.ensures.ok_part c.with_row.ensures ∙
    ap (λ x. plus g.K.Total.kind.arity x (standing g.K.Total.kind (stands_in g.K.Total.kind (Some (entry_of g.K.Total.kind g.K.Total.columns c.in_ok-row.row))) c.args.day)) c.loop-slot.invariant ∙
    ap (λ o. plus g.K.Total.kind.arity (standing g.K.Total.kind (stand_in g.K.Total.kind c.loop-slot.slot (g.S.Shelf.slots c.args.sheet.now.shelf)) c.args.day) (standing g.K.Total.kind (stands_in g.K.Total.kind o) c.args.day)) (sym c.in_ok-row.ensures.1) ∙
    sym (stand_more g.K.Total.kind c.loop-slot.slot (g.S.Shelf.slots c.args.sheet.now.shelf) c.args.day)

pub returns-in_err-row : goal.returns-in_err-row
returns-in_err-row g c =
    let p = err_from_is_err_and c.from_residual.result c.from_residual.ensures.1 in
    let s : State = state_of g.S.Shelf.slots g.S.Shelf.outside c.args.sheet.now in
    rw (p.1, p.2)
    (row_stops g.K.Total.kind g.K.Total.columns g.K.Total.columns s c.loop-slot.slot (standing_total g.K.Total.kind s c.args.day) c.in_err-row.field-0.0
    c.loop-slot-test.true c.in_err-row.ensures)

pub returns-in_err-sum : goal.returns-in_err-sum
returns-in_err-sum g c =
    let p = err_from_is_err_and c.from_residual-in_err-sum.result c.from_residual-in_err-sum.ensures.1 in
    let u = ok_or_stops c.with_row.result c.in_err-sum.field-0.0 c.in_err-sum.ensures.value in
    rw (p.1, p.2, u)
    (sum_stops g.K.Total.kind g.met.K.Total.lawful (state_of g.S.Shelf.slots g.S.Shelf.outside c.args.sheet.now) c.loop-slot.slot c.args.day _ _
    c.loop-slot-test.true c.loop-slot.invariant c.in_ok-row.ensures.1
    (subst (Gives g.K.Total.kind g.K.Total.columns _) c.in_err-sum.ensures.ok_part c.with_row.ensures))
