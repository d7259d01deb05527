use Rattle.std.proofs.Common.{◌≡◌, ◌-◌, refl, subst, arith}
use Rattle.std.proofs.lemmas.Result.{err_from_is_err_and}
use Rattle.sheets.specs.Takes.{State, state_of}
use Rattle.sheets.specs.Inside.{Steps}
use Rattle.sheets.proofs.Asked.{ok_or_stops, SoFar, swing_first, swing_day, swing_stops, swing_comes}
use Rattle.sheets.proofs.questions.whole_swing.Goals as goal
use Rattle.sheets.proofs.questions.whole_swing.Goals.{else-loop-day-test, then-loop-day-test+in_ok-total+in_ok-sum+else-day-day-end}

pub loop-day-init : goal.loop-day-init
loop-day-init g c = (omega arith, swing_first g.K.Total.kind (state_of g.S.Shelf.slots g.S.Shelf.outside c.args.sheet.now) 0 _ refl c.zero-zero.ensures)

pub loop-day-preserved : goal.loop-day-preserved
loop-day-preserved g c =
    let h = c.loop-day-test.true in
    let a = c.loop-day.auto.day in (
      omega arith,
      swing_day g.K.Total.kind (state_of g.S.Shelf.slots g.S.Shelf.outside c.args.sheet.now) _ c.loop-day.day _ _ _ _ a h (omega arith) c.loop-day.invariant.1 c.in_ok-total.ensures
          (subst (Steps g.K.Total.kind g.K.Total.columns _ _ _) c.in_ok-sum.ensures.ok_part c.with_step.ensures),
    )

pub returns-in_err-sum : goal.returns-in_err-sum
returns-in_err-sum g c =
    let p = err_from_is_err_and c.from_residual-in_err-sum.result c.from_residual-in_err-sum.ensures.1 in
    let u = ok_or_stops c.with_step.result c.in_err-sum.field-0.0 c.in_err-sum.ensures.value in
    rw (p.1, p.2, u)
    (swing_stops g.K.Total.kind g.met.K.Total.lawful g.K.Total.columns (state_of g.S.Shelf.slots g.S.Shelf.outside c.args.sheet.now) c.loop-day.day _ _ _
    c.loop-day.auto.day c.loop-day-test.true c.loop-day.invariant.1 c.in_ok-total.ensures
    (subst (Steps g.K.Total.kind g.K.Total.columns _ _ _) c.in_err-sum.ensures.ok_part c.with_step.ensures))

pub returns : goal.returns
returns g c =
    let s : State = state_of g.S.Shelf.slots g.S.Shelf.outside c.args.sheet.now in
    let m : SoFar g.K.Total.kind s s.days (g.K.Total.columns c.loop-day-test.sum) (g.K.Total.columns c.loop-day-test.before) =
    elim c.loop-day-test.branch [
      | else-loop-day-test w ↦
          let a = c.loop-day.invariant.0 in
          let f = w.loop-day-test.false in
          let z : c.loop-day.day - 1 ≡ s.days = omega arith in
          rw (w.sum-is, w.before-is) (subst (λ i. SoFar g.K.Total.kind s i (g.K.Total.columns c.loop-day.sum) (g.K.Total.columns c.loop-day.before)) z c.loop-day.invariant.1)
      | then-loop-day-test+in_ok-total+in_ok-sum+else-day-day-end w ↦
          let z : s.days ≡ c.loop-day.day = omega arith in
          rw (w.sum-is, w.before-is)
          (swing_day g.K.Total.kind s s.days c.loop-day.day _ _ _ _ c.loop-day.auto.day w.loop-day-test.true z c.loop-day.invariant.1 w.in_ok-total.ensures
          (subst (Steps g.K.Total.kind g.K.Total.columns _ _ _) w.in_ok-sum.ensures.ok_part w.with_step.ensures))
    ] in
    rw c.ok_or-2.ensures.value
    (swing_comes g.K.Total.kind g.met.K.Total.lawful g.K.Total.columns s _ _ _ c.with_last_step.result m refl c.with_last_step.ensures)
