use Rattle.std.proofs.Common.{map, length, refl}
use Rattle.std.proofs.lemmas.List.{take_all}
use Rattle.histories.proofs.Led.{led_more, lead_sheet}
use Rattle.histories.proofs.steps.perform_all.Goals as goal

pub loop-step-init : goal.loop-step-init
loop-step-init g c = (c.requires, (refl, refl))

pub loop-step-preserved : goal.loop-step-preserved
loop-step-preserved g c =
    led_more g.K.Total.kind (map g.K.Total.columns c.args.totals.now) (length c.args.work.now) (length c.loop-step.work) c.args.steps.now c.loop-step.step-index
    _ _ _ _
    c.args.work.now c.loop-step.work c.perform.new.work
    c.loop-step-test.true
    c.loop-step.auto.work
    c.loop-step.invariant.0
    c.loop-step.invariant.1
    c.perform.ensures

pub returns : goal.returns
returns g c =
    let m = rw (take_all c.loop-step.step-index c.args.steps.now c.loop-step-test.false) at c.loop-step.invariant in
    record { led = lead_sheet _ _ _ _ _ _ m.1; work = m.1; promise = m.0 }
