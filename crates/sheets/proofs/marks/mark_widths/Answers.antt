use Rattle.std.proofs.Common.{refl, ◌∙◌, arith}
use Rattle.sheets.specs.Calls.{marking}
use Rattle.sheets.specs.Marks.{marks_changed}
use Rattle.sheets.proofs.Slots.{marked_none, marked_more}
use Rattle.sheets.proofs.marks.mark_widths.Goals as goal

pub loop-slot-init : goal.loop-slot-init
unfolding marks_changed
loop-slot-init g c = (marked_none g.K.Total.kind (marking c.args.mark c.args.widths.lowest c.args.widths.highest) _, refl, omega arith, refl)

pub loop-slot-preserved : goal.loop-slot-preserved
loop-slot-preserved g c =
    let m = c.loop-slot.invariant in
    let n = marked_more g.K.Total.kind (marking c.args.mark c.args.widths.lowest c.args.widths.highest) _ _ _ _ _ _ m.0 m.1 c.in_ok-changed.ensures.slots in
    (n.0, n.1, omega (arith, n.2, m.2), c.mark_within.ensures.outside ∙ m.3)
