use Rattle.std.proofs.Common.{rules, arith}
use Rattle.sheets.proofs.Slots.{one_marked}
use Rattle.sheets.proofs.calls.mark_held.Goals as goal

pub returns : goal.returns
returns g c =
    let m = one_marked g.K.Total.kind c.args.mark c.args.slot c.args.sheet.now.pulses _ _ c.mark_slot.result (omega arith) c.mark_slot.ensures.slots in
    search rules
