use Rattle.std.proofs.Common.{sym}
use Rattle.std.proofs.lemmas.List.{set_past}
use Rattle.reading.proofs.trace.keep.Goals as goal

pub returns-else-place-totals : goal.returns-else-place-totals
returns-else-place-totals g c = sym (set_past c.args.totals.now c.args.place c.args.total c.if-place-totals.false)
