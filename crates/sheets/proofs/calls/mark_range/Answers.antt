use Rattle.std.proofs.Common.{Err, rules}
use Rattle.refusals.specs.declared.refusal.Refusal.TheVariants.{WidthsOutOfRange}
use Rattle.sheets.specs.declared.sheet.Stop.TheVariants.{Refused}
use Rattle.sheets.proofs.History.{range_shows}
use Rattle.sheets.proofs.Promised.{keeps}
use Rattle.sheets.proofs.calls.mark_range.Goals as goal

pub returns-then-widths-eq0-clause-history : goal.returns-then-widths-eq0-clause-history
returns-then-widths-eq0-clause-history g c =
    range_shows g.K.Total.kind g.met.K.Total.lawful c.args.mark c.args.widths.lowest c.args.widths.highest _ _ (Err (Refused WidthsOutOfRange)) (search rules)

pub returns-then-widths-eq0-clause-promise : goal.returns-then-widths-eq0-clause-promise
returns-then-widths-eq0-clause-promise g c = keeps g.K.Total.kind g.met.K.Total.lawful _ _ _ (Err (Refused WidthsOutOfRange)) (returns-then-widths-eq0-clause-history g c)

pub returns-clause-history : goal.returns-clause-history
returns-clause-history g c = range_shows g.K.Total.kind g.met.K.Total.lawful c.args.mark c.args.widths.lowest c.args.widths.highest _ _ c.mark_pulses.result (search rules)

pub returns-clause-promise : goal.returns-clause-promise
returns-clause-promise g c = keeps g.K.Total.kind g.met.K.Total.lawful _ _ _ c.mark_pulses.result (returns-clause-history g c)
