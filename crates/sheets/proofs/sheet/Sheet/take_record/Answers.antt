use Rattle.std.proofs.Common.{map, length, rules}
use Rattle.sheets.proofs.History.{take_shows}
use Rattle.sheets.proofs.Promised.{keeps}
use Rattle.sheets.proofs.sheet.Sheet.take_record.Goals as goal

pub returns-clause-history : goal.returns-clause-history
returns-clause-history g c =
    take_shows g.K.Total.kind g.met.K.Total.lawful (map g.K.Total.columns c.args.totals.now) (length c.args.work.now) _ _ c.args.work.now c.hold_record.new.work
    c.hold_record.result (search rules)

pub returns-clause-promise : goal.returns-clause-promise
returns-clause-promise g c = keeps g.K.Total.kind g.met.K.Total.lawful _ _ _ c.hold_record.result (returns-clause-history g c)
