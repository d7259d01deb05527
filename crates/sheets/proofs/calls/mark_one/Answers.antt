use Rattle.std.proofs.Common.{Err, rules}
use Rattle.refusals.specs.declared.refusal.Refusal.TheVariants.{NoSuchPulse}
use Rattle.sheets.specs.declared.sheet.Stop.TheVariants.{Refused}
use Rattle.sheets.proofs.History.{one_shows}
use Rattle.sheets.proofs.Promised.{keeps}
use Rattle.sheets.proofs.calls.mark_one.Goals as goal

pub returns-then-number-eq0-clause-history : goal.returns-then-number-eq0-clause-history
returns-then-number-eq0-clause-history g c = one_shows g.K.Total.kind g.met.K.Total.lawful c.args.mark c.args.number _ _ (Err (Refused NoSuchPulse)) (search rules)

pub returns-then-number-eq0-clause-promise : goal.returns-then-number-eq0-clause-promise
returns-then-number-eq0-clause-promise g c = keeps g.K.Total.kind g.met.K.Total.lawful _ _ _ (Err (Refused NoSuchPulse)) (returns-then-number-eq0-clause-history g c)

pub returns-clause-history : goal.returns-clause-history
returns-clause-history g c = one_shows g.K.Total.kind g.met.K.Total.lawful c.args.mark c.args.number _ _ c.mark_number.result (search rules)

pub returns-clause-promise : goal.returns-clause-promise
returns-clause-promise g c = keeps g.K.Total.kind g.met.K.Total.lawful _ _ _ c.mark_number.result (returns-clause-history g c)
