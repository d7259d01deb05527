use Rattle.std.proofs.Common.{◌≡◌, ◌+◌, map, drop}
use Rattle.kinds.specs.Entries.{not_entered}
use Rattle.kinds.proofs.record.first_barred.Given as goal

abbrev pub invariant-loop-total : goal.invariant-loop-total
invariant-loop-total g l =
    (not_entered g.K.Total.kind (l.day + 1) (map g.K.Total.columns (drop l.total-index l.totals)) ≡ not_entered g.K.Total.kind 1 (map g.K.Total.columns l.totals))
    × (l.day ≡ l.total-index)
