use Rattle.std.proofs.Common.{◌≡◌}
use Rattle.transform.specs.Pulses.{standing}
use Rattle.sheets.specs.Standing.{stand_in}
use Rattle.sheets.proofs.standing.standing_on.Given as goal

abbrev pub invariant-loop-slot : goal.invariant-loop-slot
invariant-loop-slot g l = g.K.Total.columns l.sum ≡ standing g.K.Total.kind (stand_in g.K.Total.kind l.slot (g.S.Shelf.slots l.sheet.shelf)) l.day
