use Rattle.std.proofs.Common.{◌≡◌, ◌-◌, map}
use Rattle.splitting.specs.Work.{view}
use Rattle.splitting.proofs.Splits.{SoFar}
use Rattle.splitting.proofs.widths.split_widths.Given as goal

abbrev pub invariant-loop-width : goal.invariant-loop-width
invariant-loop-width g l =
    SoFar g.K.Total.kind (map g.K.Total.columns l.totals) l.days (l.width - 1) (view g.K.Total.kind g.K.Total.columns l.work) l.at.marks l.at.rows (g.S.Shelf.slots l.initial.shelf) (g.S.Shelf.slots l.shelf) ×
    (g.S.Shelf.outside l.shelf ≡ g.S.Shelf.outside l.initial.shelf)
