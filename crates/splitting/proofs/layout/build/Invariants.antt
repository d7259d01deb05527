use Rattle.std.proofs.Common.{◌≡◌, suc, map, length}
use Rattle.transform.specs.Windows.{trace}
use Rattle.splitting.specs.Work.{view}
use Rattle.splitting.specs.Runs.{Laid}
use Rattle.splitting.proofs.layout.build.Given as goal

abbrev pub invariant-loop-day : goal.invariant-loop-day
invariant-loop-day g l =
    Laid (suc (length l.totals)) (trace g.K.Total.kind (map g.K.Total.columns l.totals)) (view g.K.Total.kind g.K.Total.columns l.work) l.at.first l.at.marks l.day ×
    (g.K.Total.columns l.at.total ≡ trace g.K.Total.kind (map g.K.Total.columns l.totals) l.at.first)
