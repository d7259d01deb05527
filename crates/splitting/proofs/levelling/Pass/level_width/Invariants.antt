use Rattle.std.proofs.Common.{◌≡◌, suc, ◌+◌, ◌≤◌}
use Rattle.transform.specs.Windows.{Record, trace}
use Rattle.transform.specs.Pulses.{change}
use Rattle.splitting.specs.Work.{view}
use Rattle.splitting.specs.Passes.{aimed, Midway, Ready, Added}
use Rattle.splitting.proofs.levelling.Pass.level_width.Given as goal

abbrev pub invariant-loop-number : goal.invariant-loop-number
invariant-loop-number g l =
    record {
      stands :
          (b a : Record g.K.Total.kind) →
          Ready g.K.Total.kind l.self.aim l.self.width l.self.days (view g.K.Total.kind g.K.Total.columns l.initial.work) l.fn.start.marks b a →
          Midway (aimed g.K.Total.kind l.self.aim) l.self.width (suc l.self.days) (trace g.K.Total.kind b) (view g.K.Total.kind g.K.Total.columns l.work) l.number l.fn.start.marks l.at.kept l.at.reached ×
          Added g.K.Total.kind (change g.K.Total.kind b a) 0 l.at.reached l.fn.start.rows l.at.rows (g.S.Shelf.slots l.initial.shelf) (g.S.Shelf.slots l.shelf);
      rows : l.at.rows ≤ l.fn.start.rows + l.number;
      outside : g.S.Shelf.outside l.shelf ≡ g.S.Shelf.outside l.initial.shelf;
    }
