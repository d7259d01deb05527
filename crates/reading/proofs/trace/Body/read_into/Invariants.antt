use Rattle.std.proofs.Common.{◌≡◌, ◌+◌, ◌≤◌, length}
use Rattle.reading.specs.Parts.{fields, lines}
use Rattle.reading.specs.Traces.{read_lines, Midway}
use Rattle.reading.proofs.trace.Body.read_into.Given as goal

abbrev pub invariant-loop-next : goal.invariant-loop-next
invariant-loop-next g l =
    Midway g.K.Total.kind g.K.Total.columns l.initial.totals l.totals
    (read_lines g.K.Total.kind (fields l.self.names.now) 1 (length l.self.names.now + 1) (lines l.self.values.now))
    (read_lines g.K.Total.kind (fields l.self.names.now) (l.days + 1) l.at (lines l.left))
    l.days
    × (l.at + length l.left ≡ length l.self.names.now + 1 + length l.self.values.now)
    × (l.days + length l.left ≤ length l.self.values.now)

abbrev pub decreases-loop-next : goal.decreases-loop-next
decreases-loop-next g l = length l.left
