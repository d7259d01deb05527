use Rattle.std.proofs.Common.{◌≡◌, ◌+◌, map, length, drop}
use Rattle.writing.specs.Texts.{trace_lines}
use Rattle.writing.proofs.record_text.room_behind_days.Given as goal

abbrev pub invariant-loop-i : goal.invariant-loop-i
invariant-loop-i g l =
    l.left + length (trace_lines g.K.Total.kind 1 (map g.K.Total.columns l.totals))
    ≡ l.room + length (trace_lines g.K.Total.kind (l.i + 1) (map g.K.Total.columns (drop l.i l.totals)))
