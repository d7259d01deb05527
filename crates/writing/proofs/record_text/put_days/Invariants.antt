use Rattle.std.proofs.Common.{◌≡◌, ◌+◌, map, length, drop}
use Rattle.writing.specs.Texts.{trace_lines}
use Rattle.writer.specs.Written.{pasted}
use Rattle.writing.proofs.record_text.put_days.Given as goal

abbrev pub invariant-loop-i : goal.invariant-loop-i
invariant-loop-i g l =
    (pasted l.text.at (trace_lines g.K.Total.kind (l.i + 1) (map g.K.Total.columns (drop l.i l.totals))) l.out
    ≡ pasted l.initial.text.at (trace_lines g.K.Total.kind 1 (map g.K.Total.columns l.totals)) l.initial.out)
    × (l.text.at + length (trace_lines g.K.Total.kind (l.i + 1) (map g.K.Total.columns (drop l.i l.totals)))
    ≡ l.initial.text.at + length (trace_lines g.K.Total.kind 1 (map g.K.Total.columns l.totals)))
