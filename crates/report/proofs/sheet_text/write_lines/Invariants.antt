use Rattle.std.proofs.Common.{◌≡◌, ◌+◌, ◌-◌, ◌≤◌, length}
use Rattle.sheets.specs.Takes.{state_of}
use Rattle.writer.specs.Written.{pasted}
use Rattle.report.specs.PulseTexts.{row_lines}
use Rattle.report.proofs.sheet_text.write_lines.Given as goal

abbrev pub invariant-loop-number : goal.invariant-loop-number
invariant-loop-number g l =
    (l.number ≤ (state_of g.S.Shelf.slots g.S.Shelf.outside l.sheet).count + 1) ×
    ((l.out ≡ pasted l.initial.text.at (row_lines g.K.Total.kind (l.number - 1) (state_of g.S.Shelf.slots g.S.Shelf.outside l.sheet).slots) l.initial.out) ×
    (l.text.at ≡ l.initial.text.at + length (row_lines g.K.Total.kind (l.number - 1) (state_of g.S.Shelf.slots g.S.Shelf.outside l.sheet).slots)))
