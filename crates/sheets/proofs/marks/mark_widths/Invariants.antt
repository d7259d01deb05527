use Rattle.std.proofs.Common.{◌≡◌, ◌≤◌}
use Rattle.sheets.specs.Calls.{marking}
use Rattle.sheets.specs.Marks.{Marked, marks_changed}
use Rattle.sheets.proofs.marks.mark_widths.Given as goal

abbrev pub invariant-loop-slot : goal.invariant-loop-slot
invariant-loop-slot g l =
    Marked {K = g.K.Total.kind} (marking l.mark l.widths.lowest l.widths.highest) l.slot (g.S.Shelf.slots l.initial.shelf) (g.S.Shelf.slots l.shelf) ×
    (l.changed ≡ marks_changed {K = g.K.Total.kind} (marking l.mark l.widths.lowest l.widths.highest) l.slot (g.S.Shelf.slots l.initial.shelf)) ×
    (l.changed ≤ l.slot) ×
    (g.S.Shelf.outside l.shelf ≡ g.S.Shelf.outside l.initial.shelf)
