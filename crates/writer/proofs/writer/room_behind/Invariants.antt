use Rattle.std.proofs.Common.{◌≡◌, ◌+◌, length, drop}
use Rattle.writer.specs.Values.{written}
use Rattle.writer.proofs.writer.room_behind.Given as goal

abbrev pub invariant-loop-item : goal.invariant-loop-item
invariant-loop-item g l =
    l.left + length (written g.S.Shown.bytes l.items) ≡ l.room + length (written g.S.Shown.bytes (drop l.item-index l.items))
