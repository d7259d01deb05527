use Rattle.std.proofs.Common.{◌≡◌, ◌+◌, [], ◌∷◌, ◌++◌, length, drop}
use Rattle.writer.specs.Values.{written}
use Rattle.writer.specs.Written.{pasted}
use Rattle.writer.proofs.writer.put_line.Given as goal

abbrev pub invariant-loop-item : goal.invariant-loop-item
invariant-loop-item g l =
    (pasted l.end (written g.S.Shown.bytes (drop l.item-index l.rest ++ (l.last ∷ []))) l.out ≡ pasted l.at (written g.S.Shown.bytes l.items) l.initial.out)
    × (l.end + length (written g.S.Shown.bytes (drop l.item-index l.rest ++ (l.last ∷ []))) ≡ l.at + length (written g.S.Shown.bytes l.items))
