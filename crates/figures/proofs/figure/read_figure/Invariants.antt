use Rattle.std.proofs.Common.{◌≡◌, drop}
use Rattle.figures.specs.Figures.{figure}
use Rattle.figures.specs.Reader.{outcome}
use Rattle.figures.proofs.figure.read_figure.Given as goal

abbrev pub invariant-loop-b : goal.invariant-loop-b
invariant-loop-b l = outcome l.reader (drop l.b-index l.bytes) ≡ figure l.bytes
