use Rattle.std.proofs.Common.{◌≡◌, length}
use Rattle.std.specs.Option.{option_map}
use Rattle.reading.specs.Parts.{fields}
use Rattle.reading.specs.Places.{places_left}
use Rattle.reading.specs.Traces.{malformed}
use Rattle.reading.proofs.PlaceFacts.{Within, malformed_in}
use Rattle.reading.proofs.line.DayLine.check_figures.Given as goal

abbrev pub invariant-loop-start : goal.invariant-loop-start
invariant-loop-start l =
    let left = places_left (option_map (λ x. x.now) l.start-iterator.left) l.start-iterator.length in
    (malformed_in l.self.start left ≡ malformed l.self.start (fields l.self.values.now)) × Within (length l.self.values.now) left
