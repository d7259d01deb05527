use Rattle.std.proofs.Common.{◌≡◌}
use Rattle.std.specs.Option.{option_map}
use Rattle.reading.specs.Parts.{fields}
use Rattle.reading.specs.Places.{places_left}
use Rattle.reading.specs.Traces.{trace_names, bad_name}
use Rattle.reading.proofs.PlaceFacts.{bad_in}
use Rattle.reading.proofs.names.check_names.Given as goal

abbrev pub invariant-loop-byte : goal.invariant-loop-byte
invariant-loop-byte g l =
    bad_in (trace_names g.K.Total.kind) (fields l.names) (places_left (option_map (λ x. x.now) l.byte-iterator.left) l.byte-iterator.length)
    ≡ bad_name (trace_names g.K.Total.kind) (fields l.names) 0 (fields l.names)
