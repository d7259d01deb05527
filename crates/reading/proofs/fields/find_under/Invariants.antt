use Rattle.std.proofs.Common.{◌≡◌}
use Rattle.std.specs.Option.{option_map}
use Rattle.reading.specs.Parts.{fields}
use Rattle.reading.specs.Places.{placed_under, places_left}
use Rattle.reading.proofs.PlaceFacts.{pair_under}
use Rattle.reading.proofs.fields.find_under.Given as goal

abbrev pub invariant-loop-this : goal.invariant-loop-this
invariant-loop-this l =
    pair_under (places_left (option_map (λ x. x.now) l.this-iterator.a.left) l.this-iterator.a.length) (places_left (option_map (λ x. x.now) l.this-iterator.b.left) l.this-iterator.b.length) l.name
    ≡ placed_under 0 (fields l.names) (fields l.values) l.name
