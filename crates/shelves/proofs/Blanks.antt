-- Which rows are blank.
use Rattle.std.proofs.Common.{◌≡◌, ℕ, ◌<◌, List, ℤ, None, arith}
use Rattle.std.proofs.lemmas.Bool.Decides.{nat_tests}
use Rattle.shelves.specs.Slots.{slot_of}

pub blank_mark : (first width mark : ℕ) (columns : List ℤ) → 1 < mark → slot_of first width mark columns ≡ None
blank_mark first width mark columns h = grind (arith, nat_tests)
