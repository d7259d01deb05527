-- Fields with the bytes of their line at which they start.
use Rattle.std.specs.Prelude.{ℕ, ◌+◌, ◌-◌, cond, List, [], ◌∷◌, length, Some, None, Option}
use Rattle.std.specs.Str.{bytes_eq}
use Rattle.reading.specs.Parts.{fields}

-- each part with the byte at which it starts, where the first starts at byte `at`
abbrev pub placed : ℕ → List (List ℕ) → List (ℕ × List ℕ)
placed at [] = []
placed at (p ∷ ps) = (at, p) ∷ placed (at + length p + 1) ps

-- those that are left of a line of this length
abbrev pub places_left : Option (List ℕ) → ℕ → List (ℕ × List ℕ)
places_left None whole = []
places_left (Some bs) whole = placed (whole - length bs) (fields bs)

-- the value at the first place of the name, and its byte
abbrev pub placed_under : ℕ → List (List ℕ) → List (List ℕ) → List ℕ → Option (ℕ × List ℕ)
placed_under at [] values name = None
placed_under at (n ∷ names) [] name = None
placed_under at (n ∷ names) (v ∷ values) name = cond (bytes_eq n name) (Some (at, v)) (placed_under (at + length v + 1) names values name)
