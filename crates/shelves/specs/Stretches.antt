-- Stretches of days.
use Rattle.std.specs.Prelude.{◌≡◌, ℕ, ◌+◌, ◌≤◌, Some, None, Option}
use Rattle.shelves.specs.declared.stretch.Stretch.{Stretch}

-- a stretch has at least one day, begins on day 1 or later and ends on day 1,000 or before
pub record Within (first width : ℕ) : Type 0 where
  pub begins : 1 ≤ first
  pub wide : 1 ≤ width
  pub ends : first + width ≤ 1001

-- the stretch of these numbers, or nothing exactly where they are none
abbrev pub StretchOf : ℕ → ℕ → Option Stretch → Type 0
StretchOf first width None = Within first width → ⊥
StretchOf first width (Some s) = Within first width × (s.first ≡ first) × (s.width ≡ width)
