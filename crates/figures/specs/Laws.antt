-- What figures promise.
use Rattle.std.specs.Prelude.{◌≡◌, ℕ, ◌^◌, ◌<◌, List, ℤ, Some, unsigned_abs}
use Rattle.std.specs.Fmt.{signed_decimal}
use Rattle.figures.specs.Figures.{figure}

-- what is written of a number of at most 18 digits reads back, and what reads is what would be
-- written of a number of at most 18 digits
pub record FiguresAgree : Type 0 where
  pub back : (z : ℤ) → unsigned_abs z < 10 ^ 18 → figure (signed_decimal z) ≡ Some z
  pub forth : (bytes : List ℕ) (z : ℤ) → figure bytes ≡ Some z → signed_decimal z ≡ bytes
  pub few : (bytes : List ℕ) (z : ℤ) → figure bytes ≡ Some z → unsigned_abs z < 10 ^ 18
