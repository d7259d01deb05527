-- The kinds of one column that hold every signed 64-bit number, ordered as whole numbers, and the
-- totals made of them.
use Rattle.std.specs.Prelude.{ℕ, ◌*◌, ◌^◌, ◌<◌, ◌≤◌}
use Rattle.std.proofs.Common.{arith}
use Rattle.std.specs.Int.Signed.{lt_z}
use Rattle.kinds.specs.Columns.{one, fits64}
use Rattle.kinds.specs.declared.name.Name.{Name}
use Rattle.kinds.specs.declared.name.Name.TheVariants.{Cents, Pieces}
use Rattle.kinds.specs.Kinds.{Kind}
use Rattle.kinds.specs.Pairs.{pair}

abbrev pub whole : ℕ → Name → Kind
whole bound name = record { arity = one; below = lt_z; bound = bound; has = fits64; names = name }

-- an entry bound that leaves room for 5,000,000 times itself in 64 bits
pub record Sound (bound : ℕ) : Type 0 where
  pub least : 1 ≤ bound
  pub room : 5000000 * bound < 2 ^ 63

abbrev pub cents_bound : ℕ
cents_bound = 1_000_000_000_000

abbrev pub pieces_bound : ℕ
pieces_bound = 1_000_000_000

pub cents_sound : Sound cents_bound
cents_sound = record { least = omega arith; room = omega arith }

pub pieces_sound : Sound pieces_bound
pieces_sound = record { least = omega arith; room = omega arith }

-- a paper total is cents, a mobile total the pair of cents and pieces
abbrev pub paper : Kind
paper = whole cents_bound Cents

abbrev pub mobile : Kind
mobile = pair paper (whole pieces_bound Pieces)
