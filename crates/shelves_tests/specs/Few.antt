-- A kind of few values: whole numbers from -5,000,000 to 5,000,000.
use Rattle.std.specs.Prelude.{nat_le, unsigned_abs}
use Rattle.std.specs.Int.Signed.{lt_z}
use Rattle.kinds.specs.Columns.{one}
use Rattle.kinds.specs.declared.name.Name.TheVariants.{Cents}
use Rattle.kinds.specs.Kinds.{Kind}

abbrev pub few : Kind
few = record { arity = one; below = lt_z; bound = 1; has = λ x. nat_le (unsigned_abs x) 5000000; names = Cents }
