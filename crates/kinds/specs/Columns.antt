-- The columns of a total: one or two whole numbers, and what is done with them column by column.
use Rattle.std.specs.Prelude.{ℕ, ◌*◌, ◌^◌, Bool, cond, ◌&&◌, ℤ, pos, negsuc, ◌+ℤ◌, ◌-ℤ◌, Some, None, Option, ◌==◌, nat_le, nat_lt, unsigned_abs}

-- how many columns a kind of total has
pub data Arity : Type 0 where
  one : Arity
  two : Arity

-- one X for each column
abbrev pub Each : Arity → Type 0 → Type 0
Each one X = X
Each two X = X × X

-- P holds of each column
abbrev pub All : {X : Type 0} (a : Arity) → (X → Type 0) → Each a X → Type 0
All one P x = P x
All two P x = P x.0 × P x.1

-- what a total holds: a whole number in each column
abbrev pub Columns : Arity → Type 0
Columns a = Each a ℤ

abbrev pub nought : (a : Arity) → Columns a
nought one = pos 0
nought two = (pos 0, pos 0)

abbrev pub plus : (a : Arity) → Columns a → Columns a → Columns a
plus one x y = x +ℤ y
plus two x y = (x.0 +ℤ y.0, x.1 +ℤ y.1)

abbrev pub minus : (a : Arity) → Columns a → Columns a → Columns a
minus one x y = x -ℤ y
minus two x y = (x.0 -ℤ y.0, x.1 -ℤ y.1)

-- bounds, each so many times as large
abbrev pub times : (a : Arity) → ℕ → Each a ℕ → Each a ℕ
times one n b = n * b
times two n b = (n * b.0, n * b.1)

-- each column is, in absolute value, at most its bound
abbrev pub within : (a : Arity) → Each a ℕ → Columns a → Bool
within one b x = nat_le (unsigned_abs x) b
within two b x = nat_le (unsigned_abs x.0) b.0 && nat_le (unsigned_abs x.1) b.1

-- a whole number from -2^63 to 2^63 - 1
abbrev pub fits64 : ℤ → Bool
fits64 (pos n) = nat_lt n (2 ^ 63)
fits64 (negsuc n) = nat_lt n (2 ^ 63)

-- column number c, counted from 1
abbrev pub column : {X : Type 0} (a : Arity) → Each a X → ℕ → Option X
column one x c = cond (c == 1) (Some x) None
column two x c = cond (c == 1) (Some x.0) (cond (c == 2) (Some x.1) None)

-- the columns with v in the place of column number c
abbrev pub replaced : (a : Arity) → Columns a → ℕ → ℤ → Option (Columns a)
replaced one x c v = cond (c == 1) (Some v) None
replaced two x c v = cond (c == 1) (Some (v, x.1)) (cond (c == 2) (Some (x.0, v)) None)
