-- A bound for the number of the digits of a figure.
use Rattle.std.proofs.Common.{ℕ, ◌^◌, ◌<◌, ◌≤◌, arith}
use native.Mathlib.Nat.{pow-le-pow_right}

pub below_18_digits : (n count : ℕ) → n < 10 ^ count → count ≤ 18 → n < 10 ^ 18
below_18_digits n count s f = let h : 10 ^ count ≤ 10 ^ 18 = pow-le-pow_right (omega arith) f in omega arith
