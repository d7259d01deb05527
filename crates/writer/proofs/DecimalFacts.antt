-- Lemmas on decimals: their length, and the minus.
use Rattle.std.proofs.Common.{◌≡◌, ℕ, zero, suc, ◌+◌, ◌*◌, ◌/◌, ◌^◌, ◌<◌, ◌≤◌, true, ◌∷◌, length, ℤ, pos, negsuc, nat_abs, decimal, refl, ap, ◌∙◌, arith, length-append}
use lib.Signed.{lt_z}
use Rattle.std.proofs.lemmas.Bool.{ltb-true}
use Rattle.std.proofs.lemmas.Fmt.{decimal_digit, decimal_step}
use Rattle.std.specs.Fmt.{signed_decimal}

-- one digit more than the exponent of the greatest power of ten in the number
pub decimal_length : (k n : ℕ) → 10 ^ k ≤ n → n < 10 * 10 ^ k → n < 2 ^ 64 → length (decimal n) ≡ k + 1
decimal_length zero n lo hi fits = ap length (decimal_digit n hi)
decimal_length (suc k) n lo hi fits =
    let step : length (decimal n) ≡ length (decimal (n / 10)) + 1 = ap length (decimal_step n (omega arith) fits) ∙ length-append _ _ in
    let rest = decimal_length k (n / 10) (omega arith) (omega arith) (omega arith) in
    omega arith

-- the same by the bounds of short numbers
pub one_digit : (n : ℕ) → n < 10 → length (decimal n) ≡ 1
one_digit n hi = ap length (decimal_digit n hi)

pub two_digits : (n : ℕ) → 10 ≤ n → n < 100 → length (decimal n) ≡ 2
two_digits n lo hi = decimal_length 1 n lo hi (omega arith)

pub three_digits : (n : ℕ) → 100 ≤ n → n < 1000 → length (decimal n) ≡ 3
three_digits n lo hi = decimal_length 2 n lo hi (omega arith)

pub four_digits : (n : ℕ) → 1000 ≤ n → n < 10000 → length (decimal n) ≡ 4
four_digits n lo hi = decimal_length 3 n lo hi (omega arith)

pub ruleset digit_counts = (decimal_length, one_digit, two_digits, three_digits, four_digits)

pub minus_first : (z : ℤ) → lt_z z (pos 0) ≡ true → signed_decimal z ≡ 45 ∷ decimal (nat_abs z)
minus_first (pos n) h = absurd (omega (arith, ltb-true n 0 h))
minus_first (negsuc n) h = refl
