-- Figures: an optional minus and 1 to 18 digits, without leading zeros and without -0.
use Rattle.std.specs.Prelude.{ℕ, ◌+◌, ◌-◌, ◌*◌, Bool, true, cond, not, ◌&&◌, ◌||◌, List, [], ◌∷◌, length, ℤ, pos, neg_ℤ, Some, None, Option, ◌==◌, nat_le, slice_index}
use Rattle.figures.specs.Bytes.{is_digit}

abbrev pub digits : List ℕ → Bool
digits [] = true
digits (b ∷ bs) = is_digit b && digits bs

-- the number whose decimal digits are those of n and then these
abbrev pub number_on : ℕ → List ℕ → ℕ
number_on n [] = n
number_on n (b ∷ bs) = number_on (n * 10 + (b - 48)) bs

-- 1 to 18 digits, of which the first is 0 only where it is the only one
abbrev pub plain : List ℕ → Bool
plain bs = digits bs && (nat_le 1 (length bs) && (nat_le (length bs) 18 && (length bs == 1 || not (slice_index bs 0 == 48))))

-- the number of plain digits, or nothing
abbrev pub unsigned : List ℕ → Option ℤ
unsigned bs = cond (plain bs) (Some (pos (number_on 0 bs))) None

-- the number of plain digits after a minus; of 0 there is none
abbrev pub negative : List ℕ → Option ℤ
negative bs = cond (plain bs && not (slice_index bs 0 == 48)) (Some (neg_ℤ (pos (number_on 0 bs)))) None

-- what the bytes of a figure say, or nothing where they are no figure
abbrev pub figure : List ℕ → Option ℤ
figure [] = None
figure (b ∷ bs) = cond (b == 45) (negative bs) (unsigned (b ∷ bs))
