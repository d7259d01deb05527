-- What a byte is to a reader of texts.
use Rattle.std.specs.Prelude.{ℕ, ◌-◌, Bool, cond, ◌&&◌, ◌==◌, nat_le}
use Rattle.figures.specs.declared.byte.Class.{Class}
use Rattle.figures.specs.declared.byte.Class.TheVariants.{Digit, Minus, Comma, LineFeed, Other}

-- 0 to 9
abbrev pub is_digit : ℕ → Bool
is_digit b = nat_le 48 b && nat_le b 57

abbrev pub class_of : ℕ → Class
class_of b = cond (is_digit b) (Digit (b - 48)) (cond (b == 45) Minus (cond (b == 44) Comma (cond (b == 10) LineFeed Other)))
