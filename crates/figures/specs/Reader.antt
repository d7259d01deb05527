-- What a state of the figure reader means: what comes of the bytes that are still to come.
use Rattle.std.specs.Prelude.{ℕ, ◌+◌, Bool, cond, ◌&&◌, List, [], ◌∷◌, length, ℤ, pos, neg_ℤ, Some, None, Option, nat_le}
use Rattle.figures.specs.declared.figure.FigureReader.{FigureReader}
use Rattle.figures.specs.declared.figure.FigureReader.TheVariants.{Start, Signed, Zero, Begun, Wrong}
use Rattle.figures.specs.Figures.{digits, number_on, negative, figure}

abbrev pub with_sign : Bool → ℕ → ℤ
with_sign minus n = cond minus (neg_ℤ (pos n)) (pos n)

-- after n, made of so many digits
abbrev pub more : Bool → ℕ → ℕ → List ℕ → Option ℤ
more minus count n bs = cond (digits bs && nat_le (count + length bs) 18) (Some (with_sign minus (number_on n bs))) None

-- nothing may follow a 0
abbrev pub only_zero : List ℕ → Option ℤ
only_zero [] = Some (pos 0)
only_zero (b ∷ bs) = None

abbrev pub outcome : FigureReader → List ℕ → Option ℤ
outcome Start bs = figure bs
outcome Signed bs = negative bs
outcome Zero bs = only_zero bs
outcome (Begun ds) bs = more ds.minus ds.count ds.value bs
outcome Wrong bs = None
