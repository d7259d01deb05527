-- What stands in a line that is written.
use Rattle.std.specs.Prelude.{ℕ, List, [], ◌∷◌, ◌++◌, codes, decimal}
use Rattle.std.specs.Fmt.{signed_decimal}
use Rattle.shelves.specs.declared.row.Mark.{Mark}
use Rattle.shelves.specs.declared.row.Mark.TheVariants.{In, Out}
use Rattle.writer.specs.declared.value.Value.{Value}
use Rattle.writer.specs.declared.value.Value.TheVariants.{Count, Amount, Word as word}

abbrev pub spelled : Mark → List ℕ
spelled In = codes "in"
spelled Out = codes "out"

abbrev pub shown : Value → List ℕ
shown (Count n) = decimal n
shown (Amount z) = signed_decimal z
shown (word w) = spelled w

-- the byte behind a field: a comma where others follow, else a line feed
abbrev pub behind : {X : Type 0} → List X → ℕ
behind [] = 10
behind (x ∷ xs) = 44

abbrev pub written : {X : Type 0} → (X → List ℕ) → List X → List ℕ
written bytes [] = []
written bytes (x ∷ xs) = bytes x ++ (behind xs ∷ written bytes xs)

-- a line of these fields; without one it is a line feed alone
abbrev pub line : {X : Type 0} → (X → List ℕ) → List X → List ℕ
line bytes [] = 10 ∷ []
line bytes (x ∷ xs) = written bytes (x ∷ xs)
