-- Lemmas on the names of columns.
use Rattle.std.proofs.Common.{◌≡◌, Bool, true, false, Some, refl}
use Rattle.std.specs.Option.{option_eq}
use Rattle.kinds.specs.Columns.{Arity, one, two, Each, column}
use Rattle.kinds.specs.declared.name.Name.{Name}
use Rattle.kinds.specs.declared.name.Name.TheVariants.{Cents, Pieces}
use Rattle.figures.specs.Headings.{first, second, twins}

pub column_first : {X : Type 0} (a : Arity) (x : Each a X) → column a x 1 ≡ Some (first a x)
column_first one x = refl
column_first two x = refl

pub column_second : {X : Type 0} (a : Arity) (x : Each a X) → column a x 2 ≡ second a x
column_second one x = refl
column_second two x = refl

-- names are the same where their codes are
pub twins_by_name : (E : Name → Name → Bool) → E Cents Cents ≡ true → E Cents Pieces ≡ false → E Pieces Cents ≡ false → E Pieces Pieces ≡ true → (a : Arity) (n : Each a Name) → option_eq E (column a n 1) (column a n 2) ≡ twins a n
twins_by_name E cc cp pc pp one n = refl
twins_by_name E cc cp pc pp two (Cents, Cents) = cc
twins_by_name E cc cp pc pp two (Cents, Pieces) = cp
twins_by_name E cc cp pc pp two (Pieces, Cents) = pc
twins_by_name E cc cp pc pp two (Pieces, Pieces) = pp
