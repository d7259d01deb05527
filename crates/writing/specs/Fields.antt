-- The fields of a line.
use Rattle.std.specs.Prelude.{ℕ, List}
use Rattle.writing.specs.declared.fields.Fields.{Fields}
use Rattle.writing.specs.declared.fields.Fields.TheVariants.{OneColumn, TwoColumns}

abbrev pub fields : {T : Type 0} {one two : ℕ} → Fields T one two → List T
fields (OneColumn xs) = xs
fields (TwoColumns xs) = xs
