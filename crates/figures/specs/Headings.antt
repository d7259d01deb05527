-- The names that stand over the columns of our texts.
use Rattle.std.specs.Prelude.{ℕ, Bool, false, List, [], ◌∷◌, Some, None, codes, Option, ◌==◌}
use Rattle.kinds.specs.Columns.{Arity, one, two, Each}
use Rattle.kinds.specs.declared.name.Name.{Name}
use Rattle.kinds.specs.declared.name.Name.TheVariants.{Cents as cents, Pieces as pieces}
use Rattle.kinds.specs.Kinds.{code}
use Rattle.figures.specs.declared.heading.Heading.{Heading}
use Rattle.figures.specs.declared.heading.Heading.TheVariants.{Day, Cents, Pieces, Pulse, Width, First, State, Refusal, Line, Byte}

abbrev pub letters : Heading → List ℕ
letters Day = codes "day"
letters Cents = codes "cents"
letters Pieces = codes "pieces"
letters Pulse = codes "pulse"
letters Width = codes "width"
letters First = codes "first"
letters State = codes "state"
letters Refusal = codes "refusal"
letters Line = codes "line"
letters Byte = codes "byte"

abbrev pub heading : Name → Heading
heading cents = Cents
heading pieces = Pieces

abbrev pub heading_if : Option Name → Option Heading
heading_if None = None
heading_if (Some n) = Some (heading n)

-- what stands in the first column, and in the second, if there is one
abbrev pub first : {X : Type 0} (a : Arity) → Each a X → X
first one x = x
first two x = x.0

abbrev pub second : {X : Type 0} (a : Arity) → Each a X → Option X
second one x = None
second two x = Some x.1

-- the two columns have one name
abbrev pub twins : (a : Arity) → Each a Name → Bool
twins one n = false
twins two n = code n.0 == code n.1

abbrev pub if_any : {X : Type 0} → Option X → List X
if_any None = []
if_any (Some x) = x ∷ []

-- the names of the columns, in kind order
abbrev pub column_headings : (a : Arity) → Each a Name → List Heading
column_headings a n = heading (first a n) ∷ if_any (heading_if (second a n))
