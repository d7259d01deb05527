-- What a refused trace text is: each condition by itself, and the order in which they count.
use Rattle.std.specs.Prelude.{◌≡◌, ℕ, ◌+◌, ◌<◌, true, false, cond, ◌⊎◌, List, [], ◌∷◌, ◌++◌, length, ℤ, pos, Some, None, Ok, Err, Result, ◌==◌, ◌≢◌}
use Rattle.std.specs.List.{ContainsAt as Has}
use Rattle.kinds.specs.Columns.{Arity, one, two, Each, Columns, within}
use Rattle.kinds.specs.declared.name.Name.{Name}
use Rattle.kinds.specs.Kinds.{Kind, Of}
use Rattle.figures.specs.declared.heading.Heading.TheVariants.{Day}
use Rattle.refusals.specs.Faults.{Finding}
use Rattle.figures.specs.Figures.{figure}
use Rattle.figures.specs.Headings.{letters, heading, twins}
use Rattle.reading.specs.Parts.{parts, holds, lines, fields, under, start_under}
use Rattle.reading.specs.Traces.{trace_names}

abbrev pub finding : ℕ → ℕ → ℕ → Finding
finding number line byte = record { number = number; line = line; byte = byte }

-- the bytes that parts take, each with the byte behind it
abbrev pub spread : List (List ℕ) → ℕ
spread [] = 0
spread (p ∷ ps) = length p + 1 + spread ps

-- one of the parts, with those before and those after it
pub record PartOf (all : List (List ℕ)) : Type 0 where
  pub before : List (List ℕ)
  pub part : List ℕ
  pub after : List (List ℕ)
  pub are : all ≡ before ++ (part ∷ after)

-- where the part stands in the bytes: behind as many as those before it take, with no c in it
pub record Stands (c : ℕ) (bytes : List ℕ) (p : PartOf (parts c bytes)) : Type 0 where
  pub front : List ℕ
  pub back : List ℕ
  pub bytes_are : bytes ≡ front ++ (p.part ++ back)
  pub start : length front ≡ spread p.before
  pub alone : holds c p.part ≡ false

-- the first line: a name that is unknown, or that stands before already, where it starts; a name
-- that is missing, or no line feed, where the line ends
pub data NamesMeet (K : Kind) (names : List ℕ) (rest : List (List ℕ)) (f : Finding) : Type 0 where
  unknown : (p : PartOf (fields names)) → (Has (trace_names K) p.part → ⊥) → f ≡ finding 10 1 (spread p.before) → NamesMeet K names rest f
  repeated : (p : PartOf (fields names)) → Has p.before p.part → f ≡ finding 10 1 (spread p.before) → NamesMeet K names rest f
  missing : (name : List ℕ) → Has (trace_names K) name → (Has (fields names) name → ⊥) → f ≡ finding 10 1 (length names) → NamesMeet K names rest f
  unended_names : rest ≡ [] → f ≡ finding 10 1 (length names) → NamesMeet K names rest f

-- the field under the name is the figure of this number
pub record FigureUnder (names values : List (List ℕ)) (name : List ℕ) (z : ℤ) : Type 0 where
  pub field : List ℕ
  pub is_under : under names values name ≡ Some field
  pub is_figure : figure field ≡ Some z

-- each column's number stands under the column's name
abbrev pub FiguresUnder : (a : Arity) → Each a Name → List (List ℕ) → List (List ℕ) → Columns a → Type 0
FiguresUnder one n names values x = FigureUnder names values (letters (heading n)) x
FiguresUnder two n names values x =
    FigureUnder names values (letters (heading n.0)) x.0 × FigureUnder names values (letters (heading n.1)) x.1

-- the ended line of a day, which starts at byte `at`: a wrong count of fields; a field that is no
-- figure; another number under `day`; a day past the last; columns without a value or past the bounds
pub data LineMeets (K : Kind) (names values : List (List ℕ)) (day at : ℕ) (f : Finding) : Type 0 where
  miscounted : (length values ≢ length names) → f ≡ finding 12 (day + 1) at → LineMeets K names values day at f
  no_figure : (p : PartOf values) → figure p.part ≡ None → f ≡ finding 11 (day + 1) (at + spread p.before) → LineMeets K names values day at f
  out_of_turn : (z : ℤ) → FigureUnder names values (letters Day) z → (z ≢ pos day) → f ≡ finding 13 (day + 1) (start_under at names values (letters Day)) → LineMeets K names values day at f
  past_the_last : 1000 < day → f ≡ finding 1 (day + 1) at → LineMeets K names values day at f
  may_not_enter : (x : Of K) → FiguresUnder K.arity K.names names values x → (K.has x ≡ false) ⊎ (within K.arity K.bound x ≡ false) → f ≡ finding 2 (day + 1) at → LineMeets K names values day at f

-- the lines of the days from `day` on, of which the first starts at byte `at`: what an ended one
-- meets; or something stands behind the last line feed
pub data LinesMeet (K : Kind) (names : List (List ℕ)) (day at : ℕ) (values : List (List ℕ)) (f : Finding) : Type 0 where
  ended : (p : PartOf values) → (p.after ≢ []) → LineMeets K names (fields p.part) (day + length p.before) (at + spread p.before) f → LinesMeet K names day at values f
  unended : (p : PartOf values) → p.after ≡ [] → (p.part ≢ []) → f ≡ finding 12 (day + length p.before + 1) (at + spread p.before) → LinesMeet K names day at values f

-- the text meets the condition of this number at this line and byte: the kind's two columns have one
-- name; too many bytes; one of the names line; one of a line of values; more ended lines of values
-- than the room
pub data Meets (K : Kind) (room : ℕ) (text : List ℕ) (f : Finding) : Type 0 where
  twin_names : twins K.arity K.names ≡ true → f ≡ finding 10 0 0 → Meets K room text f
  too_long : 40000 < length text → f ≡ finding 9 0 0 → Meets K room text f
  in_names : (names : List ℕ) (rest : List (List ℕ)) → lines text ≡ names ∷ rest → NamesMeet K names rest f → Meets K room text f
  in_values : (names : List ℕ) (rest : List (List ℕ)) → lines text ≡ names ∷ rest → LinesMeet K (fields names) 1 (length names + 1) rest f → Meets K room text f
  past_the_room : (names : List ℕ) (values : List (List ℕ)) (last : List ℕ) → lines text ≡ names ∷ (values ++ (last ∷ [])) → room < length values → f ≡ finding 8 0 0 → Meets K room text f

-- twin names, then too many bytes, then the names line, then the lines of values, then the room
abbrev pub stage : Finding → ℕ
stage f =
    cond (f.number == 10) (cond (f.line == 0) 0 2) (cond (f.number == 9) 1 (cond (f.number == 8) 4 3))

-- in a line of values 12, then 11, 13, 1 and 2
abbrev pub turn : ℕ → ℕ
turn number =
    cond (number == 12) 0 (cond (number == 11) 1 (cond (number == 13) 2 (cond (number == 1) 3 4)))

-- the first number in which the lists differ is the smaller one here
abbrev pub Sooner : List ℕ → List ℕ → Type 0
Sooner [] ys = ⊥
Sooner (x ∷ xs) [] = ⊥
Sooner (x ∷ xs) (y ∷ ys) = (x < y) ⊎ ((x ≡ y) × Sooner xs ys)

-- by stage, then by line, then by the turn in the line, then by byte
abbrev pub standing : Finding → List ℕ
standing f = stage f ∷ f.line ∷ turn f.number ∷ f.byte ∷ []

abbrev pub Before : Finding → Finding → Type 0
Before g f = Sooner (standing g) (standing f)

-- the text meets this condition, and none before it
pub record FirstMet (K : Kind) (room : ℕ) (text : List ℕ) (f : Finding) : Type 0 where
  pub met : Meets K room text f
  pub first : (g : Finding) → Meets K room text g → Before g f → ⊥

-- the law of reading: an accepted text meets no condition, and a refusal is the first that is met
abbrev pub Judged : {X : Type 0} (K : Kind) → ℕ → List ℕ → Result X Finding → Type 0
Judged K room text (Ok x) = (g : Finding) → Meets K room text g → ⊥
Judged K room text (Err f) = FirstMet K room text f
