-- What an accepted trace text is, told by its lines and fields.
use Rattle.std.specs.Prelude.{◌≡◌, ℕ, ◌+◌, ◌≤◌, true, List, [], ◌∷◌, ◌++◌, length, pos, is_some, None}
use Rattle.kinds.specs.Columns.{within}
use Rattle.kinds.specs.Kinds.{Kind, Of}
use Rattle.figures.specs.declared.heading.Heading.TheVariants.{Day}
use Rattle.figures.specs.Figures.{figure}
use Rattle.figures.specs.Headings.{letters}
use Rattle.reading.specs.Parts.{lines, fields}
use Rattle.reading.specs.Traces.{trace_names, bad_name, all_among, number_under, columns_under}

abbrev pub AllFigures : List (List ℕ) → Type 0
AllFigures [] = Unit {0}
AllFigures (v ∷ vs) = (is_some (figure v) ≡ true) × AllFigures vs

-- the line of a day: a figure under each name, the day under `day`, the total's columns under theirs
pub record LineOf (K : Kind) (names values : List (List ℕ)) (day : ℕ) (total : Of K) : Type 0 where
  pub count : length values ≡ length names
  pub figures : AllFigures values
  pub day_is : number_under names values (letters Day) ≡ pos day
  pub in_time : day ≤ 1000
  pub total_is : columns_under K.arity K.names names values ≡ total
  pub may_enter : within K.arity K.bound total ≡ true

-- a line for each day from `day` on
abbrev pub LinesOf : (K : Kind) → List (List ℕ) → ℕ → List (List ℕ) → List (Of K) → Type 0
LinesOf K names day [] [] = Unit {0}
LinesOf K names day [] (x ∷ xs) = ⊥
LinesOf K names day (l ∷ ls) [] = ⊥
LinesOf K names day (l ∷ ls) (x ∷ xs) = LineOf K names (fields l) day x × LinesOf K names (day + 1) ls xs

-- the text of a record: a line of the names, each known and none twice, then the line of each day,
-- and nothing behind the last line feed
pub record TextOf (K : Kind) (text : List ℕ) (days : List (Of K)) : Type 0 where
  pub names : List ℕ
  pub values : List (List ℕ)
  pub lines_are : lines text ≡ names ∷ (values ++ ([] ∷ []))
  pub known : bad_name (trace_names K) (fields names) 0 (fields names) ≡ None
  pub complete : all_among (trace_names K) (fields names) ≡ true
  pub lines_of : LinesOf K (fields names) 1 values days
