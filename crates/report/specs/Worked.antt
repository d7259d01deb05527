-- Records and texts worked through: one list, and what it is for all of it to be right.
use Rattle.std.specs.Prelude.{◌≡◌, ℕ, List, [], ◌∷◌, ◌++◌, map, codes}
use Rattle.transform.specs.Examples.{Example, examples}
use Rattle.transform.specs.Examples.{Right as RecordRight}
use Rattle.report.specs.Reports.{report_of}

-- a record with its pulses, what stands and its swing; or a text with its report
pub data Worked : Type 0 where
  of_record : Example → Worked
  of_text : List ℕ → List ℕ → Worked

abbrev pub Right : Worked → Type 0
Right (of_record e) = RecordRight e
Right (of_text text report) = report_of text ≡ report

abbrev pub AllRight : List Worked → Type 0
AllRight [] = Unit {0}
AllRight (w ∷ ws) = Right w × AllRight ws

-- lines, each with its line feed
abbrev ended : List (List ℕ) → List ℕ
ended [] = []
ended (l ∷ ls) = l ++ (10 ∷ ended ls)

abbrev two_days : Worked
two_days =
    of_text (ended (codes "day,cents" ∷ (codes "1,2" ∷ (codes "2,-1" ∷ []))))
    (ended (codes "pulse,width,first,cents,state" ∷ (codes "1,1,1,2,in" ∷ (codes "2,1,2,-1,in" ∷ []))))

abbrev pub worked : List Worked
worked = map of_record examples ++ (two_days ∷ [])
