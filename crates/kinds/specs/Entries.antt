-- The days of a record whose totals may be entered.
use Rattle.std.specs.Prelude.{ℕ, ◌+◌, cond, List, [], ◌∷◌, Some, None, Option}
use Rattle.kinds.specs.Columns.{within}
use Rattle.kinds.specs.Kinds.{Kind, Of}

-- the first day, from `day` on, whose total may not be entered
abbrev pub not_entered : (K : Kind) → ℕ → List (Of K) → Option ℕ
not_entered K day [] = None
not_entered K day (x ∷ xs) = cond (within K.arity K.bound x) (not_entered K (day + 1) xs) (Some day)
