-- What the questions of a sheet answer.
use Rattle.std.specs.Prelude.{◌≡◌, ℕ, ◌-◌, ◌<◌, ◌≤◌, ◌⊎◌, List, map, length, take, drop, Some, None, Ok, Err, Result, slice_index_or}
use Rattle.kinds.specs.Kinds.{Kind, Of}
use Rattle.refusals.specs.Table.{number}
use Rattle.shelves.specs.Slots.{Entry, is_out, listed}
use Rattle.sheets.specs.declared.questions.ListedPulse.{ListedPulse}
use Rattle.sheets.specs.declared.sheet.Stop.{Stop}
use Rattle.sheets.specs.declared.sheet.Stop.TheVariants.{Refused, Unreachable}
use Rattle.sheets.specs.Takes.{State}
use Rattle.sheets.specs.History.{Calls, Shows}
use Rattle.sheets.specs.Standing.{standing_total, standing_trace}

-- no list of calls leads to this state
abbrev pub Unled : Kind → State → Type 0
Unled K s = (h : Calls K) → Shows K h s → ⊥

-- what a sum over a sheet comes to
abbrev pub ComesOut : {V : Type 0} (K : Kind) → (V → Of K) → State → Of K → Result V Stop → Type 0
ComesOut K columns s x (Ok v) = columns v ≡ x
ComesOut K columns s x (Err (Refused r)) = ⊥
ComesOut K columns s x (Err Unreachable) = Unled K s

-- the row that shows a listed pulse
abbrev pub row_listed : {V : Type 0} (K : Kind) → (V → Of K) → ListedPulse V → Entry
row_listed K columns p =
    record { first = p.stretch.first; width = p.stretch.width; out = is_out p.mark; columns = listed K.arity (columns p.amount) }

-- the pulse of a number: its stretch, mark and amount
abbrev pub Listed : {V : Type 0} (K : Kind) → (V → Of K) → State → ℕ → Result (ListedPulse V) Stop → Type 0
Listed K columns s n (Ok p) =
    (1 ≤ n) × (n ≤ s.count) ×
    (slice_index_or s.slots (n - 1) None ≡ Some (row_listed K columns p))
Listed K columns s n (Err (Refused r)) = (number r ≡ 6) × ((n ≡ 0) ⊎ (s.count < n))
Listed K columns s n (Err Unreachable) = Unled K s

-- the standing total of a day
abbrev pub StandingTotal : {V : Type 0} (K : Kind) → (V → Of K) → State → ℕ → Result V Stop → Type 0
StandingTotal K columns s d (Ok v) = (1 ≤ d) × (d ≤ s.days) × (columns v ≡ standing_total K s d)
StandingTotal K columns s d (Err (Refused r)) = (number r ≡ 7) × ((d ≡ 0) ⊎ (s.days < d))
StandingTotal K columns s d (Err Unreachable) = Unled K s

-- a list of totals holds the first n days of the standing trace, and its later entries stay
pub record Filled {V : Type 0} (K : Kind) (columns : V → Of K) (s : State) (before after : List V) (n : ℕ) : Type 0 where
  pub within : n ≤ s.days
  pub totals : map columns (take n after) ≡ take n (standing_trace K s)
  pub rest : drop n after ≡ drop n before

-- the standing trace, written into a list of totals
abbrev pub Traced : {V : Type 0} (K : Kind) → (V → Of K) → State → List V → List V → Result ℕ Stop → Type 0
Traced K columns s before after (Ok n) =
    (n ≡ s.days) × (n ≤ length before) × (map columns (take n after) ≡ standing_trace K s) × (drop n after ≡ drop n before)
Traced K columns s before after (Err (Refused r)) = (number r ≡ 8) × (length before < s.days) × (after ≡ before)
Traced K columns s before after (Err Unreachable) = Unled K s

-- what a trace leaves in the list where it answers for a state that no list of calls leads to
abbrev pub FilledAtLeast : {V : Type 0} (K : Kind) → (V → Of K) → State → List V → List V → Result ℕ Stop → Type 0
FilledAtLeast K columns s before after (Ok n) = Unit {0}
FilledAtLeast K columns s before after (Err (Refused r)) = Unit {0}
FilledAtLeast K columns s before after (Err Unreachable) = (n : ℕ) × Filled K columns s before after n
