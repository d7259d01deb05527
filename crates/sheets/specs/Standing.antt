-- What stands on a sheet: the pulses marked in, and what they add up to.
use Rattle.std.specs.Prelude.{ℕ, zero, suc, cond, List, [], ◌∷◌, ◌++◌, ℤ, pos, Some, None, Option, slice_index_or}
use Rattle.kinds.specs.Columns.{Arity, one, two, Columns}
use Rattle.kinds.specs.Kinds.{Kind, Of}
use Rattle.shelves.specs.Slots.{Entry}
use Rattle.transform.specs.Windows.{Record, trace, days}
use Rattle.transform.specs.Pulses.{Pulse, standing, swing}
use Rattle.sheets.specs.Takes.{State}

-- the columns of a list
abbrev pub unlisted : (a : Arity) → List ℤ → Columns a
unlisted one [] = pos 0
unlisted one (x ∷ rest) = x
unlisted two [] = (pos 0, pos 0)
unlisted two (x ∷ []) = (x, pos 0)
unlisted two (x ∷ (y ∷ rest)) = (x, y)

-- the pulse of a row
abbrev pub pulse_of : (K : Kind) → Entry → Pulse K
pulse_of K e = record { first = e.first; width = e.width; amount = unlisted K.arity e.columns }

-- the pulse in a slot, if there is one and it is marked in
abbrev pub stands_in : (K : Kind) → Option Entry → List (Pulse K)
stands_in K None = []
stands_in K (Some e) = cond e.out [] (pulse_of K e ∷ [])

-- the pulses in the first n slots that are marked in
unfoldable pub stand_in : (K : Kind) → ℕ → List (Option Entry) → List (Pulse K)
stand_in K zero slots = []
stand_in K (suc n) slots = stand_in K n slots ++ stands_in K (slice_index_or slots n None)

-- the pulses of a sheet that are marked in
abbrev pub left : (K : Kind) → State → List (Pulse K)
left K s = stand_in K s.count s.slots

-- the standing total of a day, the standing trace, and its swing
abbrev pub standing_total : (K : Kind) → State → ℕ → Of K
standing_total K s d = standing K (left K s) d

abbrev pub standing_trace : (K : Kind) → State → Record K
standing_trace K s = days K s.days (standing_total K s)

abbrev pub standing_swing : (K : Kind) → State → Of K
standing_swing K s = swing K s.days (trace K (standing_trace K s))
