-- What the private functions under the calls and the questions answer.
use Rattle.std.specs.Prelude.{◌≡◌, ℕ, ◌-◌, ◌<◌, false, ◌⊎◌, List, length, Some, None, Ok, Err, Option, Result, ◌≢◌, slice_index_or, slice_set}
use Rattle.kinds.specs.Columns.{plus, minus}
use Rattle.kinds.specs.Kinds.{Kind, Of}
use Rattle.shelves.specs.Slots.{Entry, is_out, listed}
use Rattle.transform.specs.Pulses.{size}
use Rattle.transform.specs.Windows.{trace}
use Rattle.sheets.specs.declared.marks.HeldRow.{HeldRow}
use Rattle.sheets.specs.Takes.{State}
use Rattle.sheets.specs.declared.sheet.Stop.{Stop}
use Rattle.sheets.specs.declared.sheet.Stop.TheVariants.{Refused, Unreachable}
use Rattle.sheets.specs.Calls.{Call}
use Rattle.sheets.specs.Marks.{marked, change, marks_changed, Marked, Blank}
use Rattle.sheets.specs.Standing.{standing_trace}

-- the row that a slot holds, as the slot shows it
abbrev pub entry_of : {V : Type 0} (k : Kind) → (V → Of k) → HeldRow V → Entry
entry_of k columns row =
    record { first = row.first; width = row.width; out = is_out row.mark; columns = listed k.arity (columns row.amount) }

-- the row that the slot holds, or none, exactly where the slot is blank
abbrev pub RowHeld : {V : Type 0} (k : Kind) → (V → Of k) → List (Option Entry) → ℕ → Result (HeldRow V) Stop → Type 0
RowHeld k columns slots slot (Ok row) = (slot < length slots) × (slice_index_or slots slot None ≡ Some (entry_of k columns row))
RowHeld k columns slots slot (Err (Refused r)) = ⊥
RowHeld k columns slots slot (Err Unreachable) = slice_index_or slots slot None ≡ None

-- What a call that marks answers of slot k alone: 1 where the mark changes, else 0; or the slot is blank, and all is
-- as it was.
abbrev pub SlotMarked : (K : Kind) → Call K → ℕ → List (Option Entry) → List (Option Entry) → Result ℕ Stop → Type 0
SlotMarked K c k before after (Ok n) =
    (slice_index_or before k None ≢ None) × (n ≡ change c k (slice_index_or before k None)) × (after ≡ slice_set before k (marked c k (slice_index_or before k None)))
SlotMarked K c k before after (Err (Refused r)) = ⊥
SlotMarked K c k before after (Err Unreachable) = (slice_index_or before k None ≡ None) × (after ≡ before)

-- What it answers of the first n slots: how many marks changed, or it came to a blank slot.
abbrev pub SlotsMarked : (K : Kind) → Call K → ℕ → List (Option Entry) → List (Option Entry) → Result ℕ Stop → Type 0
SlotsMarked K c n before after (Ok changed) = Marked c n before after × (changed ≡ marks_changed c n before)
SlotsMarked K c n before after (Err (Refused r)) = ⊥
SlotsMarked K c n before after (Err Unreachable) = Blank c n before after

-- a sum with the size of a step, or nothing where there is no such step, size or sum
abbrev pub Steps : {V : Type 0} (K : Kind) → (V → Of K) → Of K → Of K → Of K → Option V → Type 0
Steps K columns x from to (Some v) = columns v ≡ plus K.arity x (size K (minus K.arity to from))
Steps K columns x from to None =
    (K.has (minus K.arity to from) ≡ false) ⊎
    ((K.has (size K (minus K.arity to from)) ≡ false) ⊎ (K.has (plus K.arity x (size K (minus K.arity to from))) ≡ false))

-- the steps of the standing trace, by the day that each leads to
abbrev pub step : (K : Kind) → State → ℕ → Of K
step K s d = size K (minus K.arity (trace K (standing_trace K s) d) (trace K (standing_trace K s) (d - 1)))
