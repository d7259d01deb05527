-- The calls that change a sheet, which of its pulses each names, and when it is refused.
use Rattle.std.specs.Prelude.{◌≡◌, ℕ, ◌-◌, ◌<◌, ◌≤◌, ◌⊎◌, List, length, slice_index_or}
use Rattle.kinds.specs.Kinds.{Kind}
use Rattle.refusals.specs.declared.refusal.Refusal.{Refusal}
use Rattle.refusals.specs.Table.{number}
use Rattle.shelves.specs.declared.row.Mark.{Mark}
use Rattle.shelves.specs.declared.row.Mark.TheVariants.{In, Out}
use Rattle.transform.specs.Windows.{Record}
use Rattle.transform.specs.Pulses.{Pulse, pulses}
use Rattle.splitting.specs.Records.{Ground}

-- A call: a take of a record with so many work entries; a mark set on every pulse of a width from
-- the lowest to the highest; a mark set on one pulse, by its number.
pub data Call (K : Kind) : Type 0 where
  taking : Record K → ℕ → Call K
  marking : Mark → ℕ → ℕ → Call K
  marking_one : Mark → ℕ → Call K

-- remove marks out, restore marks in
abbrev pub removing : {K : Kind} → ℕ → ℕ → Call K
removing low high = marking Out low high

abbrev pub restoring : {K : Kind} → ℕ → ℕ → Call K
restoring low high = marking In low high

abbrev pub removing_one : {K : Kind} → ℕ → Call K
removing_one n = marking_one Out n

abbrev pub restoring_one : {K : Kind} → ℕ → Call K
restoring_one n = marking_one In n

-- widths that are no range: the lowest is 0 or above the highest, or the highest over 1,000
abbrev pub NoRange : ℕ → ℕ → Type 0
NoRange low high = (low ≡ 0) ⊎ ((high < low) ⊎ (1000 < high))

-- The table: the ground of each refusal of a call, on a shelf of so many slots and a sheet of so
-- many pulses.
abbrev pub Grounds : (K : Kind) → ℕ → ℕ → Call K → Refusal → Type 0
Grounds K capacity count (taking xs entries) r = Ground K xs entries capacity r
Grounds K capacity count (marking m low high) r = (number r ≡ 5) × NoRange low high
Grounds K capacity count (marking_one m n) r = (number r ≡ 6) × ((n ≡ 0) ⊎ (count < n))

-- no refusal has its ground
abbrev pub Allowed : (K : Kind) → ℕ → ℕ → Call K → Type 0
Allowed K capacity count c = (r : Refusal) → Grounds K capacity count c r → ⊥

-- pulse number n of the list, counted from 1
pub record Numbered {K : Kind} (ps : List (Pulse K)) (n : ℕ) (p : Pulse K) : Type 0 where
  pub starts : 1 ≤ n
  pub ends : n ≤ length ps
  pub is : slice_index_or ps (n - 1) p ≡ p

-- the call names the pulse p of the record xs
abbrev pub Names : (K : Kind) → Record K → Call K → Pulse K → Type 0
Names K xs (taking ys entries) p = ⊥
Names K xs (marking m low high) p = (low ≤ p.width) × (p.width ≤ high)
Names K xs (marking_one m n) p = Numbered (pulses K xs) n p

-- the call marks pulses out
abbrev pub Removes : {K : Kind} → Call K → Type 0
Removes (taking xs entries) = ⊥
Removes (marking m low high) = m ≡ Out
Removes (marking_one m n) = m ≡ Out
