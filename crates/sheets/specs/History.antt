-- The history of a sheet: its calls other than questions, the newest first. From it follow the
-- record held and the pulses out.
use Rattle.std.specs.Prelude.{◌≡◌, ℕ, ◌<◌, Bool, ◌⊎◌, List, [], ◌∷◌, ◌++◌, length, Some, None, Ok, Err, Decides, Result, slice_index_or}
use Rattle.std.specs.List.{ContainsAt as Has, AllByRecursion}
use Rattle.kinds.specs.Kinds.{Kind}
use Rattle.shelves.specs.Slots.{Entry, listed}
use Rattle.transform.specs.Windows.{Record}
use Rattle.transform.specs.Pulses.{Pulse, pulses}
use Rattle.sheets.specs.declared.sheet.Stop.{Stop}
use Rattle.sheets.specs.declared.sheet.Stop.TheVariants.{Refused, Unreachable}
use Rattle.splitting.specs.Records.{Accepted}
use Rattle.sheets.specs.Takes.{State}
use Rattle.sheets.specs.Calls.{Call, taking, marking, marking_one, Allowed, Names, Removes}

abbrev pub Calls : Kind → Type 0
Calls K = List (Call K)

-- the call is a take that is accepted, on a shelf of so many slots
abbrev pub Takes : (K : Kind) → ℕ → Call K → Type 0
Takes K capacity (taking xs entries) = Accepted K xs entries capacity
Takes K capacity (marking m low high) = ⊥
Takes K capacity (marking_one m n) = ⊥

-- the last take that was accepted took the record xs
pub record LastTake (K : Kind) (capacity : ℕ) (h : Calls K) (xs : Record K) : Type 0 where
  pub later : Calls K
  pub entries : ℕ
  pub earlier : Calls K
  pub split : h ≡ later ++ (taking xs entries ∷ earlier)
  pub accepted : Accepted K xs entries capacity
  pub since : AllByRecursion (λ c. Takes K capacity c → ⊥) later

-- the record held after the calls h: that of the last accepted take, and at first the empty one
abbrev pub Held : (K : Kind) → ℕ → Calls K → Record K → Type 0
Held K capacity h xs = LastTake K capacity h xs ⊎ ((xs ≡ []) × AllByRecursion (λ c. Takes K capacity c → ⊥) h)

-- while the record xs is held: the call is accepted, and it is a take or names the pulse
abbrev pub Concerns : (K : Kind) → ℕ → Record K → Call K → Pulse K → Type 0
Concerns K capacity xs c p =
    Takes K capacity c ⊎ (Allowed K capacity (length (pulses K xs)) c × Names K xs c p)

-- The pulse p of the record held, xs, is out after the calls h: the last accepted call to name it
-- since the last accepted take was a removal.
pub record Out (K : Kind) (capacity : ℕ) (xs : Record K) (h : Calls K) (p : Pulse K) : Type 0 where
  pub later : Calls K
  pub call : Call K
  pub earlier : Calls K
  pub split : h ≡ later ++ (call ∷ earlier)
  pub removal : Removes call
  pub accepted : Allowed K capacity (length (pulses K xs)) call
  pub names : Names K xs call p
  pub since : AllByRecursion (λ c. Concerns K capacity xs c p → ⊥) later

-- the row of a pulse, with its mark
abbrev pub row : {K : Kind} → Pulse K → Bool → Entry
row {K} p out = record { first = p.first; width = p.width; out = out; columns = listed K.arity p.amount }

-- The sheet shows what follows from the calls h: the record held, the pulses of that record, pulse i
-- in slot i - 1, and which of them are out.
pub record Shows (K : Kind) (h : Calls K) (s : State) : Type 0 where
  pub totals : Record K
  pub held : Held K (length s.slots) h totals
  pub out : Pulse K → Bool
  pub told : (p : Pulse K) → Has (pulses K totals) p → Decides (out p) (Out K (length s.slots) totals h p)
  pub days : s.days ≡ length totals
  pub count : s.count ≡ length (pulses K totals)
  pub rows : (k : ℕ) (d : Pulse K) → k < length (pulses K totals) →
      slice_index_or s.slots k None ≡ Some (row (slice_index_or (pulses K totals) k d) (out (slice_index_or (pulses K totals) k d)))

-- the call came to no state that a history leads to
abbrev pub Strays : {A : Type 0} → Result A Stop → Type 0
Strays (Ok n) = ⊥
Strays (Err (Refused r)) = ⊥
Strays (Err Unreachable) = Unit {0}

-- What a call does to the history: the sheet after it shows the history with the call added, and an
-- answer that borrows no number never occurs.
abbrev pub Continues : {A : Type 0} (K : Kind) → Call K → State → State → Result A Stop → Type 0
Continues K c before after r = (h : Calls K) → Shows K h before → Shows K (c ∷ h) after × (Strays r → ⊥)
