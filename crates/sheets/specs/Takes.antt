-- What a sheet shows, and what a take answers and does.
use Rattle.std.specs.Prelude.{◌≡◌, ℕ, List, length, Ok, Err, Option, Result}
use Rattle.kinds.specs.Kinds.{Kind}
use Rattle.shelves.specs.Slots.{Entry, Outside}
use Rattle.splitting.specs.Records.{laid, Accepted, Lowest}
use Rattle.transform.specs.Windows.{Record}
use Rattle.transform.specs.Pulses.{pulses}
use Rattle.sheets.specs.declared.sheet.Sheet.{Sheet}
use Rattle.sheets.specs.declared.sheet.Stop.{Stop}
use Rattle.sheets.specs.declared.sheet.Stop.TheVariants.{Refused, Unreachable}

-- what a sheet shows: the days of the record held, the number of its pulses, and its shelf
pub record State : Type 0 where
  pub days : ℕ
  pub count : ℕ
  pub slots : List (Option Entry)
  pub outside : Outside

-- Stays a definition that clauses apply, and no Model of Sheet: a refused call leaves the sheet itself as
-- it was, and not only its state, and the definitions below compare sheets over different shelves.
abbrev pub state_of : {V S : Type 0} → (S → List (Option Entry)) → (S → Outside) → Sheet V S → State
state_of slots outside s =
    record { days = s.days; count = s.pulses; slots = slots s.shelf; outside = outside s.shelf }

-- a new sheet over a shelf: it holds the empty record, which has no pulses
abbrev pub opened : List (Option Entry) → Outside → State
opened slots outside = record { days = 0; count = 0; slots = slots; outside = outside }

-- the sheet after an accepted take holds the record, and its pulses are put as the windows list them
pub record Taken (K : Kind) (xs : Record K) (before after : State) : Type 0 where
  pub days : after.days ≡ length xs
  pub count : after.count ≡ length (pulses K xs)
  pub slots : after.slots ≡ laid (pulses K xs) before.slots
  pub outside : after.outside ≡ before.outside

-- What a take of a record answers, from the sheet s to the sheet t, which show before and after, and
-- from the work list w to the work list v: it is accepted, and the answer is the number of pulses;
-- or it is refused, and sheet and work list are as they were.
abbrev pub Take : {S W : Type 0} (K : Kind) → Record K → ℕ → State → State → S → S → W → W → Result ℕ Stop → Type 0
Take K xs entries before after s t w v (Ok n) =
    Accepted K xs entries (length before.slots) × (n ≡ length (pulses K xs)) × Taken K xs before after
Take K xs entries before after s t w v (Err (Refused r)) =
    Lowest K xs entries (length before.slots) r × (t ≡ s) × (v ≡ w)
Take K xs entries before after s t w v (Err Unreachable) = ⊥
