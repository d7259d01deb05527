-- What splitting a record onto a shelf answers and does.
use Rattle.std.specs.Prelude.{◌≡◌, ℕ, ◌+◌, ◌<◌, ◌≤◌, true, false, List, ◌++◌, map, length, drop, ℤ, Some, None, Ok, Err, Option, Result}
use Rattle.kinds.specs.Columns.{within}
use Rattle.kinds.specs.Kinds.{Kind}
use Rattle.refusals.specs.declared.refusal.Refusal.{Refusal}
use Rattle.refusals.specs.declared.refusal.Refusal.TheVariants.{TooManyDays, MayNotEnter, WorkTooShort, ShelfTooSmall, WidthsOutOfRange, NoSuchPulse, NoSuchDay, ListTooShort, TextTooLong, WrongNames, MalformedFigure, WrongFields, DayOutOfTurn, OutputTooShort}
use Rattle.refusals.specs.Table.{number}
use Rattle.shelves.specs.Slots.{Entry, Outside, listed}
use Rattle.transform.specs.Windows.{Record, trace}
use Rattle.transform.specs.Pulses.{Pulse, pulses}

-- a row that is marked in
abbrev pub marked_in : ℕ → ℕ → List ℤ → Option Entry
marked_in first width columns = Some (record { first = first; width = width; out = false; columns = columns })

-- the row of a pulse that is marked in
abbrev pub row_of : {K : Kind} → Pulse K → Option Entry
row_of {K} p =
    Some (record { first = p.first; width = p.width; out = false; columns = listed K.arity p.amount })

-- the slots once pulse i is put in slot i - 1, for each pulse of the list
abbrev pub laid : {K : Kind} → List (Pulse K) → List (Option Entry) → List (Option Entry)
laid ps slots = map row_of ps ++ drop (length ps) slots

-- the day is the first, in order, whose total may not be entered
pub record Barred (K : Kind) (xs : Record K) (day : ℕ) : Type 0 where
  pub starts : 1 ≤ day
  pub ends : day ≤ length xs
  pub barred : within K.arity K.bound (trace K xs day) ≡ false
  pub first : (d : ℕ) → 1 ≤ d → d < day → within K.arity K.bound (trace K xs d) ≡ true

-- that day, or nothing where every total may be entered
abbrev pub BarredDay : (K : Kind) → Record K → Option ℕ → Type 0
BarredDay K xs None = (d : ℕ) → 1 ≤ d → d ≤ length xs → within K.arity K.bound (trace K xs d) ≡ true
BarredDay K xs (Some day) = Barred K xs day

-- the ground of each refusal, for a record with so many work entries and slots
abbrev pub Ground : (K : Kind) → Record K → ℕ → ℕ → Refusal → Type 0
Ground K xs entries capacity TooManyDays = 1000 < length xs
Ground K xs entries capacity (MayNotEnter day) = Barred K xs day
Ground K xs entries capacity WorkTooShort = entries < length xs + 2
Ground K xs entries capacity ShelfTooSmall = capacity < length xs
Ground K xs entries capacity WidthsOutOfRange = ⊥
Ground K xs entries capacity NoSuchPulse = ⊥
Ground K xs entries capacity NoSuchDay = ⊥
Ground K xs entries capacity ListTooShort = ⊥
Ground K xs entries capacity TextTooLong = ⊥
Ground K xs entries capacity WrongNames = ⊥
Ground K xs entries capacity MalformedFigure = ⊥
Ground K xs entries capacity WrongFields = ⊥
Ground K xs entries capacity DayOutOfTurn = ⊥
Ground K xs entries capacity OutputTooShort = ⊥

-- the refusal has its ground, and none of a lower number has
pub record Lowest (K : Kind) (xs : Record K) (entries capacity : ℕ) (r : Refusal) : Type 0 where
  pub ground : Ground K xs entries capacity r
  pub lowest : (q : Refusal) → number q < number r → Ground K xs entries capacity q → ⊥

-- no refusal has its ground
abbrev pub Accepted : (K : Kind) → Record K → ℕ → ℕ → Type 0
Accepted K xs entries capacity = (q : Refusal) → Ground K xs entries capacity q → ⊥

-- What splitting a record answers, from the shelf s to the shelf t, whose slots are before and after,
-- and from the work list w to the work list v: it is accepted, the answer is the number of pulses, and
-- they are put as the windows list them; or it is refused, and shelf and work list are as they were.
abbrev pub Splits : {S W : Type 0} (K : Kind) → Record K → ℕ → List (Option Entry) → List (Option Entry) → Outside → Outside → S → S → W → W → Result ℕ Refusal → Type 0
Splits K xs entries before after out-before out-after s t w v (Ok n) =
    Accepted K xs entries (length before) × (n ≡ length (pulses K xs)) ×
    (after ≡ laid (pulses K xs) before) × (out-after ≡ out-before)
Splits K xs entries before after out-before out-after s t w v (Err r) =
    Lowest K xs entries (length before) r × (t ≡ s) × (v ≡ w)
