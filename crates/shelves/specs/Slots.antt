-- Slots: what a slot shows, and what the calls of a shelf answer and do.
use Rattle.std.specs.Prelude.{◌≡◌, ℕ, ◌<◌, ◌≤◌, Bool, true, false, cond, List, [], ◌∷◌, map, length, ℤ, Some, None, Ok, Err, Option, Result, ◌==◌, slice_index_or}
use Rattle.std.specs.Borrow.{GName, MutBor}
use Rattle.kinds.specs.Columns.{Arity, one, two, Columns}
use Rattle.kinds.specs.Kinds.{Kind, Of}
use Rattle.shelves.specs.declared.row.Row.{Row}
use Rattle.shelves.specs.declared.row.Mark.{Mark}
use Rattle.shelves.specs.declared.row.Mark.TheVariants.{In, Out}
use Rattle.shelves.specs.declared.row.NoMark.{NoMark}
use Rattle.shelves.specs.declared.row.NoSuchSlot.{NoSuchSlot}

-- the row in a slot: first day, width, whether it is marked out, and the columns of its amount
pub record Entry : Type 0 where
  pub first : ℕ
  pub width : ℕ
  pub out : Bool
  pub columns : List ℤ

-- the number of a mark
abbrev pub number : Mark → ℕ
number In = 0
number Out = 1

-- whether a mark is out
abbrev pub is_out : Mark → Bool
is_out In = false
is_out Out = true

-- the mark of a number, if it is one's
abbrev pub mark_of : ℕ → Option Mark
mark_of n = cond (n == 0) (Some In) (cond (n == 1) (Some Out) None)

-- a number turned into a mark: the mark that it is the number of, or it is none's
abbrev pub MarkOf : ℕ → Result Mark NoMark → Type 0
MarkOf n (Ok m) = mark_of n ≡ Some m
MarkOf n (Err no_mark) = mark_of n ≡ None

-- columns as a list
abbrev pub listed : (a : Arity) → Columns a → List ℤ
listed one x = x ∷ []
listed two x = x.0 ∷ x.1 ∷ []

-- a slot by the numbers of its row: mark 0 is in, mark 1 is out, and with any other mark it is blank
abbrev pub slot_of : ℕ → ℕ → ℕ → List ℤ → Option Entry
slot_of first width mark columns =
    cond (mark == 0) (Some (record { first = first; width = width; out = false; columns = columns }))
    (cond (mark == 1) (Some (record { first = first; width = width; out = true; columns = columns })) None)

-- the slot that holds a row of the kind
abbrev pub shown : {V : Type 0} (k : Kind) → (V → Of k) → Row V → Option Entry
shown k columns row = slot_of row.first row.width row.mark (listed k.arity (columns row.amount))

-- what a shelf over lent rows shows: one slot a row
abbrev pub shown_rows : {V : Type 0} (k : Kind) → (V → Of k) → List (Row V) → List (Option Entry)
shown_rows k columns rows = map (shown k columns) rows

-- the lent memory of a shelf besides its slots: which memory it is, slots of a shelf below that are not the shelf's own, and bytes past the last slot
pub record Outside : Type 0 where
  pub place : GName
  pub slots : List (Option Entry)
  pub bytes : List ℕ

-- lent rows are all slots
abbrev pub over_rows : {X : Type 0} → MutBor X → Outside
over_rows rows = record { place = rows.ghost_name; slots = []; bytes = [] }

-- what a put answers, from the shelf s to the shelf t: there is such a slot, or there is none and all is as it was
abbrev pub Put : {S : Type 0} → ℕ → ℕ → S → S → Result (Unit {0}) NoSuchSlot → Type 0
Put capacity slot s t (Ok done) = slot < capacity
Put capacity slot s t (Err no_such) = (capacity ≤ slot) × (t ≡ s)

-- what is answered of a slot: nothing where it is blank, else the row that it holds
abbrev pub Holds : {V : Type 0} (k : Kind) → (V → Of k) → Option Entry → Option (Row V) → Type 0
Holds k columns e None = e ≡ None
Holds k columns e (Some row) = (row.mark ≤ 1) × (e ≡ shown k columns row)

-- what a read answers: what the slot holds, or there is no such slot
abbrev pub Read : {V : Type 0} (k : Kind) → (V → Of k) → List (Option Entry) → ℕ → Result (Option (Row V)) NoSuchSlot → Type 0
Read k columns slots slot (Ok r) = (slot < length slots) × Holds k columns (slice_index_or slots slot None) r
Read k columns slots slot (Err no_such) = length slots ≤ slot

-- what a read answers of a slot into which a row was put just before: that row comes back
abbrev pub ComesBack : {V : Type 0} (k : Kind) → (V → Of k) → ℕ → ℕ → Row V → Result (Option (Row V)) NoSuchSlot → Type 0
ComesBack k columns capacity slot row (Ok r) = (slot < capacity) × Holds k columns (shown k columns row) r
ComesBack k columns capacity slot row (Err no_such) = capacity ≤ slot
