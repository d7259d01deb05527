-- The faults of fields, lines and files: the number, the line and the byte of each.
use Rattle.std.specs.Prelude.{◌≡◌, ℕ, ◌+◌, ◌≤◌, Bool, cond, Some, None, Ok, Err, Option, Result}
use Rattle.refusals.specs.declared.refusal.Refusal.{Refusal}
use Rattle.refusals.specs.declared.refusal.Refusal.TheVariants.{WrongNames, MalformedFigure, DayOutOfTurn, WrongFields, TooManyDays, MayNotEnter}
use Rattle.refusals.specs.declared.refusal.Place.{Place}
use Rattle.refusals.specs.Table.{number, day as day_of}
use Rattle.refusals.specs.declared.fault.FieldFault.{FieldFault}
use Rattle.refusals.specs.declared.fault.FieldFault.TheVariants.{BadName, BadFigure, BadDay}
use Rattle.refusals.specs.declared.fault.FaultAtLine.{FaultAtLine}
use Rattle.refusals.specs.declared.fault.LineFault.{LineFault}
use Rattle.refusals.specs.declared.fault.LineFault.TheVariants.{InField, BadCount, BeyondDays, BadTotal}
use Rattle.refusals.specs.declared.fault.FileFault.{FileFault}
use Rattle.refusals.specs.declared.fault.FileFault.TheVariants.{Reading, ReadingWhole, Taking, Writing}

-- a field's fault: 10, 11 or 13, at its byte
abbrev pub field_refusal : FieldFault → Refusal
field_refusal (BadName byte) = WrongNames
field_refusal (BadFigure byte) = MalformedFigure
field_refusal (BadDay byte) = DayOutOfTurn

abbrev pub field_byte : FieldFault → ℕ
field_byte (BadName byte) = byte
field_byte (BadFigure byte) = byte
field_byte (BadDay byte) = byte

-- a line's fault: that of a field, or 12, 1 or 2 at the line's start
abbrev pub line_refusal : LineFault → Refusal
line_refusal (InField line fault) = field_refusal fault
line_refusal (BadCount line byte) = WrongFields
line_refusal (BeyondDays line byte) = TooManyDays
line_refusal (BadTotal line byte day) = MayNotEnter day

abbrev pub line_place : LineFault → Place
line_place (InField line fault) = record { line = line; byte = field_byte fault }
line_place (BadCount line byte) = record { line = line; byte = byte }
line_place (BeyondDays line byte) = record { line = line; byte = byte }
line_place (BadTotal line byte day) = record { line = line; byte = byte }

-- a file's fault: that of a line, or a refusal that has no place
abbrev pub refusal_of : FileFault → Refusal
refusal_of (Reading fault) = line_refusal fault
refusal_of (ReadingWhole refusal) = refusal
refusal_of (Taking refusal) = refusal
refusal_of (Writing refusal) = refusal

abbrev pub nowhere : Place
nowhere = record { line = 0; byte = 0 }

abbrev pub place_of : FileFault → Place
place_of (Reading fault) = line_place fault
place_of (ReadingWhole refusal) = nowhere
place_of (Taking refusal) = nowhere
place_of (Writing refusal) = nowhere

-- what a fault reports
pub record Finding : Type 0 where
  pub number : ℕ
  pub line : ℕ
  pub byte : ℕ

abbrev pub line_found : LineFault → Finding
line_found f = record { number = number (line_refusal f); line = (line_place f).line; byte = (line_place f).byte }

abbrev pub found : FileFault → Finding
found f = record { number = number (refusal_of f); line = (place_of f).line; byte = (place_of f).byte }

-- a fault of a line that was read: lines count from 1, and the line of a day is the day and 1
abbrev pub OnLine : LineFault → Type 0
OnLine (InField line fault) = 1 ≤ line
OnLine (BadCount line byte) = 1 ≤ line
OnLine (BeyondDays line byte) = 1 ≤ line
OnLine (BadTotal line byte day) = line ≡ day + 1

-- a fault of reading, and not of taking or writing: that of a line, or one without a place, which
-- names no day
abbrev pub InReading : FileFault → Type 0
InReading (Reading fault) = OnLine fault
InReading (ReadingWhole refusal) = day_of refusal ≡ 0
InReading (Taking refusal) = ⊥
InReading (Writing refusal) = ⊥

-- what a fault of reading reports tells it from every other
abbrev pub ToldApart : Type 0
ToldApart = (f g : FileFault) → InReading f → InReading g → found f ≡ found g → f ≡ g

-- a field's fault with its line
abbrev pub at_line : ℕ → FieldFault → FaultAtLine
at_line line fault = record { line = line; fault = fault }

-- a name or a figure that is wrong at a byte, if there is one
abbrev pub at_name : Option ℕ → Result (Unit {0}) FieldFault
at_name None = Ok tt
at_name (Some byte) = Err (BadName byte)

abbrev pub at_figure : Option ℕ → Result (Unit {0}) FieldFault
at_figure None = Ok tt
at_figure (Some byte) = Err (BadFigure byte)

-- a day that is out of turn at a byte
abbrev pub at_day : Bool → ℕ → Result (Unit {0}) FieldFault
at_day right byte = cond right (Ok tt) (Err (BadDay byte))
